-- `vector::check_list` meets its contract: the positions stand behind the packed fields, inside the vector. Assumes nothing.
use mathlib.Core.Path.{ap, ap₂, ◌∙◌}
use mathlib.Core.List.{List}
use Prim.Native.Nat.{ℕ, ◌+◌}
use native.Mathlib.Omega.{arith}
use lib.ListN.{drop}
use Rattle.digits.specs.Digits.{numbers}
use Rattle.rules.specs.Page.{vector_size}
use Rattle.rules.specs.Page as page
use Rattle.rules.specs.Verdict.{verdict}
use Rattle.rules.specs.Kind.{meta_bytes}
use Rattle.rules.specs.Read.{positions_rows}
use Rattle.rules.specs.Coded.{format_of}
use Rattle.checks.specs.Forms.{as_meta, no_position}
use Rattle.checks.proofs.Bounds.{positions-fit}
use Rattle.checks.proofs.Turns.{list_is}
use Rattle.checks.proofs.vector.check_list.Goals as goal

pub check_positions-requires : goal.check_positions-requires
check_positions-requires c =
    let fmt = format_of c.args.kind in
    let m = as_meta c.meta_at-m.result in
    omega (arith, positions-fit fmt c.args.n m, ap (vector_size fmt c.args.n) c.meta_at-m.ensures.meta_is)

pub returns : goal.returns
returns c =
    let a = c.args in
    let bs = a.part.now in
    let fmt = format_of a.kind in
    let m = c.meta_at-m in
    c.check_positions.ensures
    ∙ ap₂ (λ (x y : ℕ). verdict (positions_rows a.v a.n no_position (numbers 2 m.result.listed (drop (x + y) bs)))) c.meta_bytes-front.ensures.0 c.packed_size-packed.ensures.0
    ∙ ap (λ (x : List ℕ). verdict (positions_rows a.v a.n no_position x))
    (list_is fmt a.n (as_meta m.result) bs ∙ ap (λ (x : page.Meta). (page.raw_from fmt a.n x (drop (meta_bytes fmt) bs)).positions) m.ensures.meta_is)
