-- `values_in` meets its contract: the vectors before this one are full. Assumes nothing.
use mathlib.Core.Path.{◌≡◌, ap, ◌∙◌}
use mathlib.Core.List.{List}
use Prim.Native.Nat.{ℕ, ◌*◌, ◌^◌, ◌<◌}
use native.Mathlib.Omega.{arith}
use Rattle.rules.specs.Page.{s_of, count_of}
use Rattle.rules.specs.Verdict.{fine, verdict}
use Rattle.rules.specs.ReadVector.{number_rows}
use Rattle.rules.proofs.ReadingVector.{number-fine, values-before}
use Rattle.vector_reader.proofs.values_in.Goals as goal

-- they leave some values for it
some_left : (v : ℕ) (page : List ℕ) (size s : ℕ) → verdict (number_rows v page) ≡ fine → size ≡ 2 ^ s → s ≡ s_of page → v * size < count_of page
some_left v page size s ok es e =
    let full : v * size ≡ v * 2 ^ s_of page = ap (λ (x : ℕ). v * x) (es ∙ ap (λ (x : ℕ). 2 ^ x) e) in
    omega (arith, full, values-before v page (number-fine v page ok).there)

pub s_of-requires : goal.s_of-requires
s_of-requires c = (number-fine c.args.number c.args.page.now c.requires).head.eight

pub size_of-size-requires : goal.size_of-size-requires
size_of-size-requires c = omega (arith, (number-fine c.args.number c.args.page.now c.requires).head.high, c.s_of.ensures)

pub overflow_mul-before : goal.overflow_mul-before
overflow_mul-before c =
    let left = some_left c.args.number c.args.page.now c.size_of-size.result c.s_of.result c.requires c.size_of-size.ensures.0 c.s_of.ensures in
    omega (arith, left, (number-fine c.args.number c.args.page.now c.requires).head.many)

pub count_of-requires : goal.count_of-requires
count_of-requires c = (number-fine c.args.number c.args.page.now c.requires).head.eight

pub overflow_sub-count_of : goal.overflow_sub-count_of
overflow_sub-count_of c =
    let left = some_left c.args.number c.args.page.now c.size_of-size.result c.s_of.result c.requires c.size_of-size.ensures.0 c.s_of.ensures in
    omega (arith, left, c.count_of.ensures.0)
