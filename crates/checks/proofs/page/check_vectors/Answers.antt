-- `page::check_vectors` meets its contract: the rows of all vectors are those of the vectors from the loop's place on. Assumes nothing.
use mathlib.Core.Path.{ap, ◌∙◌}
use Prim.Native.Nat.{ℕ, ◌+◌, ◌^◌}
use native.Mathlib.Omega.{arith}
use Rattle.digits.proofs.Lists.{lent, lent_is}
use Rattle.rules.specs.Page.{s_of, offsets_of, body_of, vector_size}
use Rattle.rules.specs.Verdict.{verdict}
use Rattle.rules.specs.Read.{start, vectors_rows}
use Rattle.rules.specs.Coded.{format_of}
use Rattle.rules.proofs.Reading.{header-fine, offsets-fine}
use Rattle.checks.proofs.Turns.{vectors-start, Checked, vector-refuses, vector-shown, vector-inside, vector-next, no14, ends}
use Rattle.checks.proofs.page.check_vectors.Goals as goal
use Rattle.checks.proofs.page.check_vectors.Goals.{After-check_vector}

pub s_of-s-requires : goal.s_of-s-requires
s_of-s-requires c = (header-fine c.args.page.now c.requires.0).eight

pub size_of-size-requires : goal.size_of-size-requires
size_of-size-requires c = omega (arith, (header-fine c.args.page.now c.requires.0).high)

pub count_of-left-requires : goal.count_of-left-requires
count_of-left-requires c = (header-fine c.args.page.now c.requires.0).eight

pub loop-v-init : goal.loop-v-init
loop-v-init c =
    let page = c.args.page.now in
    let room = offsets-fine page c.requires.1 in
    let size = c.size_of-size.ensures.0 ∙ ap (λ (x : ℕ). 2 ^ x) c.s_of-s.ensures in
    (omega arith, omega arith, vectors-start (format_of c.args.kind) page c.size_of-size.result c.vectors_in-many.result c.count_of-left.result size c.vectors_in-many.ensures.0 c.count_of-left.ensures.0)

checked : (c : After-check_vector) → let page = c.args.page.now in let l = c.loop-v in let fmt = format_of c.args.kind in
    Checked fmt page (lent (8 + l.at) page) c.size_of-size.result c.vectors_in-many.result l.v l.at l.left c.read-offset.result
    (verdict (vectors_rows fmt (2 ^ s_of page) (start page) (offsets_of page) (body_of page))) c.check_vector.result
checked c =
    let l = c.loop-v in
    record {
      more = c.loop-v-test.true;
      fits = l.invariant.1;
      part_is = lent_is (8 + l.at) c.args.page.now;
      offset_is = c.read-offset.ensures;
      rows_left = l.invariant.2;
      gave = c.check_vector.ensures;
    }

pub returns-in_err-check_vector : goal.returns-in_err-check_vector
returns-in_err-check_vector c =
    vector-refuses (checked (goal.at.returns-in_err-check_vector c).After-check_vector) c.from_residual.result c.in_err-check_vector.field-0.0 c.in_err-check_vector.was c.from_residual.ensures.1

pub meta_at-m-requires : goal.meta_at-m-requires
meta_at-m-requires c = (vector-shown (checked (goal.at.meta_at-m-requires c).After-check_vector) c.in_ok-check_vector.was).room

pub loop-v-preserved : goal.loop-v-preserved
loop-v-preserved c =
    let n = c.values_here-n in
    let k = c.vector_size-at in
    let size = k.ensures ∙ ap (vector_size (format_of c.args.kind) n.result) c.meta_at-m.ensures.meta_is in
    let here = checked (goal.at.loop-v-preserved c).After-check_vector in
    let ok = c.in_ok-check_vector.was in
    (c.loop-v.invariant.0, vector-inside here ok n.result k.result n.ensures size, vector-next here ok n.result k.result n.ensures size)

pub returns-then-at-page : goal.returns-then-at-page
returns-then-at-page c =
    let a = c.args in
    let l = c.loop-v in
    c.refuses.ensures
    ∙ no14 (format_of a.kind) a.page.now c.size_of-size.result c.vectors_in-many.result l.v l.at l.left _ c.loop-v-test.false l.invariant.1 l.invariant.2 c.if-at-page.true

pub returns : goal.returns
returns c =
    let a = c.args in
    let l = c.loop-v in
    ends (format_of a.kind) a.page.now c.size_of-size.result c.vectors_in-many.result l.v l.at l.left _ c.loop-v-test.false l.invariant.1 l.invariant.2 c.if-at-page.false
