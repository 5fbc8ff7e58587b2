-- `examine_vectors` meets its contract: `Examining` says how far the loop has come. Assumes nothing.
use mathlib.Core.Path.{ap, ◌∙◌}
use Prim.Native.Nat.{ℕ, ◌^◌}
use native.Mathlib.Omega.{arith}
use Rattle.rules.specs.Coded.{format_of}
use Rattle.rules.proofs.Reading.{page_header, page_fine}
use Rattle.examiner.proofs.Turns.{examining_start, next-laid, next-meta, next-refuses, examining_next, examining_end}
use Rattle.examiner.proofs.examine_vectors.Goals as goal

pub s_of-requires : goal.s_of-requires
s_of-requires g c = (page_fine (format_of g.V.Value.KIND) c.args.page.now c.requires).0.eight

pub size_of-size-requires : goal.size_of-size-requires
size_of-size-requires g c = omega (arith, (page_fine (format_of g.V.Value.KIND) c.args.page.now c.requires).0.high, c.s_of.ensures)

pub vectors_in-many-requires : goal.vectors_in-many-requires
vectors_in-many-requires g c = page_header (format_of g.V.Value.KIND) c.args.page.now c.requires

pub count_of-left-requires : goal.count_of-left-requires
count_of-left-requires g c = (page_fine (format_of g.V.Value.KIND) c.args.page.now c.requires).0.eight

pub loop-v-init : goal.loop-v-init
loop-v-init g c =
    let size = c.size_of-size.ensures.0 ∙ ap (λ (x : ℕ). 2 ^ x) c.s_of.ensures in
    examining_start (format_of g.V.Value.KIND) c.args.page.now c.size_of-size.result c.vectors_in-many.result c.count_of-left.result size c.vectors_in-many.ensures.0 c.count_of-left.ensures.0 c.requires

pub inspect_vector-requires : goal.inspect_vector-requires
inspect_vector-requires g c = next-laid c.loop-v.invariant c.min-n.result (omega (arith, c.loop-v-test.true)) c.min-n.ensures c.size_of-size.ensures.2

pub returns-in_err-inspect_vector : goal.returns-in_err-inspect_vector
returns-in_err-inspect_vector g c =
    next-refuses c.loop-v.invariant c.min-n.result (omega (arith, c.loop-v-test.true)) c.min-n.ensures c.inspect_vector.result c.inspect_vector.ensures c.from_residual.result c.in_err-inspect_vector.field-0.0 c.in_err-inspect_vector.was c.from_residual.ensures.1

pub meta_at-m-requires : goal.meta_at-m-requires
meta_at-m-requires g c = next-meta c.loop-v.invariant c.min-n.result (omega (arith, c.loop-v-test.true)) c.min-n.ensures (ap format_of c.KIND.ensures)

pub loop-v-preserved : goal.loop-v-preserved
loop-v-preserved g c =
    examining_next c.loop-v.invariant c.min-n.result (omega (arith, c.loop-v-test.true)) c.min-n.ensures c.inspect_vector.result c.inspect_vector.ensures (ap format_of c.KIND.ensures) (ap format_of c.KIND-in-loop-v.ensures) c.meta_at-m.result
    c.meta_at-m.ensures c.vector_size-at.result c.vector_size-at.ensures c.in_ok-inspect_vector.was

pub returns : goal.returns
returns g c = examining_end c.loop-v.invariant c.loop-v-test.false
