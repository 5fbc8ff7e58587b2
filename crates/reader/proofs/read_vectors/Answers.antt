-- `read_vectors` meets its contract: `Reading` says how far the loop has come. Assumes nothing.
use mathlib.Core.Path.{ap, ◌∙◌}
use Prim.Native.Nat.{ℕ, ◌^◌}
use native.Mathlib.Omega.{arith}
use Rattle.rules.specs.Coded.{format_of}
use Rattle.reader.proofs.Turns.{reader_head, reader_header, reading_start, next-meta, next-room, next-readable, reading_next, reading_end}
use Rattle.reader.proofs.read_vectors.Goals as goal

pub s_of-requires : goal.s_of-requires
s_of-requires g c = (reader_head (format_of g.V.Value.KIND) _ _ c.requires).eight

pub size_of-size-requires : goal.size_of-size-requires
size_of-size-requires g c = omega (arith, (reader_head (format_of g.V.Value.KIND) _ _ c.requires).high, c.s_of.ensures)

pub vectors_in-many-requires : goal.vectors_in-many-requires
vectors_in-many-requires g c = reader_header (format_of g.V.Value.KIND) _ _ c.requires

pub count_of-left-requires : goal.count_of-left-requires
count_of-left-requires g c = (reader_head (format_of g.V.Value.KIND) _ _ c.requires).eight

pub loop-init : goal.loop-init
loop-init g c =
    let page = c.args.page.now in
    let size = c.size_of-size.ensures.0 ∙ ap (λ (x : ℕ). 2 ^ x) c.s_of.ensures in
    reading_start (format_of g.V.Value.KIND) page c.size_of-size.result c.vectors_in-many.result c.count_of-left.result size c.vectors_in-many.ensures.0 c.count_of-left.ensures.0 g.met.V.Word.laws c.args.out.now c.requires

pub meta_at-m-requires : goal.meta_at-m-requires
meta_at-m-requires g c = next-meta g.met.V.Word.laws c.loop.invariant c.min-n.result c.loop-test.true c.min-n.ensures (ap format_of c.KIND.ensures)

pub overflow_add-end : goal.overflow_add-end
overflow_add-end g c = omega (arith, next-room g.met.V.Word.laws c.loop.invariant c.min-n.result c.loop-test.true c.min-n.ensures)

pub slice_bounds-read_vector-end : goal.slice_bounds-read_vector-end
slice_bounds-read_vector-end g c = omega (arith, next-room g.met.V.Word.laws c.loop.invariant c.min-n.result c.loop-test.true c.min-n.ensures)

pub read_vector-requires : goal.read_vector-requires
read_vector-requires g c = next-readable g.met.V.Word.laws c.loop.invariant c.min-n.result c.loop-test.true c.min-n.ensures (ap format_of c.KIND.ensures) c.meta_at-m.result c.meta_at-m.ensures c.size_of-size.ensures.2

pub loop-preserved : goal.loop-preserved
loop-preserved g c =
    reading_next g.met.V.Word.laws c.loop.invariant c.min-n.result c.loop-test.true c.min-n.ensures (ap format_of c.KIND.ensures) (ap format_of c.KIND-in-loop.ensures) c.meta_at-m.result c.meta_at-m.ensures c.vector_size-at.result c.vector_size-at.ensures c.read_vector.new.out c.read_vector.ensures

pub returns : goal.returns
returns g c = reading_end g.met.V.Word.laws c.loop.invariant c.loop-test.false
