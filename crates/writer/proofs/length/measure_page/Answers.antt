-- `length::measure_page` meets its contract. Assumes nothing.
use mathlib.Core.Path.{◌≡◌, refl, sym, ap, ◌∙◌, subst}
use Prim.Native.Nat.{ℕ, ◌+◌, ◌*◌}
use native.Mathlib.Omega.{arith}
use lib.ListN.{length}
use Rattle.std.specs.Iterator.Adapters.{enumerate_source, enumerate_count}
use Rattle.std.specs.Slice.Iter.{chunks_rest, chunks_size}
use Rattle.bits.proofs.WordLists.{length-numbers}
use Rattle.rules.specs.Coded.{format_of, as_pair}
use Rattle.encode.specs.Seen.{as_seen}
use Rattle.encode.proofs.Whole.{kept_is}
use Rattle.writer.specs.Recorded.{RecordedTo}
use Rattle.writer.proofs.Vectors.{Next, next_numbers, Planned, planned_by, pair_is, inside-pairs, pair-allowed, part_short, cut_all}
use Rattle.writer.proofs.Sizes.{Measuring, measuring_start, total_small, measuring_next, measuring_end}
use Rattle.writer.proofs.Recorded.{recorded_none, recorded_more, recorded_all}
use Rattle.writer.proofs.length.measure_page.Given.{Over}
use Rattle.writer.proofs.length.measure_page.Goals as goal
use Rattle.writer.proofs.length.measure_page.Goals.{After-vectors_of-count, In-Some}

planned : (g : Over) (c : After-vectors_of-count g) → Planned (format_of g.V.Value.KIND) c.args.s c.size_of-size.result c.vectors_of-count.result c.args.pairs.now (g.V.Word.as_numbers c.args.values.now)
planned g c =
    planned_by c.requires (length c.args.values.now) c.from.result (sym (length-numbers g.met.V.Word.laws c.args.values.now)) (omega arith) c.size_of-size.ensures.0 c.vectors_of-count.ensures.0

pub loop-i-init : goal.loop-i-init
loop-i-init g c =
    let it = c.into_iter-i-iterator in
    let source : enumerate_source it.result ≡ c.chunks.result = ap enumerate_source it.ensures.into_iter_gives ∙ c.enumerate-i-items.ensures.source in
    let first : enumerate_count it.result ≡ 0 = ap enumerate_count it.ensures.into_iter_gives ∙ c.enumerate-i-items.ensures.count in
    let rest = ap g.V.Word.as_numbers (ap chunks_rest source ∙ c.chunks.ensures.rest) in
    let t = planned g (goal.at.loop-i-init g c).After-vectors_of-count in
    (ap chunks_size source ∙ c.chunks.ensures.size, measuring_start t _ _ first rest, recorded_none _ _ _ _ _ _ first)

-- what is kept at the vector that comes, and this vector
here : (g : Over) (c : In-Some g) → let fmt = format_of g.V.Value.KIND in let vs = g.V.Word.as_numbers c.args.values.now in let l = c.loop-i in
    Measuring fmt c.args.s c.size_of-size.result c.vectors_of-count.result c.args.pairs.now vs c.in-Some.i (g.V.Word.as_numbers (chunks_rest (enumerate_source l.i-iterator))) l.total
    × RecordedTo fmt c.size_of-size.result c.args.pairs.now vs c.in-Some.i l.records.of
here g c =
    let fmt = format_of g.V.Value.KIND in
    let vs = g.V.Word.as_numbers c.args.values.now in
    let l = c.loop-i in
    subst
    (λ (k : ℕ). Measuring fmt c.args.s c.size_of-size.result c.vectors_of-count.result c.args.pairs.now vs k (g.V.Word.as_numbers (chunks_rest (enumerate_source l.i-iterator))) l.total
    × RecordedTo fmt c.size_of-size.result c.args.pairs.now vs k l.records.of)
    (sym c.in-Some.ensures.steps.1) (l.invariant.1, l.invariant.2)

next : (g : Over) (c : In-Some g) → Next c.size_of-size.result (g.V.Word.as_numbers (chunks_rest (enumerate_source c.loop-i.i-iterator))) (g.V.Word.as_numbers c.in-Some.part.now) (g.V.Word.as_numbers (chunks_rest (enumerate_source c.next.new.self)))
next g c = next_numbers g.met.V.Word.laws c.size_of-size.result (chunks_size (enumerate_source c.loop-i.i-iterator)) c.loop-i.invariant.0 (chunks_rest (enumerate_source c.loop-i.i-iterator)) c.in-Some.part.now (chunks_rest (enumerate_source c.next.new.self)) c.in-Some.ensures.steps.0.1

pub pair_of-requires : goal.pair_of-requires
pair_of-requires g c =
    let at = goal.at.pair_of-requires g c in
    inside-pairs (planned g at.After-vectors_of-count) (here g at.In-Some).0.cut (next g at.In-Some)

pub scale_of-scale-requires : goal.scale_of-scale-requires
scale_of-scale-requires g c =
    let at = goal.at.scale_of-scale-requires g c in
    pair-allowed (planned g at.After-vectors_of-count) (here g at.In-Some).0.cut (next g at.In-Some) (as_pair c.pair_of.result) c.pair_of.ensures

pub vector_size-total-requires : goal.vector_size-total-requires
vector_size-total-requires g c =
    let at = goal.at.vector_size-total-requires g c in
    kept_is (format_of g.V.Value.KIND) (as_pair c.scale_of-scale.result.pair) (g.V.Word.as_numbers c.in-Some.part.now) (as_seen c.of-seen.result) c.of-seen.ensures
    (part_short (planned g at.After-vectors_of-count) (here g at.In-Some).0.cut (next g at.In-Some))

pub overflow_add-total-in-loop-i : goal.overflow_add-total-in-loop-i
overflow_add-total-in-loop-i g c =
    let at = goal.at.overflow_add-total-in-loop-i g c in
    let t = planned g at.After-vectors_of-count in
    let pair = pair_is c.scale_of-scale.result.pair c.pair_of.result c.args.pairs.now (2 * c.in-Some.i) c.scale_of-scale.ensures c.pair_of.ensures in
    omega (arith, total_small t (measuring_next t (here g at.In-Some).0 (next g at.In-Some) (as_pair c.scale_of-scale.result.pair) pair (as_seen c.of-seen.result) c.of-seen.ensures c.vector_size-total.result c.vector_size-total.ensures (c.in-Some.i + 1) refl))

pub loop-i-preserved : goal.loop-i-preserved
loop-i-preserved g c =
    let at = goal.at.loop-i-preserved g c in
    let t = planned g at.After-vectors_of-count in
    let h = here g at.In-Some in
    let n = next g at.In-Some in
    let p = as_pair c.scale_of-scale.result.pair in
    let pair = pair_is c.scale_of-scale.result.pair c.pair_of.result c.args.pairs.now (2 * c.in-Some.i) c.scale_of-scale.ensures c.pair_of.ensures in
    let last = enumerate_count c.next.new.self in
    let one : last ≡ c.in-Some.i + 1 = omega (arith, c.in-Some.ensures.steps.1, c.in-Some.ensures.steps.2) in (
      c.in-Some.ensures.steps.0.0 ∙ c.loop-i.invariant.0,
      measuring_next t h.0 n p pair (as_seen c.of-seen.result) c.of-seen.ensures c.vector_size-total.result c.vector_size-total.ensures last one,
      recorded_more t h.0.cut n p pair c.loop-i.records.of c.of-seen.result h.1 c.of-seen.ensures c.with-records.result.of c.with-records.ensures last one,
    )

pub returns-clause-size : goal.returns-clause-size
returns-clause-size g c =
    let at = goal.at.returns-clause-size g c in
    measuring_end (planned g at.After-vectors_of-count) c.loop-i.invariant.1 (length-numbers g.met.V.Word.laws (chunks_rest (enumerate_source c.loop-i.i-iterator)) ∙ c.in-None.ensures.steps.0.1.0)

pub returns-clause-kept : goal.returns-clause-kept
returns-clause-kept g c =
    let at = goal.at.returns-clause-kept g c in
    let t = planned g at.After-vectors_of-count in
    recorded_all t c.loop-i.records.of (enumerate_count c.loop-i.i-iterator)
    (cut_all t c.loop-i.invariant.1.cut (length-numbers g.met.V.Word.laws (chunks_rest (enumerate_source c.loop-i.i-iterator)) ∙ c.in-None.ensures.steps.0.1.0)) c.loop-i.invariant.2
