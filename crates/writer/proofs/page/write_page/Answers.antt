-- `page::write_page` meets its contract. Assumes nothing.
use mathlib.Core.Path.{◌≡◌, sym, ap, ◌∙◌, subst}
use Prim.Native.Nat.{ℕ, ◌+◌, ◌*◌}
use native.Mathlib.Omega.{arith}
use lib.ListN.{length}
use Rattle.std.specs.Iterator.Adapters.{enumerate_source, enumerate_count}
use Rattle.std.specs.Slice.Iter.{chunks_rest, chunks_size}
use Rattle.bits.proofs.WordLists.{length-numbers}
use Rattle.digits.specs.Lists.{over}
use Rattle.rules.specs.Page.{header}
use Rattle.rules.specs.Coded.{format_of, as_pair}
use Rattle.writer.proofs.Vectors.{Next, next_numbers, Planned, planned_by, pair_is, inside-pairs, pair-allowed, part_short}
use Rattle.writer.proofs.Recorded.{record_kept}
use Rattle.writer.proofs.Pages.{Begun, Writing, writing_start, offset-small, entry-room, vector-room, writing_next, writing_end, room_of_header}
use Rattle.writer.proofs.page.write_page.Given.{Over}
use Rattle.writer.proofs.page.write_page.Goals as goal
use Rattle.writer.proofs.page.write_page.Goals.{After-vectors_of-count, After-put_header, In-Some}

planned : (g : Over) (c : After-vectors_of-count g) → Planned (format_of g.V.Value.KIND) c.args.s c.size_of-size.result c.vectors_of-count.result c.args.pairs.now (g.V.Word.as_numbers c.args.values.now)
planned g c =
    planned_by c.requires.ready.settled (length c.args.values.now) c.from.result (sym (length-numbers g.met.V.Word.laws c.args.values.now)) (omega arith) c.size_of-size.ensures.0 c.vectors_of-count.ensures.0

pub put_header-requires : goal.put_header-requires
put_header-requires g c = room_of_header (format_of g.V.Value.KIND) c.args.s c.args.pairs.now (g.V.Word.as_numbers c.args.values.now) c.args.out.now c.requires.ready

begun : (g : Over) (c : After-put_header g) → (Planned (format_of g.V.Value.KIND) c.args.s c.size_of-size.result c.vectors_of-count.result c.args.pairs.now (g.V.Word.as_numbers c.args.values.now))
    → Begun (format_of g.V.Value.KIND) c.args.s c.size_of-size.result c.vectors_of-count.result c.args.pairs.now (g.V.Word.as_numbers c.args.values.now) c.args.out.now c.put_header.new.out
begun g c t = record {
  planned = t;
  room = c.requires.ready.room;
  headed = c.put_header.ensures ∙ ap (λ (n : ℕ). over (header c.args.s n) c.args.out.now) (sym (length-numbers g.met.V.Word.laws c.args.values.now));
}

pub loop-i-init : goal.loop-i-init
loop-i-init g c =
    let at = goal.at.loop-i-init g c in
    let it = c.into_iter-i-iterator in
    let source : enumerate_source it.result ≡ c.chunks.result = ap enumerate_source it.ensures.into_iter_gives ∙ c.enumerate-i-items.ensures.source in
    let first : enumerate_count it.result ≡ 0 = ap enumerate_count it.ensures.into_iter_gives ∙ c.enumerate-i-items.ensures.count in
    let rest = ap g.V.Word.as_numbers (ap chunks_rest source ∙ c.chunks.ensures.rest) in
    (ap chunks_size source ∙ c.chunks.ensures.size, writing_start (begun g at.After-put_header (planned g at.After-vectors_of-count)) _ _ first rest)

-- what is kept at the vector that comes, and this vector
here : (g : Over) (c : In-Some g) → let l = c.loop-i in
    Writing (format_of g.V.Value.KIND) c.args.s c.size_of-size.result c.vectors_of-count.result c.args.pairs.now (g.V.Word.as_numbers c.args.values.now) c.put_header.new.out c.in-Some.i (g.V.Word.as_numbers (chunks_rest (enumerate_source l.i-iterator))) l.offset l.out
here g c =
    let l = c.loop-i in
    subst
    (λ (k : ℕ). Writing (format_of g.V.Value.KIND) c.args.s c.size_of-size.result c.vectors_of-count.result c.args.pairs.now (g.V.Word.as_numbers c.args.values.now) c.put_header.new.out k (g.V.Word.as_numbers (chunks_rest (enumerate_source l.i-iterator))) l.offset l.out)
    (sym c.in-Some.ensures.steps.1) l.invariant.1

next : (g : Over) (c : In-Some g) → Next c.size_of-size.result (g.V.Word.as_numbers (chunks_rest (enumerate_source c.loop-i.i-iterator))) (g.V.Word.as_numbers c.in-Some.part.now) (g.V.Word.as_numbers (chunks_rest (enumerate_source c.next.new.self)))
next g c = next_numbers g.met.V.Word.laws c.size_of-size.result (chunks_size (enumerate_source c.loop-i.i-iterator)) c.loop-i.invariant.0 (chunks_rest (enumerate_source c.loop-i.i-iterator)) c.in-Some.part.now (chunks_rest (enumerate_source c.next.new.self)) c.in-Some.ensures.steps.0.1

pub pair_of-requires : goal.pair_of-requires
pair_of-requires g c =
    let at = goal.at.pair_of-requires g c in
    inside-pairs (planned g at.After-vectors_of-count) (here g at.In-Some).cut (next g at.In-Some)

pub scale_of-scale-requires : goal.scale_of-scale-requires
scale_of-scale-requires g c =
    let at = goal.at.scale_of-scale-requires g c in
    pair-allowed (planned g at.After-vectors_of-count) (here g at.In-Some).cut (next g at.In-Some) (as_pair c.pair_of.result) c.pair_of.ensures

pub at-seen-requires : goal.at-seen-requires
at-seen-requires g c =
    let at = goal.at.at-seen-requires g c in
    let t = planned g at.After-vectors_of-count in
    let short = part_short t (here g at.In-Some).cut (next g at.In-Some) in
    let n = length-numbers g.met.V.Word.laws c.in-Some.part.now in
    let p = as_pair c.scale_of-scale.result.pair in
    let pair = pair_is c.scale_of-scale.result.pair c.pair_of.result c.args.pairs.now (2 * c.in-Some.i) c.scale_of-scale.ensures c.pair_of.ensures in
    (omega (arith, short, n), record_kept t (here g at.In-Some).cut (next g at.In-Some) p pair c.args.records.of c.requires.kept)

pub put_vector-offset-requires-clause-counted : goal.put_vector-offset-requires-clause-counted
put_vector-offset-requires-clause-counted g c =
    let at = goal.at.put_vector-offset-requires-clause-counted g c in
    offset-small (begun g at.After-put_header (planned g at.After-vectors_of-count)) (here g at.In-Some)

pub put_vector-offset-requires-clause-listed : goal.put_vector-offset-requires-clause-listed
put_vector-offset-requires-clause-listed g c =
    let at = goal.at.put_vector-offset-requires-clause-listed g c in
    entry-room (begun g at.After-put_header (planned g at.After-vectors_of-count)) (here g at.In-Some) (next g at.In-Some)

pub put_vector-offset-requires-clause-room : goal.put_vector-offset-requires-clause-room
put_vector-offset-requires-clause-room g c =
    let at = goal.at.put_vector-offset-requires-clause-room g c in
    let p = as_pair c.scale_of-scale.result.pair in
    let pair = pair_is c.scale_of-scale.result.pair c.pair_of.result c.args.pairs.now (2 * c.in-Some.i) c.scale_of-scale.ensures c.pair_of.ensures in
    vector-room (begun g at.After-put_header (planned g at.After-vectors_of-count)) (here g at.In-Some) (next g at.In-Some) p pair

pub loop-i-preserved : goal.loop-i-preserved
loop-i-preserved g c =
    let at = goal.at.loop-i-preserved g c in
    let p = as_pair c.scale_of-scale.result.pair in
    let pair = pair_is c.scale_of-scale.result.pair c.pair_of.result c.args.pairs.now (2 * c.in-Some.i) c.scale_of-scale.ensures c.pair_of.ensures in
    let last = enumerate_count c.next.new.self in
    let one : last ≡ c.in-Some.i + 1 = omega (arith, c.in-Some.ensures.steps.1, c.in-Some.ensures.steps.2) in
    let put = c.put_vector-offset in
    (c.in-Some.ensures.steps.0.0 ∙ c.loop-i.invariant.0, writing_next (begun g at.After-put_header (planned g at.After-vectors_of-count)) (here g at.In-Some) (next g at.In-Some) p pair put.new.out put.result put.ensures.size put.ensures.bytes last one)

pub returns-clause-size : goal.returns-clause-size
returns-clause-size g c =
    let at = goal.at.returns-clause-size g c in
    (writing_end (begun g at.After-put_header (planned g at.After-vectors_of-count)) c.loop-i.invariant.1 (length-numbers g.met.V.Word.laws (chunks_rest (enumerate_source c.loop-i.i-iterator)) ∙ c.in-None.ensures.steps.0.1.0)).0

pub returns-clause-bytes : goal.returns-clause-bytes
returns-clause-bytes g c =
    let at = goal.at.returns-clause-bytes g c in
    (writing_end (begun g at.After-put_header (planned g at.After-vectors_of-count)) c.loop-i.invariant.1 (length-numbers g.met.V.Word.laws (chunks_rest (enumerate_source c.loop-i.i-iterator)) ∙ c.in-None.ensures.steps.0.1.0)).1
