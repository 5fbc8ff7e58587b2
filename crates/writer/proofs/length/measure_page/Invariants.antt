-- `length::measure_page` meets its contract: the size so far, and the records. Assumes nothing.
use Rattle.std.proofs.Common.{◌≡◌}
use Rattle.std.specs.Iterator.Adapters.{enumerate_source, enumerate_count}
use Rattle.std.specs.Slice.Iter.{chunks_rest, chunks_size}
use Rattle.rules.specs.Coded.{format_of}
use Rattle.writer.specs.Recorded.{RecordedTo}
use Rattle.writer.proofs.Sizes.{Measuring}
use Rattle.writer.proofs.length.measure_page.Given as goal

abbrev pub invariant-loop-i : goal.invariant-loop-i
invariant-loop-i g l =
    let fmt = format_of g.V.Value.KIND in
    let vs = g.V.Word.as_numbers l.values in
    let i = enumerate_count l.i-iterator in
    let chunks = enumerate_source l.i-iterator in
    (chunks_size chunks ≡ l.size) × Measuring fmt l.s l.size l.count l.pairs vs i (g.V.Word.as_numbers (chunks_rest chunks)) l.total × RecordedTo fmt l.size l.pairs vs i l.records.of
