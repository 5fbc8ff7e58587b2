-- `page::write_page` meets its contract: how far the page has come. Assumes nothing.
use Rattle.std.proofs.Common.{◌≡◌}
use Rattle.std.specs.Iterator.Adapters.{enumerate_source, enumerate_count}
use Rattle.std.specs.Slice.Iter.{chunks_rest, chunks_size}
use Rattle.rules.specs.Coded.{format_of}
use Rattle.writer.proofs.Pages.{Writing}
use Rattle.writer.proofs.page.write_page.Given as goal

abbrev pub invariant-loop-i : goal.invariant-loop-i
invariant-loop-i g l =
    let chunks = enumerate_source l.i-iterator in
    (chunks_size chunks ≡ l.size)
    × Writing (format_of g.V.Value.KIND) l.s l.size l.count l.pairs (g.V.Word.as_numbers l.values) l.initial.out (enumerate_count l.i-iterator) (g.V.Word.as_numbers (chunks_rest chunks)) l.offset l.out
