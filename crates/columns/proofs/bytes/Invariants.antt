-- `bytes` meets its contract: `Storing` says how far the loop has come. Assumes nothing.
use Rattle.columns.proofs.Column.{Storing}
use Rattle.columns.proofs.bytes.Given as goal

abbrev pub invariant-loop-word : goal.invariant-loop-word
invariant-loop-word g l =
    let w = g.W.Word in
    Storing w.BYTES (w.as_numbers l.words) l.initial.out l.word-index l.at l.out
