-- `words` meets its contract: `Loading` says how far the loop has come. Assumes nothing.
use Rattle.columns.proofs.Column.{Loading}
use Rattle.columns.proofs.words.Given as goal

abbrev pub invariant-loop-place : goal.invariant-loop-place
invariant-loop-place g l =
    let w = g.W.Word in
    Loading w.BYTES l.bytes (w.as_numbers l.initial.out) l.place-index l.at (w.as_numbers l.out)
