-- `runs::zeros` meets its contract: `Zeroing` says how far the loop has come. Assumes nothing.
use Rattle.bits.proofs.Zeros.{Zeroing}
use Rattle.bits.proofs.runs.zeros.Given as goal

abbrev pub invariant-loop-place : goal.invariant-loop-place
invariant-loop-place g l =
    let numbers = g.W.Word.as_numbers in
    Zeroing (numbers l.initial.out) l.place-index (numbers l.out)
