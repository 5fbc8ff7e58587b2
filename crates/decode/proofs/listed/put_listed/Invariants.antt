-- `listed::put_listed` meets its contract: `Putting` says how far the loop has come. Assumes nothing.
use Prim.Native.Nat.{◌+◌, ◌*◌}
use Rattle.decode.proofs.Laws.{Putting}
use Rattle.decode.proofs.listed.put_listed.Given as goal

abbrev pub invariant-loop-i : goal.invariant-loop-i
invariant-loop-i g l = Putting g.W.Word.BYTES l.part l.at (l.at + 2 * l.listed) l.listed (g.W.Word.as_numbers l.initial.out) l.i (g.W.Word.as_numbers l.out)
