-- `runs::nine_below` meets its contract: `Searching` says how far the loop has come, however many fields follow. Assumes nothing.
use Prim.Native.Nat.{ℕ, ◌≤◌}
use Rattle.bits.proofs.Above.{Searching}
use Rattle.bits.proofs.runs.nine_below.Given as goal

abbrev pub invariant-loop-i : goal.invariant-loop-i
invariant-loop-i l = (n : ℕ) → l.ready ≤ n → Searching l.width n l.packed l.most l.i l.start
