-- `windows::first_above` meets its contract: the loop goes on from the fields that are surely not above, and `Searching` says how far it has
-- come. Assumes nothing.
use Rattle.bits.proofs.Above.{Searching}
use Rattle.bits.proofs.windows.first_above.Given as goal

abbrev pub invariant-loop-i : goal.invariant-loop-i
invariant-loop-i l = Searching l.width l.count l.packed l.most l.i l.start
