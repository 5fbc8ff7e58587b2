-- The bytes that came have room, and each read that goes on brings some.
use Rattle.std.proofs.Common.{◌-◌, ◌≤◌, length}
use Rattle.files.proofs.fill.Given as goal

abbrev pub invariant-loop-at : goal.invariant-loop-at
invariant-loop-at g l = l.at ≤ length l.room

abbrev pub decreases-loop-at : goal.decreases-loop-at
decreases-loop-at g l = length l.room - l.at
