-- The bytes that came have room.
use Rattle.std.proofs.Common.{◌≤◌, length}
use Rattle.calls.proofs.frames.Wire.read.Given as goal

abbrev pub invariant-loop : goal.invariant-loop
invariant-loop l = l.at ≤ length l.part
