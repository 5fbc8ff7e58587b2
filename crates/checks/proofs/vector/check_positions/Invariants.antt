-- `vector::check_positions` meets its contract: the rows of all positions are those of the positions from the loop's index on. Assumes nothing.
use mathlib.Core.Path.{◌≡◌}
use lib.ListN.{drop}
use Rattle.digits.specs.Digits.{numbers}
use Rattle.rules.specs.Verdict.{verdict}
use Rattle.rules.specs.Read.{positions_rows}
use Rattle.checks.specs.Forms.{no_position}
use Rattle.checks.proofs.Turns.{positions-left}
use Rattle.checks.proofs.vector.check_positions.Given as goal

abbrev pub invariant-loop-i : goal.invariant-loop-i
invariant-loop-i l = verdict (positions_rows l.v l.n no_position (numbers 2 l.listed (drop l.at l.part))) ≡ verdict (positions-left l.part l.at l.listed l.v l.n l.low l.i)
