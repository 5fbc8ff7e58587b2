-- `scan::stand_in` meets its contract: the stand-in is that of the values that are left. Assumes nothing.
use mathlib.Core.Path.{◌≡◌}
use lib.ListN.{length}
use Rattle.rules.specs.Coded.{format_of, as_pair}
use Rattle.rules.specs.Vector.{tries, the_stand_in}
use Rattle.encode.proofs.scan.stand_in.Given as goal

abbrev pub invariant-loop-value : goal.invariant-loop-value
invariant-loop-value g l =
    the_stand_in (tries (format_of g.V.Value.KIND) (as_pair l.scale.pair) (g.V.Word.as_numbers l.initial.values))
    ≡ the_stand_in (tries (format_of g.V.Value.KIND) (as_pair l.scale.pair) (g.V.Word.as_numbers l.rest))

abbrev pub decreases-loop-value : goal.decreases-loop-value
decreases-loop-value g l = length l.rest
