-- `kind::half_range` meets its contract. Assumes nothing.
use mathlib.Core.Path.{refl}
use lib.Dec.{lit<, lit≤}
use Rattle.checks.proofs.kind.half_range.Goals as goal

pub returns-in-Single : goal.returns-in-Single
returns-in-Single c = rw c.in-Single.is (refl, lit< tt, lit≤ tt)

pub returns-in-Double : goal.returns-in-Double
returns-in-Double c = rw c.in-Double.is (refl, lit< tt, lit≤ tt)
