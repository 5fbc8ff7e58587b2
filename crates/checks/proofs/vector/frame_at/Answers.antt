-- `vector::frame_at` meets its contract: a frame has as many bytes as its kind's word. Assumes nothing.
use mathlib.Core.Path.{◌∙◌}
use native.Mathlib.Omega.{arith}
use Rattle.checks.proofs.vector.frame_at.Goals as goal

pub read-requires : goal.read-requires
read-requires c = omega (arith, rw c.in-Single.is at c.requires)

pub read-requires-in-Double : goal.read-requires-in-Double
read-requires-in-Double c = omega (arith, rw c.in-Double.is at c.requires)

pub returns-in-Single : goal.returns-in-Single
returns-in-Single c = rw c.in-Single.is (c.number.ensures.is ∙ c.read.ensures, c.number.ensures.fits)

pub returns-in-Double : goal.returns-in-Double
returns-in-Double c = rw c.in-Double.is (c.read-in-Double.ensures, c.read-in-Double.type_inv)
