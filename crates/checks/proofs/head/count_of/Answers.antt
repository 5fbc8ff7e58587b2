-- `head::count_of` meets its contract. Assumes nothing.
use Rattle.rules.specs.Page.{count_of}
use native.Mathlib.Omega.{arith}
use Rattle.checks.proofs.head.count_of.Goals as goal

pub returns : goal.returns
unfolding count_of
returns c = (c.read.ensures, omega arith)
