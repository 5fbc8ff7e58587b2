-- `sizes::size_of` meets its contract. Assumes nothing.
use Rattle.checks.proofs.Bounds.{two_to}
use Rattle.checks.proofs.sizes.size_of.Goals as goal

pub returns : goal.returns
returns c = two_to c.args.s c.requires
