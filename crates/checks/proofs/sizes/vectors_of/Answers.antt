-- `sizes::vectors_of` meets its contract. Assumes nothing.
use mathlib.Core.Path.{refl}
use Rattle.checks.proofs.Bounds.{few-vectors}
use Rattle.checks.proofs.sizes.vectors_of.Goals as goal

pub returns : goal.returns
returns c = (refl, few-vectors c.args.n c.args.size c.requires.1)
