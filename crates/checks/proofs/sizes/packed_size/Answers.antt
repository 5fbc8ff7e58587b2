-- `sizes::packed_size` meets its contract: the bits of a vector's fields can be counted. Assumes nothing.
use mathlib.Core.Path.{refl}
use native.Mathlib.Omega.{arith}
use Rattle.checks.proofs.Bounds.{few-bits}
use Rattle.checks.proofs.sizes.packed_size.Goals as goal

pub overflow_mul-result : goal.overflow_mul-result
overflow_mul-result c = omega (arith, few-bits c.args.n c.args.width c.requires.0 c.requires.1)

pub overflow_add-result : goal.overflow_add-result
overflow_add-result c = omega (arith, few-bits c.args.n c.args.width c.requires.0 c.requires.1)

pub returns : goal.returns
returns c = (refl, omega (arith, few-bits c.args.n c.args.width c.requires.0 c.requires.1))
