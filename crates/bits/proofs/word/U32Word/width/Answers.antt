-- `Word::width` of 32 bits meets its contract, by `width_is`. Assumes nothing.
use native.Mathlib.Omega.{arith}
use lib.Count.{leading_le}
use Rattle.bits.proofs.Laws.{width_is}
use Rattle.bits.proofs.word.U32Word.width.Goals as goal

pub overflow_sub-result : goal.overflow_sub-result
overflow_sub-result c = omega (arith, leading_le 32 c.args.self)

pub returns : goal.returns
returns c = let w = width_is 32 c.args.self c.ranges.self.fits in record { is = w.0; fits = w.1 }
