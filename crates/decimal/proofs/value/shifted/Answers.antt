-- `value::shifted` meets its contract: a shift up multiplies, a shift down divides, and 64 places leave nothing. Assumes nothing.
use Rattle.std.proofs.Common.{◌∙◌, arith, shl_exact}
use Rattle.decimal.proofs.Rounding.{shift-up, shift-down, shift-out}
use Rattle.decimal.proofs.value.shifted.Goals as goal

pub returns-then-bias-exponent : goal.returns-then-bias-exponent
returns-then-bias-exponent c = shl_exact 53 _ 64 c.requires.0 (omega arith) ∙ shift-up _ _ _ c.if-bias-exponent.true

pub returns-then-places-ge64 : goal.returns-then-places-ge64
returns-then-places-ge64 c = shift-out _ _ _ c.requires.0 c.if-places-ge64.true

pub returns : goal.returns
returns c = shift-down _ _ _ (omega (arith, c.if-bias-exponent.false))
