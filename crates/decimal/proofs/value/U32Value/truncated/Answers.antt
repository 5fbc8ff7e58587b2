-- `u32::truncated` meets its contract: the digits, shifted by the exponent's field, are the magnitude without its fraction. Assumes nothing.
use lib.Ieee.{binary32}
use Rattle.decimal.proofs.Rounding.{Cut, cut_is}
use Rattle.decimal.proofs.value.U32Value.truncated.Goals as goal
use Rattle.decimal.proofs.value.U32Value.truncated.Goals.{After-shifted-magnitude}

is : (c : After-shifted-magnitude) → Cut binary32 c.args.self c.shifted-magnitude.result
is c = cut_is binary32 c.args.self c.shifted-magnitude.result c.requires c.shifted-magnitude.ensures

pub overflow_cast-magnitude : goal.overflow_cast-magnitude
overflow_cast-magnitude c = (is c).fits

pub overflow_sub-result : goal.overflow_sub-result
overflow_sub-result c = (is c.before).minus

pub returns-then-self-lt2147483648 : goal.returns-then-self-lt2147483648
returns-then-self-lt2147483648 c = (is c.before).plus c.if-self-lt2147483648.true

pub returns-else-self-lt2147483648 : goal.returns-else-self-lt2147483648
returns-else-self-lt2147483648 c = (is c.before).less c.if-self-lt2147483648.false
