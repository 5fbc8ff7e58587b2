-- `u64::truncated` meets its contract: the digits, shifted by the exponent's field, are the magnitude without its fraction. Assumes nothing.
use lib.Ieee.{binary64}
use Rattle.decimal.proofs.Rounding.{Cut, cut_is}
use Rattle.decimal.proofs.value.U64Value.truncated.Goals as goal
use Rattle.decimal.proofs.value.U64Value.truncated.Goals.{After-shifted-magnitude}

is : (c : After-shifted-magnitude) → Cut binary64 c.args.self c.shifted-magnitude.result
is c = cut_is binary64 c.args.self c.shifted-magnitude.result c.requires c.shifted-magnitude.ensures

pub overflow_cast-magnitude : goal.overflow_cast-magnitude
overflow_cast-magnitude c = (is c).fits

pub overflow_sub-result : goal.overflow_sub-result
overflow_sub-result c = (is c.before).minus

pub returns-then-self-lt9223372036854775808 : goal.returns-then-self-lt9223372036854775808
returns-then-self-lt9223372036854775808 c = (is c.before).plus c.if-self-lt9223372036854775808.true

pub returns-else-self-lt9223372036854775808 : goal.returns-else-self-lt9223372036854775808
returns-else-self-lt9223372036854775808 c = (is c.before).less c.if-self-lt9223372036854775808.false
