-- `u64::power` meets its contract: the entry at k is the power, by the test of the whole table. Assumes nothing.
use lib.Ieee.{binary64}
use Rattle.decimal.proofs.Powers.{power_at}
use Rattle.decimal.proofs.value.U64Value.power.Goals as goal

pub returns : goal.returns
returns c = power_at binary64 c.args.k c.requires
