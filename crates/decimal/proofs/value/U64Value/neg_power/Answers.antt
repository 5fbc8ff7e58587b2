-- `u64::neg_power` meets its contract: the entry at k is the power, by the test of the whole table. Assumes nothing.
use lib.Ieee.{binary64}
use Rattle.decimal.proofs.Powers.{neg_power-at}
use Rattle.decimal.proofs.value.U64Value.neg_power.Goals as goal

pub returns : goal.returns
returns c = neg_power-at binary64 c.args.k c.requires
