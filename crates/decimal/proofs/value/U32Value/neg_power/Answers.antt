-- `u32::neg_power` meets its contract: the entry at k is the power, by the test of the whole table. Assumes nothing.
use lib.Ieee.{binary32}
use Rattle.decimal.proofs.Powers.{neg_power-at}
use Rattle.decimal.proofs.value.U32Value.neg_power.Goals as goal

pub returns : goal.returns
returns c = neg_power-at binary32 c.args.k c.requires
