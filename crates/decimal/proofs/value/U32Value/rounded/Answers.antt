-- `u32::rounded` meets its contract: the sum and the difference are the rule's, the literal being the constant. Assumes nothing.
use Rattle.std.proofs.Common.{refl}
use lib.Ieee.{binary32, round, of_int, of_bits}
use Rattle.decimal.proofs.Rounding.{under_real, made_real, made_bits}
use Rattle.decimal.proofs.value.U32Value.rounded.Goals as goal

pub float_from_bits-raised : goal.float_from_bits-raised
float_from_bits-raised c = under_real binary32 _ c.requires

pub float_to_bits-result : goal.float_to_bits-result
float_to_bits-result c = made_real binary32 _ c.requires _ (unfold of_bits of_int round in refl)

pub returns : goal.returns
returns c = made_bits binary32 _ c.requires _ (unfold of_bits of_int round in refl)
