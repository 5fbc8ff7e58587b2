-- `whole::scaled` meets its contract: the two products with the pair's powers are the scaled value, and no NaN. Assumes nothing.
use Rattle.std.proofs.Common.{◌∙◌}
use Rattle.decimal.proofs.Powers.{scaled-is, scaled-real}
use Rattle.decimal.proofs.whole.scaled.Goals as goal

pub bits_of-requires : goal.bits_of-requires
bits_of-requires g c = scaled-real c.args.scale.now.powers _ c.float.ensures c.two_products.ensures c.requires

pub returns : goal.returns
returns g c = c.bits_of.ensures ∙ scaled-is c.args.scale.now.powers _ c.float.ensures c.two_products.ensures
