-- `back::back` meets its contract: the two products with the pair's powers are the way back, and no NaN. Assumes nothing.
use Rattle.std.proofs.Common.{◌∙◌}
use Rattle.decimal.proofs.Powers.{back_is, back-real}
use Rattle.decimal.proofs.back.back.Goals as goal

pub bits_of-requires : goal.bits_of-requires
bits_of-requires g c = back-real c.args.scale.now.powers _ c.nearest.ensures c.two_products.ensures

pub returns : goal.returns
returns g c = c.bits_of.ensures ∙ back_is c.args.scale.now.powers _ c.nearest.ensures c.two_products.ensures
