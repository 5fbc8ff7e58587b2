-- `u64::nearest` meets its contract: the halves make the nearest float. Assumes nothing.
use Rattle.std.proofs.Common.{◌≡◌, refl}
use lib.Ieee.{binary64, of_bits}
use Rattle.decimal.proofs.Halves.{unit, halves_nearest}
use Rattle.decimal.proofs.value.U64Value.nearest.Goals as goal

-- the code's literal, by its bits
literal : of_bits binary64 4751297606875873280 ≡ unit binary64
unfolding of_bits
literal = refl

pub returns : goal.returns
returns c = halves_nearest binary64 _ _ _ c.ranges.self.fits (record { sfits = c.cast_signed-high.type_inv }) c.cast_signed-high.ensures literal
