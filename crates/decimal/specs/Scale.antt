-- What the four powers of a pair are. Assumes nothing.
use Rattle.std.specs.Prelude.{◌≡◌, Float}
use Rattle.std.specs.Float.{Format}
use Rattle.rules.specs.Decimal.{Pair, power, neg_power}
use Rattle.rules.specs.Write.{Allowed}

-- the four floats are the powers of the pair p, which is inside the kind's limits: 10^e, 10^-f, 10^f, 10^-e
pub record Scales (fmt : Format) (p : Pair) (up-e down-f up-f down-e : Float) : Type 0 where
  pub allowed : Allowed fmt p
  pub up_exponent : up-e ≡ power fmt p.exponent
  pub down_factor : down-f ≡ neg_power fmt p.factor
  pub up_factor : up-f ≡ power fmt p.factor
  pub down_exponent : down-e ≡ neg_power fmt p.exponent
