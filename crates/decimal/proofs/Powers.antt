-- The tables of powers by their bits: one computed test says of each entry that it is the power. And floats that are a pair's powers take a
-- value to its scaled value and a whole number back, and never to a NaN. Assumes nothing.
use Rattle.std.proofs.Common.{◌≡◌, ℕ, zero, suc, ◌^◌, ◌<◌, ◌≤◌, Bool, false, T, eqb, List, [], ◌∷◌, map, length, get_or, ℤ, refl, ap, ◌∙◌, le_of_suc-le-suc, not-suc-le-zero, arith, eqb→eq}
use lib.Ieee.{Float, nan, Format, binary32, binary64, round, mul, of_int, of_bits, to_bits, fits, is_nan, nan_bits}
use lib.Ieee.Fits.{round-fits}
use lib.Ieee.Bits.{of_bits-to_bits}
use Rattle.rules.specs.Kind.{max_exponent}
use Rattle.rules.specs.Decimal.{Pair, power, neg_power, scaled, back}
use Rattle.rules.specs.Floats.{brought_back}
use Rattle.rules.proofs.Powers.{scaled_bits_no_nan, back_no_nan}
use Rattle.decimal.specs.Scale.{Scales}
use Rattle.decimal.proofs.Entries.{every, at}
use Rattle.decimal.proofs.Products.{two_products}

-- ---- the tables

abbrev powers : Format → List ℕ
powers binary32 =
    1065353216 ∷ 1092616192 ∷ 1120403456 ∷ 1148846080 ∷ 1176256512 ∷ 1203982336 ∷ 1232348160 ∷ 1259902592 ∷ 1287568416 ∷ 1315859240
    ∷ 1343554297 ∷ []
powers binary64 =
    4607182418800017408 ∷ 4621819117588971520 ∷ 4636737291354636288 ∷ 4652007308841189376 ∷ 4666723172467343360 ∷ 4681608360884174848
    ∷ 4696837146684686336 ∷ 4711630319722168320 ∷ 4726483295884279808 ∷ 4741671816366391296 ∷ 4756540486875873280 ∷ 4771362005757984768
    ∷ 4786511204640096256 ∷ 4801453603149578240 ∷ 4816244402031689728 ∷ 4831355200913801216 ∷ 4846369599423283200 ∷ 4861130398305394688
    ∷ 4876203697187506176 ∷ []

abbrev neg_powers : Format → List ℕ
neg_powers binary32 =
    1065353216 ∷ 1036831949 ∷ 1008981770 ∷ 981668463 ∷ 953267991 ∷ 925353388 ∷ 897988541 ∷ 869711765 ∷ 841731191 ∷ 814313567
    ∷ 786163455 ∷ []
neg_powers binary64 =
    4607182418800017408 ∷ 4591870180066957722 ∷ 4576918229304087675 ∷ 4562254508917369340 ∷ 4547007122018943789 ∷ 4532020583610935537
    ∷ 4517329193108106637 ∷ 4502148214488346440 ∷ 4487126258331716666 ∷ 4472406533629990549 ∷ 4457293557087583675 ∷ 4442235333156365461
    ∷ 4427486594234968593 ∷ 4412443251819771522 ∷ 4397347889687374747 ∷ 4382569440205035030 ∷ 4367597403136100796 ∷ 4352464011485697175
    ∷ 4337655138388951980 ∷ []

-- entry k is the power's bits
right : Format → (ℕ → Float) → ℕ → ℕ → Bool
right fmt want k x = eqb x (to_bits fmt (want k))

powers_right : (fmt : Format) → T (every (right fmt (power fmt)) 0 (powers fmt))
unfolding right power round to_bits
powers_right binary32 = tt
powers_right binary64 = tt

neg_powers_right : (fmt : Format) → T (every (right fmt (neg_power fmt)) 0 (neg_powers fmt))
unfolding right neg_power round to_bits
neg_powers_right binary32 = tt
neg_powers_right binary64 = tt

power-fits : (fmt : Format) (k : ℕ) → T (fits fmt (power fmt k))
unfolding power
power-fits fmt k = round-fits fmt false (10 ^ k) 1

neg_power-fits : (fmt : Format) (k : ℕ) → T (fits fmt (neg_power fmt k))
unfolding neg_power
neg_power-fits fmt k = round-fits fmt false 1 (10 ^ k)

long : (fmt : Format) (k : ℕ) → k ≤ max_exponent fmt → (k < length (powers fmt)) × (k < length (neg_powers fmt))
long binary32 k h = omega arith
long binary64 k h = omega arith

mapped : (g : ℕ → Float) (xs : List ℕ) (k : ℕ) → k < length xs → get_or (map g xs) k nan ≡ g (get_or xs k 0)
mapped g [] k h = absurd (not-suc-le-zero h)
mapped g (x ∷ xs) zero h = refl
mapped g (x ∷ xs) (suc k) h = mapped g xs k (le_of_suc-le-suc h)

-- what a table of floats holds at k
entry : (fmt : Format) (want : ℕ → Float) (xs : List ℕ) → ((k : ℕ) → T (fits fmt (want k))) → T (every (right fmt want) 0 xs) → (k : ℕ) → k < length xs → get_or (map (of_bits fmt) xs) k nan ≡ want k
unfolding right
entry fmt want xs fit t k h =
    mapped (of_bits fmt) xs k h ∙ ap (of_bits fmt) (eqb→eq (get_or xs k 0) (to_bits fmt (want k)) (at (right fmt want) xs t k h)) ∙ of_bits-to_bits fmt (want k) (fit k)

pub power_at : (fmt : Format) (k : ℕ) → k ≤ max_exponent fmt → get_or (map (of_bits fmt) (powers fmt)) k nan ≡ power fmt k
power_at fmt k h = entry fmt (power fmt) (powers fmt) (power-fits fmt) (powers_right fmt) k (long fmt k h).0

pub neg_power-at : (fmt : Format) (k : ℕ) → k ≤ max_exponent fmt → get_or (map (of_bits fmt) (neg_powers fmt)) k nan ≡ neg_power fmt k
neg_power-at fmt k h = entry fmt (neg_power fmt) (neg_powers fmt) (neg_power-fits fmt) (neg_powers_right fmt) k (long fmt k h).1

-- ---- with a pair's powers

-- what the code computes, r, by the two products of its callee
module _ {fmt : Format} {p : Pair} {a b c d : Float} (s : Scales fmt p a b c d) where
  module _ (v : ℕ) {x r : Float} (e : x ≡ of_bits fmt v) (q : r ≡ mul fmt (mul fmt x a) b) where
    scaled-same : r ≡ scaled fmt p (of_bits fmt v)
    unfolding scaled
    scaled-same = q ∙ two_products fmt e s.up_exponent s.down_factor

    pub scaled-is : to_bits fmt r ≡ to_bits fmt (scaled fmt p (of_bits fmt v))
    scaled-is = ap (to_bits fmt) scaled-same

    pub scaled-real : nan_bits fmt v ≡ false → is_nan r ≡ false
    scaled-real h = ap is_nan scaled-same ∙ scaled_bits_no_nan fmt p s.allowed v h

  module _ (z : ℤ) {x r : Float} (e : x ≡ of_int fmt z) (q : r ≡ mul fmt (mul fmt x c) d) where
    back-same : r ≡ brought_back fmt p z
    back-same = q ∙ two_products fmt e s.up_factor s.down_exponent

    pub back_is : to_bits fmt r ≡ back fmt p z
    unfolding back
    back_is = ap (to_bits fmt) back-same

    pub back-real : is_nan r ≡ false
    back-real = ap is_nan back-same ∙ back_no_nan fmt p s.allowed z
