-- One vector: its fields from its values (`encoded`), and its values from its fields (`decoded`). Bytes stand in Page. Assumes nothing.
use Rattle.std.specs.Prelude.{ℕ, zero, suc, max, cond, length, eqb, ℤ, pos, ◌+ℤ◌, ◌-ℤ◌, nat_abs}
use mathlib.Core.List.{List, [], ◌∷◌, map, zip_with}
use Rattle.std.proofs.Math.Option.{Option, none, some}
use Rattle.std.specs.Int.Signed.{le_z}
use Rattle.std.specs.Float.{Format}
use Rattle.std.specs.Float.Ieee.{size}
use Rattle.std.proofs.Common.{of_z, to_z}
use Rattle.digits.specs.Digits.{pack, unpack}
use Rattle.rules.specs.Kind.{word}
use Rattle.rules.specs.Decimal.{Pair, tried, back}

-- a vector as the page holds it, with the count of its values: `frame` and `exceptions` are bit patterns of the kind's word
pub record Raw : Type 0 where
  pub count : ℕ
  pub pair : Pair
  pub frame : ℕ
  pub width : ℕ
  pub packed : List ℕ
  pub positions : List ℕ
  pub exceptions : List ℕ

abbrev pub or_else {ℓ} : {A : Type ℓ} → A → Option A → A
or_else d none = d
or_else d (some a) = a

-- ---- writing

-- the whole number of each value, none for an exception
abbrev pub tries : Format → Pair → List ℕ → List (Option ℤ)
tries fmt p vs = map (tried fmt p) vs

-- the whole number of the first value in the vector that is no exception, or 0 if all are exceptions
unfoldable pub the_stand_in : List (Option ℤ) → ℤ
the_stand_in [] = pos 0
the_stand_in (none ∷ ts) = the_stand_in ts
the_stand_in (some z ∷ ts) = z

-- each exception's place takes the stand-in
abbrev pub filled : List (Option ℤ) → List ℤ
filled ts = map (or_else (the_stand_in ts)) ts

-- the smallest, signed (0 of none)
abbrev pub lesser : ℤ → ℤ → ℤ
lesser a b = cond (le_z a b) a b

unfoldable pub least_of : ℤ → List ℤ → ℤ
least_of z [] = z
least_of z (y ∷ ys) = least_of (lesser z y) ys

unfoldable pub least : List ℤ → ℤ
least [] = pos 0
least (z ∷ zs) = least_of z zs

-- fields: whole number minus frame, counted from 0
unfoldable pub fields_of : List ℤ → List ℕ
fields_of zs = map (λ (z : ℤ). nat_abs (z -ℤ least zs)) zs

unfoldable pub greatest : List ℕ → ℕ
greatest [] = 0
greatest (n ∷ ns) = max n (greatest ns)

-- width: the smallest number of bits that holds the largest field (`size n` counts the binary digits of n, none for 0)
unfoldable pub width_of : List ℕ → ℕ
width_of fs = size (greatest fs)

-- the positions, counted from i, and the elements, of those that have no whole number
unfoldable pub places {ℓ} : {A : Type ℓ} → ℕ → List (Option A) → List ℕ
places i [] = []
places i (none ∷ ts) = i ∷ places (suc i) ts
places i (some a ∷ ts) = places (suc i) ts

unfoldable pub picks {ℓ} : {A : Type ℓ} → List (Option A) → List ℕ → List ℕ
picks [] vs = []
picks (t ∷ ts) [] = []
picks (none ∷ ts) (v ∷ vs) = v ∷ picks ts vs
picks (some a ∷ ts) (v ∷ vs) = picks ts vs

-- the vector of the whole numbers zs, with the positions and the bit patterns of its exceptions
unfoldable pub raw_of : Format → Pair → List ℤ → List ℕ → List ℕ → Raw
raw_of fmt p zs ps xs =
    let fs = fields_of zs in
    record {
      count = length zs;
      pair = p;
      frame = of_z (word fmt) (least zs);
      width = width_of fs;
      packed = pack (width_of fs) fs;
      positions = ps;
      exceptions = xs;
    }

unfoldable pub encoded : Format → Pair → List ℕ → Raw
encoded fmt p vs =
    let ts = tries fmt p vs in
    raw_of fmt p (filled ts) (places 0 ts) (picks ts vs)

-- ---- reading

unfoldable pub fields : Raw → List ℕ
fields r = unpack r.width r.count r.packed

-- frame plus field: the frame read as signed, and a sum of any size
unfoldable pub wholes : Format → Raw → List ℤ
wholes fmt r = map (λ (d : ℕ). to_z (word fmt) r.frame +ℤ pos d) (fields r)

-- the bits stored for position i, where it is listed
unfoldable pub stored : List ℕ → List ℕ → ℕ → Option ℕ
stored [] xs i = none
stored (p ∷ ps) [] i = none
stored (p ∷ ps) (x ∷ xs) i = cond (eqb i p) (some x) (stored ps xs i)

-- for each of n positions from i on, what is stored for it
unfoldable pub marks : List ℕ → List ℕ → ℕ → ℕ → List (Option ℕ)
marks ps xs i zero = []
marks ps xs i (suc n) = stored ps xs i ∷ marks ps xs (suc i) n

unfoldable pub marked : Raw → List (Option ℕ)
marked r = marks r.positions r.exceptions 0 r.count

-- the reading rule: a listed position takes its stored bits, any other its whole number brought back
unfoldable pub decoded : Format → Raw → List ℕ
decoded fmt r = zip_with (λ (z : ℤ) (m : Option ℕ). or_else (back fmt r.pair z) m) (wholes fmt r) (marked r)

-- to unfold this is to unfold all of the above
unfoldable pub all_vector : Unit {0}
unfolding the_stand_in least_of least fields_of greatest width_of places picks raw_of encoded fields wholes stored marks marked decoded size zip_with
all_vector = tt
