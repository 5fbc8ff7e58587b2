-- An encoded vector, and a column cut into vectors: counts, bounds, and what the layout and the reader ask of them. Assumes nothing.
use mathlib.Core.Path.{◌≡◌, refl, sym, ap, ap₂, ◌∙◌, subst}
use Prim.Native.Nat.{ℕ, zero, suc, ◌+◌, ◌-◌, ◌*◌, ◌/◌, ◌^◌, ◌<◌, ◌≤◌, min, zero-le, suc-le-suc}
use native.Mathlib.Nat.{le_refl, le_trans, lt_of_lt_of_le, le_of_eq, suc_inj, mul-le-mul_right, mul-le-mul_left, div-eq-sub-div, div-eq_of_lt, lt_of_not-le}
use native.Mathlib.Numerals.{add-one}
use native.Mathlib.Decide.{dec_le}
use lib.Dec.{lit≤}
use native.Mathlib.Omega.{arith}
use mathlib.Core.List.{List, [], ◌∷◌, ◌++◌, map}
use mathlib.Core.Option.{Option, none, some}
use lib.ListN.{length, take, drop, length-map, take-append-drop, length-take, length-drop}
use lib.IntN.{ℤ, nat_abs, ◌-ℤ◌}
use lib.Ieee.{Format, binary32, binary64}
use lib.Pow.{pow_pos, pow_mono}
use mir.Val.{hbits}
use mir.Facts.{Fits-of_z, Fits-lt-pow}
use Rattle.digits.specs.Lists.{Each, join}
use Rattle.digits.specs.Digits.{packed_size}
use Rattle.digits.proofs.Lists.{each_map, each_of_map, each_both, each_take, each_drop}
use Rattle.digits.proofs.Pack.{length-pack}
use Rattle.rules.specs.Kind.{word, word_bytes, word_bits, meta_bytes, max_s, Values}
use Rattle.rules.specs.Decimal.{Pair, tried}
use Rattle.rules.specs.Vector.{Raw, tries, the_stand_in, filled, or_else, least, fields_of, width_of, places, picks, raw_of, encoded, decoded}
use Rattle.rules.specs.Page.{vectors, size_of, starts, encoded_all, page_of}
use Rattle.rules.specs.Older.{vector_by, vectors_by}
use Rattle.rules.specs.Write.{Allowed, Inside, bound}
use Rattle.rules.proofs.Order.{AtMost, least-below, least-one, width-fewest}
use Rattle.rules.proofs.Fields.{field_lt}
use Rattle.rules.proofs.Tries.{Held, tried-some}
use Rattle.rules.proofs.Vectors.{ComesBack, wholes-back, turns-filled, turned-back, length_fields}
use Rattle.rules.proofs.Pages.{Fit, Cut, total, length-layout}
use Rattle.rules.proofs.Reading.{Sound, Rising}

-- ---- the lists of exceptions

pub power-word : (fmt : Format) → 256 ^ word_bytes fmt ≡ 2 ^ word_bits fmt
power-word binary32 = refl
power-word binary64 = refl

pub small_word : (fmt : Format) → word_bits fmt ≤ 64
small_word binary32 = lit≤ tt
small_word binary64 = lit≤ tt

pub places-few : {A : Type 0} (i : ℕ) (ts : List (Option A)) → length (places i ts) ≤ length ts
unfolding places
places-few i [] = zero-le
places-few i (none ∷ ts) = suc-le-suc (places-few (suc i) ts)
places-few i (some z ∷ ts) = let h = places-few (suc i) ts in omega arith

rising-lower : (n low low' : ℕ) (ps : List ℕ) → low ≤ low' → Rising n low' ps → Rising n low ps
rising-lower n low low' [] h r = tt
rising-lower n low low' (p ∷ ps) h r = (le_trans h r.0, r.1, r.2)

pub places-rising : {A : Type 0} (n i : ℕ) (ts : List (Option A)) → i + length ts ≤ n → Rising n i (places i ts)
unfolding places
places-rising n i [] h = tt
places-rising n i (none ∷ ts) h = (le_refl i, omega arith, places-rising n (suc i) ts (omega arith))
places-rising n i (some z ∷ ts) h = rising-lower n i (suc i) (places (suc i) ts) (omega arith) (places-rising n (suc i) ts (omega arith))

pub rising-below : (n low c : ℕ) (ps : List ℕ) → n ≤ c → Rising n low ps → Each (λ (p : ℕ). p < c) ps
rising-below n low c [] h r = tt
rising-below n low c (p ∷ ps) h r = (lt_of_lt_of_le r.1 h, rising-below n (suc p) c ps h r.2)

pub picks-paired : {A : Type 0} (i : ℕ) (ts : List (Option A)) (vs : List ℕ) → length ts ≡ length vs → length (picks ts vs) ≡ length (places i ts)
unfolding places picks
picks-paired i [] vs e = refl
picks-paired i (t ∷ ts) [] e = absurd (omega (arith, e))
picks-paired i (none ∷ ts) (v ∷ vs) e = ap suc (picks-paired (suc i) ts vs (suc_inj e))
picks-paired i (some z ∷ ts) (v ∷ vs) e = picks-paired (suc i) ts vs (suc_inj e)

pub picks-each : (P : ℕ → Type 0) {A : Type 0} (ts : List (Option A)) (vs : List ℕ) → Each P vs → Each P (picks ts vs)
unfolding picks
picks-each P [] vs h = tt
picks-each P (t ∷ ts) [] h = tt
picks-each P (none ∷ ts) (v ∷ vs) h = (h.0, picks-each P ts vs h.1)
picks-each P (some z ∷ ts) (v ∷ vs) h = picks-each P ts vs h.1

-- ---- an encoded vector is laid out and read, by whatever way values are turned that come back

module _ (fmt : Format) (p : Pair) (turn : ℕ → Option ℤ) (comes : ComesBack fmt p turn) (vs : List ℕ) where
  abbrev ts : List (Option ℤ)
  ts = map turn vs

  abbrev zs : List ℤ
  zs = filled ts

  length-turns : length ts ≡ length vs
  length-turns = length-map vs turn

  turned-length : length zs ≡ length vs
  turned-length = length-map ts (or_else (the_stand_in ts)) ∙ length-turns

  pub turned-count : (vector_by fmt p turn vs).count ≡ length vs
  unfolding raw_of
  turned-count = turned-length

  least-held : Held fmt (least zs)
  least-held = least-one (Held fmt) zs (pow_pos (hbits (word fmt))) (turns-filled fmt p turn comes vs)

  -- a field fits the word
  pub turned-below : Each (λ (n : ℕ). n < 2 ^ word_bits fmt) (fields_of zs)
  unfolding fields_of
  turned-below =
      each_of_map (λ (n : ℕ). n < 2 ^ word_bits fmt) (λ (z : ℤ). nat_abs (z -ℤ least zs)) zs
      (each_map (λ (z : ℤ). AtMost (least zs) z × Held fmt z) (λ (z : ℤ). nat_abs (z -ℤ least zs) < 2 ^ word_bits fmt) (λ z h. field_lt (word fmt) (least zs) z h.0 least-held h.1) zs
      (each_both (AtMost (least zs)) (Held fmt) zs (least-below zs) (turns-filled fmt p turn comes vs)))

  pub turned-sound : Allowed fmt p → Sound fmt (vector_by fmt p turn vs)
  unfolding raw_of
  turned-sound a = record {
    exponent = a.exponent;
    factor = a.factor;
    few = let h = places-few 0 ts in omega (arith, turned-length, length-turns);
    width = width-fewest (fields_of zs) (word_bits fmt) turned-below;
    rising = places-rising (length zs) 0 ts (omega (arith, turned-length, length-turns));
    held = let h = turns-filled fmt p turn comes vs in subst (Each (Held fmt)) (sym (wholes-back fmt p zs (places 0 ts) (picks ts vs) h)) h;
  }

  -- a vector's counts and positions are 2 bytes each
  pub turned-fit : length vs ≤ 2 ^ max_s → Values fmt vs → Fit fmt (vector_by fmt p turn vs)
  unfolding raw_of
  turned-fit short ok = record {
    listed = let h = places-few 0 ts in omega (arith, length-turns);
    frame = rw (power-word fmt) (Fits-lt-pow (Fits-of_z {w = word fmt} {z = least zs} (record { sfits = least-held })));
    packed = length-pack (width_of (fields_of zs)) (fields_of zs) ∙ ap (λ (n : ℕ). packed_size n (width_of (fields_of zs))) (length_fields zs);
    positions = rising-below (length vs) 0 (256 ^ 2) (places 0 ts) (omega arith) (places-rising (length vs) 0 ts (omega (arith, length-turns)));
    paired = picks-paired 0 ts vs length-turns;
    exceptions = rw (power-word fmt) (picks-each (λ (v : ℕ). v < 2 ^ word_bits fmt) ts vs ok);
  }

-- by the rule
module _ (fmt : Format) (p : Pair) (vs : List ℕ) where
  pub length-filled : length (filled (tries fmt p vs)) ≡ length vs
  length-filled = turned-length fmt p (tried fmt p) (tried-some fmt p) vs

  pub encoded-pair : (encoded fmt p vs).pair ≡ p
  unfolding encoded raw_of
  encoded-pair = refl

  pub fields-below : Each (λ (n : ℕ). n < 2 ^ word_bits fmt) (fields_of (filled (tries fmt p vs)))
  fields-below = turned-below fmt p (tried fmt p) (tried-some fmt p) vs

-- ---- the values, cut into vectors

-- one pair for each vector of a column of n values
abbrev pub Covers : ℕ → ℕ → List Pair → Type 0
Covers size n [] = n ≡ 0
Covers size n (p ∷ ps) = (0 < n) × Covers size (n - size) ps

unfoldable pub ceil : ℕ → ℕ → ℕ
ceil size n = (n + (size - 1)) / size

pub ceil_more : (size n : ℕ) → 0 < size → 0 < n → ceil size n ≡ suc (ceil size (n - size))
unfolding ceil
ceil_more size n z h =
    div-eq-sub-div z (omega arith) ∙ add-one ((n + (size - 1) - size) / size) ∙ ap suc (split n size same less)
  where
    split : (a b : ℕ) {X : Type 0} → (b ≤ a → X) → (a < b → X) → X
    split a b f g = elim (dec_le b a) [ yes k ↦ f k | no k ↦ g (lt_of_not-le k) ]

    same : size ≤ n → (n + (size - 1) - size) / size ≡ (n - size + (size - 1)) / size
    same k = ap (λ (x : ℕ). x / size) (omega arith)

    less : n < size → (n + (size - 1) - size) / size ≡ (n - size + (size - 1)) / size
    less k = div-eq_of_lt (omega arith) ∙ sym (div-eq_of_lt (omega arith))

pub covers : (size n : ℕ) (ps : List Pair) → 0 < size → length ps ≡ ceil size n → Covers size n ps
unfolding ceil
covers size zero [] z e = refl
covers size (suc n) [] z e = let c = ceil_more size (suc n) z (omega arith) in absurd (omega (arith, e, c))
covers size zero (p ∷ ps) z e = let c : ceil size zero ≡ 0 = div-eq_of_lt (omega arith) in absurd (omega (arith, e, c))
covers size (suc n) (p ∷ ps) z e = (omega arith, covers size (suc n - size) ps z (suc_inj (e ∙ ceil_more size (suc n) z (omega arith))))

module _ (fmt : Format) (turn : Pair → ℕ → Option ℤ) (comes : (p : Pair) → ComesBack fmt p (turn p)) (size : ℕ) where
  pub by_length : (ps : List Pair) (vs : List ℕ) → length (vectors_by fmt turn size ps vs) ≡ length ps
  unfolding vectors_by
  by_length [] vs = refl
  by_length (p ∷ ps) vs = ap suc (by_length ps (drop size vs))

  pub by_cut : (ps : List Pair) (vs : List ℕ) → Covers size (length vs) ps → Cut size (length vs) (vectors_by fmt turn size ps vs)
  unfolding vectors_by
  by_cut [] vs c = c
  by_cut (p ∷ ps) vs c = (
    turned-count fmt p (turn p) (comes p) (take size vs) ∙ length-take size vs,
    c.0,
    rw (← length-drop size vs) (by_cut ps (drop size vs) (rw length-drop c.1)),
  )

  pub by_fit : size ≤ 2 ^ max_s → (ps : List Pair) (vs : List ℕ) → Values fmt vs → Each (Fit fmt) (vectors_by fmt turn size ps vs)
  unfolding vectors_by
  by_fit small [] vs ok = tt
  by_fit small (p ∷ ps) vs ok = (
    turned-fit fmt p (turn p) (comes p) (take size vs) (rw length-take (omega arith)) (each_take (λ (v : ℕ). v < 2 ^ word_bits fmt) size vs ok),
    by_fit small ps (drop size vs) (each_drop (λ (v : ℕ). v < 2 ^ word_bits fmt) size vs ok),
  )

  pub by_sound : (ps : List Pair) (vs : List ℕ) → Each (Allowed fmt) ps → Each (Sound fmt) (vectors_by fmt turn size ps vs)
  unfolding vectors_by
  by_sound [] vs a = tt
  by_sound (p ∷ ps) vs a = (turned-sound fmt p (turn p) (comes p) (take size vs) a.0, by_sound ps (drop size vs) a.1)

  pub by_back : (ps : List Pair) (vs : List ℕ) → Covers size (length vs) ps → join (map (decoded fmt) (vectors_by fmt turn size ps vs)) ≡ vs
  unfolding vectors_by
  by_back [] [] c = refl
  by_back [] (v ∷ vs) c = absurd (omega (arith, c))
  by_back (p ∷ ps) vs c =
      ap₂ (λ (x y : List ℕ). x ++ y) (turned-back fmt p (turn p) (comes p) (take size vs)) (by_back ps (drop size vs) (rw length-drop c.1))
      ∙ take-append-drop size vs

-- by the rule
pub all_by : (fmt : Format) (size : ℕ) (ps : List Pair) (vs : List ℕ) → vectors_by fmt (tried fmt) size ps vs ≡ encoded_all fmt size ps vs
unfolding vectors_by encoded_all encoded
all_by fmt size [] vs = refl
all_by fmt size (p ∷ ps) vs = ap (λ (rs : List Raw). encoded fmt p (take size vs) ∷ rs) (all_by fmt size ps (drop size vs))

module _ (fmt : Format) (size : ℕ) (ps : List Pair) (vs : List ℕ) where
  pub length-all : length (encoded_all fmt size ps vs) ≡ length ps
  length-all = ap length (sym (all_by fmt size ps vs)) ∙ by_length fmt (tried fmt) (tried-some fmt) size ps vs

  pub all_cut : Covers size (length vs) ps → Cut size (length vs) (encoded_all fmt size ps vs)
  all_cut c = subst (Cut size (length vs)) (all_by fmt size ps vs) (by_cut fmt (tried fmt) (tried-some fmt) size ps vs c)

  pub all_fit : size ≤ 2 ^ max_s → Values fmt vs → Each (Fit fmt) (encoded_all fmt size ps vs)
  all_fit small ok = subst (Each (Fit fmt)) (all_by fmt size ps vs) (by_fit fmt (tried fmt) (tried-some fmt) size small ps vs ok)

  pub all_sound : Each (Allowed fmt) ps → Each (Sound fmt) (encoded_all fmt size ps vs)
  all_sound a = subst (Each (Sound fmt)) (all_by fmt size ps vs) (by_sound fmt (tried fmt) (tried-some fmt) size ps vs a)

-- ---- the size of a page

-- a vector of n values, within the bound of document 01
word-bytes : (fmt : Format) → word_bits fmt ≡ word_bytes fmt * 8
word-bytes binary32 = refl
word-bytes binary64 = refl

pub size-bound : (fmt : Format) (r : Raw) → Sound fmt r → size_of fmt r ≤ meta_bytes fmt + r.count * (2 * word_bytes fmt + 2)
size-bound fmt r s =
    let b : ℕ = word_bytes fmt in
    let w : r.count * r.width ≤ r.count * (word_bytes fmt * 8) = mul-le-mul_left r.count (le_trans s.width (le_of_eq (word-bytes fmt))) in
    let l : length r.positions * (2 + word_bytes fmt) ≤ r.count * (2 + word_bytes fmt) = mul-le-mul_right (2 + word_bytes fmt) s.few in
    whole (r.count * r.width) r.count (word_bytes fmt) (length r.positions * (2 + word_bytes fmt)) w l
  where
    whole : (x n b y : ℕ) → x ≤ n * (b * 8) → y ≤ n * (2 + b) → 5 + b + ((x + 7) / 8 + y) ≤ 5 + b + n * (2 * b + 2)
    whole x n b y h k = omega arith

pub total_bound : (fmt : Format) (size left : ℕ) (rs : List Raw) → Cut size left rs → Each (Sound fmt) rs → total fmt rs ≤ length rs * meta_bytes fmt + left * (2 * word_bytes fmt + 2)
total_bound fmt size left [] c s = zero-le
total_bound fmt size left (r ∷ rs) c s =
    step r.count (2 * word_bytes fmt + 2) (size_of fmt r) (total fmt rs) (meta_bytes fmt) (length rs) c.0 (size-bound fmt r s.0) (total_bound fmt size (left - size) rs c.2 s.1)
  where
    step : (n k x t m l : ℕ) → n ≡ min size left → x ≤ m + n * k → t ≤ l * m + (left - size) * k → x + t ≤ suc l * m + left * k
    step n k x t m l e h g =
        let q : (n + (left - size)) * k ≡ left * k = ap (λ (y : ℕ). y * k) (omega arith) in
        omega arith

pub starts-below : (fmt : Format) (at c : ℕ) (rs : List Raw) → at + total fmt rs < c → Each (λ (o : ℕ). o < c) (starts fmt at rs)
unfolding starts
starts-below fmt at c [] h = tt
starts-below fmt at c (r ∷ rs) h = (omega arith, starts-below fmt (at + size_of fmt r) c rs (omega arith))

-- a page of settings inside the limits is no longer than the bound
module _ (fmt : Format) (s : ℕ) (ps : List Pair) (vs : List ℕ) (i : Inside fmt s ps (length vs)) (ok : Values fmt vs) where
  pub page_fits : length (page_of fmt s ps vs) ≤ bound fmt s (length vs)
  unfolding page_of bound ceil
  page_fits =
      let rs : List Raw = encoded_all fmt (2 ^ s) ps vs in
      let small : 2 ^ s ≤ 2 ^ max_s = pow_mono i.high in
      let cut : Cut (2 ^ s) (length vs) rs = all_cut fmt (2 ^ s) ps vs (covers (2 ^ s) (length vs) ps (pow_pos s) i.one_each) in
      let count : vectors s (length vs) ≡ length rs = sym (length-all fmt (2 ^ s) ps vs ∙ i.one_each) in
      let t = total_bound fmt (2 ^ s) (length vs) rs cut (all_sound fmt (2 ^ s) ps vs i.allowed) in
      rw (length-layout fmt s (length vs) rs (all_fit fmt (2 ^ s) ps vs small ok), count) (room (length rs) (total fmt rs) (meta_bytes fmt) (length vs * (2 * word_bytes fmt + 2)) t)
    where
      room : (l t m n : ℕ) → t ≤ l * m + n → 8 + (4 * l + t) ≤ 8 + l * (4 + m) + n
      room l t m n h = omega arith
