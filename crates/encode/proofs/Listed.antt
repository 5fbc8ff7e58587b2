-- The lists of exceptions, one value after the other: what a value adds, and how far each list has come. Assumes nothing.
use mathlib.Core.Path.{◌≡◌, refl, sym, ap, ◌∙◌, subst}
use mathlib.Core.Bool.{Bool, true, false, not, cond}
use mathlib.Core.List.{List, [], ◌∷◌, ◌++◌, append-nil}
use mathlib.Core.Option.{Option, none, some}
use Prim.Native.Nat.{ℕ, suc, ◌+◌, ◌*◌, ◌≤◌}
use native.Mathlib.Nat.{add-zero, zero-mul, mul-add}
use native.Mathlib.Numerals.{add-one}
use native.Mathlib.Omega.{arith}
use lib.ListN.{length, take, drop, take-append-drop, drop_of_length-le, length-append, length-map}
use lib.Dec.{T}
use lib.IntN.{ℤ}
use Rattle.std.specs.Prelude as std
use Rattle.std.specs.Prelude.{Some, None}
use Rattle.std.specs.Option.{is_some}
use lib.Ieee.{Format, of_bits}
use Rattle.digits.specs.Digits.{le, les}
use Rattle.digits.specs.Lists.{put_at}
use Rattle.digits.proofs.Rows.{length-le, length-les, les-append}
use Rattle.digits.proofs.Stream.{Stream, stream_start, stream_as, stream_room, stream_wrote, stream_end}
use Rattle.rules.proofs.Encoded.{picks-paired}
use Rattle.rules.proofs.Tries.{none_excepted, some_kept}
use Rattle.rules.specs.Decimal.{Pair, exception, tried, whole, scaled}
use Rattle.rules.specs.Vector.{tries, places, picks}
use Rattle.decimal.specs.Turn.{as_try}
use Rattle.encode.specs.Vectors.{entry}
use Rattle.encode.proofs.Steps.{NumberAt, values-next, tries-next, tries-end}

-- ---- what one value adds: a number of k bytes, or nothing

module _ (k at v : ℕ) (d : List ℕ) (b : Bool) where
  pub added_long : b ≡ true → length (les k (entry b v)) ≡ k
  unfolding les
  added_long e = ap (λ (x : Bool). length (les k (entry x v))) e ∙ ap length (append-nil (le k v)) ∙ length-le k v

  pub added : b ≡ true → put_at at (le k v) d ≡ put_at at (les k (entry b v)) d
  unfolding les
  added e = ap (λ (x : List ℕ). put_at at x d) (sym (append-nil (le k v))) ∙ ap (λ (x : Bool). put_at at (les k (entry x v)) d) (sym e)

  pub nothing-long : b ≡ false → length (les k (entry b v)) ≡ 0
  unfolding les
  nothing-long e = ap (λ (x : Bool). length (les k (entry x v))) e

  pub nothing : b ≡ false → d ≡ put_at at (les k (entry b v)) d
  unfolding les
  nothing e = sym (ap (λ (n : ℕ). take at d ++ drop n d) (add-zero at) ∙ take-append-drop at d) ∙ ap (λ (x : Bool). put_at at (les k (entry x v)) d) (sym e)

-- ---- the lists, one value further

places-cons : (i : ℕ) (b : Bool) (z : ℤ) (ts : List (Option ℤ)) → places i (cond b none (some z) ∷ ts) ≡ entry b i ++ places (suc i) ts
unfolding places
places-cons i true z ts = refl
places-cons i false z ts = refl

picks-cons : (v : ℕ) (b : Bool) (z : ℤ) (ts : List (Option ℤ)) (vs : List ℕ) → picks (cond b none (some z) ∷ ts) (v ∷ vs) ≡ entry b v ++ picks ts vs
unfolding picks
picks-cons v true z ts vs = refl
picks-cons v false z ts vs = refl

-- what the code asks of a value's whole number: whether it has none
pub listed-is : (fmt : Format) (p : Pair) (v : ℕ) (t : std.Option ℤ) (b : Bool) → as_try t ≡ tried fmt p v → is_some t ≡ not b → b ≡ exception fmt p v
listed-is fmt p v None true e q = sym (none_excepted fmt p v (sym e))
listed-is fmt p v None false e q = absurd (subst T (sym q) tt)
listed-is fmt p v (Some z) true e q = absurd (subst T q tt)
listed-is fmt p v (Some z) false e q = sym (some_kept fmt p v z (sym e))

-- the positions, and the bit patterns of k bytes each, from value i on
module _ (fmt : Format) (p : Pair) (vs : List ℕ) where
  abbrev pub positions_from : ℕ → List ℕ
  positions_from i = les 2 (places i (tries fmt p (drop i vs)))

  abbrev pub patterns_from : ℕ → ℕ → List ℕ
  patterns_from k i = les k (picks (tries fmt p (drop i vs)) (drop i vs))

  module _ (i v : ℕ) (a : NumberAt vs i v) (b : Bool) (e : b ≡ exception fmt p v) where
    pub positions-next : positions_from i ≡ les 2 (entry b i) ++ positions_from (i + 1)
    unfolding tried
    positions-next =
        let us : List (Option ℤ) = tries fmt p (drop (i + 1) vs) in
        ap (λ (x : List (Option ℤ)). les 2 (places i x)) (tries-next fmt p vs i v a)
        ∙ ap (les 2) (places-cons i (exception fmt p v) (whole fmt (scaled fmt p (of_bits fmt v))) us ∙ ap (λ (k : ℕ). entry (exception fmt p v) i ++ places k us) (sym (add-one i)))
        ∙ ap (λ (x : Bool). les 2 (entry x i ++ places (i + 1) us)) (sym e) ∙ les-append 2 (entry b i) (places (i + 1) us)

    pub patterns-next : (k : ℕ) → patterns_from k i ≡ les k (entry b v) ++ patterns_from k (i + 1)
    unfolding tried
    patterns-next k =
        let rest : List ℕ = drop (i + 1) vs in
        ap (λ (x : List ℕ). les k (picks (tries fmt p x) x)) (values-next vs i v a)
        ∙ ap (les k) (picks-cons v (exception fmt p v) (whole fmt (scaled fmt p (of_bits fmt v))) (tries fmt p rest) rest)
        ∙ ap (λ (x : Bool). les k (entry x v ++ picks (tries fmt p rest) rest)) (sym e) ∙ les-append k (entry b v) (picks (tries fmt p rest) rest)

  module _ (i : ℕ) (h : length vs ≤ i) where
    pub positions-none : positions_from i ≡ []
    unfolding les places
    positions-none = ap (λ (x : List (Option ℤ)). les 2 (places i x)) (tries-end fmt p vs i h)

    pub patterns-none : (k : ℕ) → patterns_from k i ≡ []
    unfolding les picks
    patterns-none k = ap (λ (x : List (Option ℤ)). les k (picks x (drop i vs))) (tries-end fmt p vs i h)

-- ---- a list written one value after the other, into a part that it fills: `rest i` is what is left of it at value i

-- how far it has come
pub record Listing (rest : ℕ → List ℕ) (i : ℕ) (out out₀ : List ℕ) (at : ℕ) : Type 0 where
  pub full : length out₀ ≡ length (rest 0)
  pub stream : Stream (rest 0) (rest i) out out₀ at

pub listing_start : (rest : ℕ → List ℕ) (out : List ℕ) → length out ≡ length (rest 0) → Listing rest 0 out out 0
listing_start rest out e = record { full = e; stream = stream_start (rest 0) out }

module _ {rest : ℕ → List ℕ} {i : ℕ} {out out₀ : List ℕ} {at : ℕ} (s : Listing rest i out out₀ at) where
  -- w is what value i adds
  module _ (w : List ℕ) (e : rest i ≡ w ++ rest (i + 1)) where
    here : Stream (rest 0) (w ++ rest (i + 1)) out out₀ at
    here = stream_as (w ++ rest (i + 1)) e s.stream

    pub listing_room : at + length w ≤ length out
    listing_room = let full = s.full in stream_room (rest 0) w (rest (i + 1)) out out₀ at (omega (arith, full)) here

    pub listing_next : (last : List ℕ) (r : ℕ) → r ≡ at + length w → last ≡ put_at at w out → Listing rest (i + 1) last out₀ r
    listing_next last r er el =
        let full = s.full in
        record { full = full; stream = stream_wrote (rest 0) w (rest (i + 1)) out out₀ last at r (omega (arith, full)) here er el }

  pub listing_end : rest i ≡ [] → out ≡ rest 0
  listing_end e =
      let q = stream_end (rest 0) (rest i) out out₀ at e s.stream in
      let full = s.full in
      q.1 ∙ ap (λ (x : List ℕ). rest 0 ++ x) (drop_of_length-le out₀ {i = at} (omega (arith, full, q.0))) ∙ append-nil (rest 0)

-- ---- both lists, into two parts that they fill

module _ (fmt : Format) (p : Pair) (vs : List ℕ) (k listed : ℕ) (d : List ℕ) (e : listed ≡ length (places 0 (tries fmt p vs))) (l : length d ≡ listed * (2 + k)) where
  abbrev positions : List ℕ
  positions = les 2 (places 0 (tries fmt p vs))

  abbrev patterns : List ℕ
  patterns = les (k) (picks (tries fmt p vs) vs)

  pub long-positions : length positions ≡ listed * 2
  long-positions = length-les 2 (places 0 (tries fmt p vs)) ∙ ap (λ (n : ℕ). n * 2) (sym e)

  pub long-patterns : length patterns ≡ listed * k
  long-patterns =
      length-les (k) (picks (tries fmt p vs) vs)
      ∙ ap (λ (n : ℕ). n * k) (picks-paired 0 (tries fmt p vs) vs (length-map vs (tried fmt p)) ∙ sym e)

  sum : length positions + length patterns ≡ length d
  sum = omega (arith, long-positions, long-patterns, l, mul-add listed 2 (k))

  -- nothing is listed
  pub lists-none : listed ≡ 0 → d ≡ positions ++ patterns
  lists-none z =
      let n : length d ≡ 0 = l ∙ ap (λ (n : ℕ). n * (2 + k)) z ∙ zero-mul (2 + k) in
      let m : length (positions ++ patterns) ≡ 0 = length-append positions patterns ∙ sum ∙ n in
      no_elements d n ∙ sym (no_elements (positions ++ patterns) m)
    where
      no_elements : (xs : List ℕ) → length xs ≡ 0 → xs ≡ []
      no_elements [] q = refl
      no_elements (x ∷ xs) q = absurd (omega (arith, q))

  pub first-room : (front : List ℕ) → length front ≡ listed * 2 → length front ≡ length positions
  first-room front n = n ∙ sym long-positions

  pub second_room : (back : List ℕ) → length back + listed * 2 ≡ length d → length back ≡ length patterns
  second_room back n = omega (arith, n, sum, long-positions)
