-- A walk over the positions of a vector: how far it has come, what stands at the next position, and one step. Assumes nothing.
use Rattle.std.proofs.Common.{◌≡◌, ℕ, suc, ◌+◌, ◌-◌, ◌*◌, ◌/◌, ◌%◌, ◌^◌, ◌<◌, ◌≤◌, Bool, true, false, ◌&&◌, eqb, ltb, List, [], ◌∷◌, length, get_or, take, drop, ℤ, pos, ◌+ℤ◌, sym, refl, ap, ◌∙◌, subst, ap₂, le_refl, add-one, arith, drop_of_length-le, drop-cons, drop-drop, to_z, lt_of_lt_of_le, mod-lt, pow_pos, pow_mono, ltb-false, ltb-true, le-ltb, lt-ltb, eqb-true}
use Rattle.std.specs.Prelude as std
use Rattle.std.specs.Prelude.{Some, None}
use Rattle.std.specs.Bool.{then_some}
use Rattle.std.proofs.lemmas.Option.{same_Some, none-some}
use Rattle.std.proofs.lemmas.List.{get_or-map}
use mathlib.Core.Option.{Option, none, some}
use native.Mathlib.Nat.{sub-zero}
use lib.Ieee.{Format, binary32, binary64}
use borrow.Author.Tests.{eqb-false}
use Rattle.digits.specs.Lists.{Each}
use Rattle.digits.specs.Digits.{number, numbers, unpack}
use Rattle.digits.proofs.Laws.{to_below}
use Rattle.digits.proofs.Lists.{below_each, each_map, each_drop}
use Rattle.digits.proofs.Rows.{length-numbers, get_or-numbers}
use Rattle.digits.proofs.Fields.{field_at}
use Rattle.rules.specs.Kind.{word, word_bits, word_bytes}
use Rattle.rules.specs.Decimal.{Pair}
use Rattle.rules.specs.Vector.{Raw, greatest, fields, wholes, marks, marked}
use Rattle.rules.specs.Page.{Meta}
use Rattle.rules.proofs.Encoded.{small_word}
use Rattle.rules.proofs.Fields.{sum_of_words}
use Rattle.rules.proofs.Order.{greatest-lt}
use Rattle.rules.proofs.Tries.{Held}
use Rattle.rules.proofs.Reading.{Rising}
use Rattle.rules.proofs.Marks.{stored-none, stored_here, marks-skip}
use Rattle.rules.proofs.Decoded.{wholes-count, fields-count}
use Rattle.inspect.specs.Seen.{seen, FieldsLaid, is_next, listed_at, behind, mark_of}
use Rattle.inspect.specs.Looked.{Within}

-- a pair, where any will do
abbrev pub some_pair : Pair
some_pair = record { exponent = 0; factor = 0 }

-- ---- lists

-- an index that is there: it is j, and b is true
some_if : (b : Bool) (j k : ℕ) → then_some b j ≡ Some k → (b ≡ true) × (j ≡ k)
some_if true j k e = (refl, same_Some j k e)
some_if false j k e = absurd (none-some k e)

-- whether i is the next of a list of numbers, and its index there, if it is
module _ (listed i j : ℕ) (lists : List ℕ) where
  pub next-is : j < listed → {p : ℕ} → p ≡ number (take 2 (drop (2 * j) lists)) → eqb p i ≡ is_next (numbers 2 listed lists) i j
  next-is h e = rw (length-numbers 2 listed lists, lt-ltb j listed h, get_or-numbers 2 listed lists j h, e)

  pub none_next : listed ≤ j → false ≡ is_next (numbers 2 listed lists) i j
  none_next h = rw (length-numbers 2 listed lists, le-ltb j listed h)

  pub next-below : (l : std.Option ℕ) → l ≡ listed_at (numbers 2 listed lists) i j → Within listed l
  next-below l e k t =
      let ps = numbers 2 listed lists in
      let is = some_if (ltb j (length ps) && eqb (get_or ps j 0) i) j k (sym e ∙ t) in
      let below : j < length ps = ltb-true j (length ps) (left-true (ltb j (length ps)) _ is.0) in
      subst (λ (n : ℕ). n < listed) is.1 (subst (λ (n : ℕ). j < n) (length-numbers 2 listed lists) below)
    where
      left-true : (a b : Bool) → (a && b) ≡ true → a ≡ true
      left-true true b e = refl
      left-true false b e = e

-- ---- rising positions

above : (n low : ℕ) (ps : List ℕ) → Rising n low ps → Each (λ (p : ℕ). low ≤ p) ps
above n low [] r = tt
above n low (p ∷ ps) r = let l = r.0 in (l, each_map (λ (q : ℕ). suc p ≤ q) (λ (q : ℕ). low ≤ q) (λ q h. omega arith) ps (above n (suc p) ps r.2))

-- the next one is i: its bits are stored for i, and the others are above
at_next : (x i : ℕ) (ps xs : List ℕ) (k : ℕ) → marks (i ∷ ps) (x ∷ xs) i (suc k) ≡ some x ∷ marks ps xs (suc i) k
unfolding marks
at_next x i ps xs k = ap₂ (λ (m : Option ℕ) (ms : List (Option ℕ)). m ∷ ms) (stored_here i x ps xs) (marks-skip i x ps xs (suc i) k (le_refl (suc i)))

-- all are above i: nothing is stored for i
not_next : (n i k : ℕ) (ps xs : List ℕ) → Rising n (suc i) ps → marks ps xs i (suc k) ≡ none ∷ marks ps xs (suc i) k
unfolding marks
not_next n i k ps xs r = ap (λ (m : Option ℕ). m ∷ marks ps xs (suc i) k) (stored-none ps xs i (above n (suc i) ps r))

-- ---- the walk: position i is next, and the next of the list has index j

pub record Walk (r : Raw) (i j : ℕ) : Type 0 where
  pub paired : length r.exceptions ≡ length r.positions
  pub within : i ≤ r.count
  pub used : j ≤ length r.positions
  pub rising : Rising r.count i (drop j r.positions)
  pub rest : drop i (marked r) ≡ marks (drop j r.positions) (drop j r.exceptions) i (r.count - i)

pub walk_start : (r : Raw) → length r.exceptions ≡ length r.positions → Rising r.count 0 r.positions → Walk r 0 0
unfolding marked
walk_start r paired rising = record {
  paired = paired;
  within = omega arith;
  used = omega arith;
  rising = rising;
  rest = ap (marks r.positions r.exceptions 0) (sym (sub-zero r.count));
}

module _ (r : Raw) (i j : ℕ) (w : Walk r i j) (more : i < r.count) where
  abbrev ps : List ℕ
  ps = r.positions

  abbrev xs : List ℕ
  xs = r.exceptions

  abbrev n : ℕ
  n = r.count

  -- what is stored for position i, and the walk from the next position on
  abbrev Step : Bool → Type 0
  Step b = (drop i (marked r) ≡ mark_of b (get_or xs j 0) ∷ drop (i + 1) (marked r)) × Walk r (i + 1) (behind b j)

  left_is : n - i ≡ suc (n - (i + 1))
  left_is = omega arith

  step : (b : Bool) → behind b j ≤ length ps → Rising n (i + 1) (drop (behind b j) ps)
      → marks (drop j ps) (drop j xs) i (suc (n - (i + 1))) ≡ mark_of b (get_or xs j 0) ∷ marks (drop (behind b j) ps) (drop (behind b j) xs) (i + 1) (n - (i + 1)) → Step b
  step b used rising e =
      let whole : drop i (marked r) ≡ mark_of b (get_or xs j 0) ∷ marks (drop (behind b j) ps) (drop (behind b j) xs) (i + 1) (n - (i + 1)) =
      w.rest ∙ ap (marks (drop j ps) (drop j xs) i) left_is ∙ e in
      let tail : drop (i + 1) (marked r) ≡ marks (drop (behind b j) ps) (drop (behind b j) xs) (i + 1) (n - (i + 1)) = sym (drop-drop 1 i (marked r)) ∙ ap (drop 1) whole in (
        whole ∙ ap (λ (l : List (Option ℕ)). mark_of b (get_or xs j 0) ∷ l) (sym tail),
        record {
          paired = w.paired;
          within = omega arith;
          used = used;
          rising = rising;
          rest = tail;
        },
      )

  -- the position is not listed: every position from j on is above it
  unlisted : Rising n (suc i) (drop j ps) → Step false
  unlisted h =
      let g : Rising n (i + 1) (drop j ps) = subst (λ (x : ℕ). Rising n x (drop j ps)) (sym (add-one i)) h in
      step false w.used g (not_next n i (n - (i + 1)) (drop j ps) (drop j xs) h ∙ ap (λ (x : ℕ). none ∷ marks (drop j ps) (drop j xs) x (n - (i + 1))) (sym (add-one i)))

  module _ (h : j < length ps) where
    positions-from : drop j ps ≡ get_or ps j 0 ∷ drop (j + 1) ps
    positions-from = rw add-one (drop-cons ps j 0 h)

    exceptions-from : drop j xs ≡ get_or xs j 0 ∷ drop (j + 1) xs
    exceptions-from = rw add-one (drop-cons xs j 0 (omega (arith, w.paired)))

    next-rising : Rising n i (get_or ps j 0 ∷ drop (j + 1) ps)
    next-rising = subst (Rising n i) positions-from w.rising

    listed_here : get_or ps j 0 ≡ i → Step true
    listed_here e =
        let g : Rising n (i + 1) (drop (j + 1) ps) = subst (λ (x : ℕ). Rising n x (drop (j + 1) ps)) (ap suc e ∙ sym (add-one i)) next-rising.2 in
        step true (omega arith) g
        (ap₂ (λ (l k : List ℕ). marks l k i (suc (n - (i + 1)))) (positions-from ∙ ap (λ (x : ℕ). x ∷ drop (j + 1) ps) e) exceptions-from
        ∙ at_next (get_or xs j 0) i (drop (j + 1) ps) (drop (j + 1) xs) (n - (i + 1))
        ∙ ap (λ (x : ℕ). some (get_or xs j 0) ∷ marks (drop (j + 1) ps) (drop (j + 1) xs) x (n - (i + 1))) (sym (add-one i)))

    listed-later : (get_or ps j 0 ≡ i → ⊥) → Step false
    listed-later ne =
        let a = next-rising.0 in
        let b : suc i ≤ get_or ps j 0 = later i (get_or ps j 0) a ne in
        unlisted (subst (Rising n (suc i)) (sym positions-from) (b, next-rising.1, next-rising.2))
      where
        later : (a b : ℕ) → a ≤ b → (b ≡ a → ⊥) → suc a ≤ b
        later a b h ne = omega (arith, h, ne)

  listed-over : length ps ≤ j → Step false
  listed-over h = unlisted (subst (Rising n (suc i)) (sym (drop_of_length-le ps {i = j} h)) tt)

  pub walk_step : Step (is_next ps i j)
  walk_step = go (ltb j (length ps)) refl
    where
      inner : j < length ps → (b : Bool) → eqb (get_or ps j 0) i ≡ b → Step b
      inner h true e = listed_here h (eqb-true (get_or ps j 0) i e)
      inner h false e = listed-later h (eqb-false (get_or ps j 0) i e)

      go : (b : Bool) → ltb j (length ps) ≡ b → Step (b && eqb (get_or ps j 0) i)
      go true e = inner (ltb-true j (length ps) e) (eqb (get_or ps j 0) i) refl
      go false e = listed-over (ltb-false j (length ps) e)

-- ---- the fields and the whole numbers

-- the one at position i is the first from there on
pub some_whole : (fmt : Format) (r : Raw) (i : ℕ) → i < r.count → drop i (wholes fmt r) ≡ get_or (wholes fmt r) i (pos 0) ∷ drop (i + 1) (wholes fmt r)
some_whole fmt r i more = rw add-one (drop-cons (wholes fmt r) i (pos 0) (omega (arith, wholes-count fmt r)))

-- a word's bits, of its bytes
pub bits_of_bytes : (fmt : Format) (b : ℕ) → b ≡ word_bytes fmt → 8 * b ≡ word_bits fmt
bits_of_bytes fmt b e = ap (λ (n : ℕ). 8 * n) e ∙ go fmt
  where
    go : (fmt : Format) → 8 * word_bytes fmt ≡ word_bits fmt
    go binary32 = refl
    go binary64 = refl

-- so many bits from bit `start` on: a window takes them, and a word of so many bytes has room for them
pub window_narrow : (fmt : Format) (b : ℕ) → b ≡ word_bytes fmt → (width : ℕ) → width ≤ 8 * b → width ≤ 64
window_narrow fmt b e width h = omega (arith, bits_of_bytes fmt b e, small_word fmt)

pub window_fits : (n start b width : ℕ) → width ≤ 8 * b → {d : ℕ} → d ≡ n / 2 ^ start % 2 ^ width → d < 2 ^ (8 * b)
window_fits n start b width h {d} e = subst (λ (d : ℕ). d < 2 ^ (8 * b)) (sym e) (lt_of_lt_of_le (mod-lt (n / 2 ^ start) (pow_pos width)) (pow_mono h))

-- so a word of the kind has room for a field of a vector whose layout was checked
word_has_room : (fmt : Format) (n : ℕ) (m : Meta) (packed : List ℕ) → FieldsLaid fmt n m packed → (b : ℕ) → b ≡ word_bytes fmt → m.width ≤ 8 * b
word_has_room fmt n m packed laid b e = subst (λ (n : ℕ). m.width ≤ n) (sym (bits_of_bytes fmt b e)) laid.narrow

-- that the code makes of the frame and the field in the window at its bits
module _ (fmt : Format) (n : ℕ) (m : Meta) (packed : List ℕ) (laid : FieldsLaid fmt n m packed) (lists : List ℕ) (i : ℕ) (more : i < n) where
  abbrev r : Raw
  r = seen fmt n m packed lists

  pub field-is : number packed / 2 ^ (m.width * i) % 2 ^ m.width ≡ get_or (fields r) i 0
  unfolding fields
  field-is = sym (field_at m.width n packed i (m.width * i) more refl)

  -- it has room in a word of so many bytes
  pub field_fits : (d b : ℕ) → d ≡ get_or (fields r) i 0 → b ≡ word_bytes fmt → d < 2 ^ (8 * b)
  field_fits d b is e = window_fits (number packed) (m.width * i) b m.width (word_has_room fmt n m packed laid b e) (is ∙ sym field-is)

  pub whole-is : (x : ℕ) → x ≡ (m.frame + get_or (fields r) i 0) % 2 ^ word_bits fmt → to_z (word fmt) x ≡ get_or (wholes fmt r) i (pos 0)
  unfolding wholes fields
  whole-is x is =
      let g : ℕ → ℤ = λ d. to_z (word fmt) m.frame +ℤ pos d in
      let d : ℕ = get_or (fields r) i 0 in
      let here : get_or (wholes fmt r) i (pos 0) ≡ g d = get_or-map g (fields r) i 0 (pos 0) (omega (arith, fields-count r)) in
      let held : Held fmt (get_or (wholes fmt r) i (pos 0)) = (subst (Each (Held fmt)) (some_whole fmt r i more) (each_drop (Held fmt) i (wholes fmt r) laid.held)).0 in
      ap (to_z (word fmt)) is ∙ sum_of_words (word fmt) m.frame d laid.framed (subst (Held fmt) here held) ∙ sym here

-- the largest field has room in a word of so many bytes
pub largest_fits : (fmt : Format) (n : ℕ) (m : Meta) (packed : List ℕ) → FieldsLaid fmt n m packed → (lists : List ℕ) (d b : ℕ) → d ≡ greatest (fields (seen fmt n m packed lists)) → b ≡ word_bytes fmt → d < 2 ^ (8 * b)
unfolding fields
largest_fits fmt n m packed laid lists d b is e =
    let w = m.width in
    let each = below_each (2 ^ w) (unpack w n packed) (to_below (2 ^ w) n (number packed) (pow_pos w)) in
    let most : greatest (unpack w n packed) < 2 ^ w = greatest-lt (2 ^ w) (unpack w n packed) (pow_pos w) each in
    subst (λ (d : ℕ). d < 2 ^ (8 * b)) (sym is) (lt_of_lt_of_le most (pow_mono (word_has_room fmt n m packed laid b e)))
