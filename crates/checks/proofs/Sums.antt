-- Row 17: how far above a frame the signed range goes, and the first field above that. Assumes nothing.
use mathlib.Core.Path.{◌≡◌, refl, sym, ap, ap₂, ◌∙◌}
use mathlib.Core.Bool.{Bool, true, false, not, cond}
use mathlib.Core.List.{List, [], ◌∷◌, map}
use Prim.Native.Nat.{ℕ, suc, ◌+◌, ◌-◌, ◌^◌, ◌<◌, ◌≤◌}
use native.Mathlib.Nat.{lt_of_not-le, zero-add, add-zero, add-suc, suc-add}
use native.Mathlib.Decide.{dec_le}
use native.Mathlib.Omega.{arith}
use lib.ListN.{length, take, drop}
use lib.Dec.{ltb}
use lib.IntN.{ℤ, pos, negsuc, ◌+ℤ◌}
use lib.Signed.{mag}
use lib.Ieee.{Format}
use borrow.Author.Tests.{lt-ltb, le-ltb}
use mir.Syntax.{Width}
use mir.Val.{bits, hbits, to_z}
use mir.Facts.{to_z_pos, to_z-neg}
use Rattle.digits.specs.Digits.{number, packed_size, unpack}
use Rattle.digits.proofs.Laws.{length_to}
use Rattle.rules.specs.Kind.{word, meta_bytes}
use Rattle.rules.specs.Vector.{fields, wholes}
use Rattle.rules.specs.Page.{Meta, meta_at, raw_from}
use Rattle.rules.specs.Verdict.{Verdict, row, fine, refuse, first, verdict, in_vector_at, ◌below◌}
use Rattle.rules.specs.Read.{out_of_range, sums_rows}
use Rattle.rules.proofs.Fields.{double, sub_ge, sub_lt}
use Rattle.bits.specs.Above.{first_above}
use Rattle.checks.specs.Forms.{raw_at}
use Rattle.checks.proofs.Bounds.{cut-is}

-- ---- the range above a frame: of h numbers from 0 up, and of h below

-- the largest that may be added
abbrev above : ℕ → ℤ → ℕ
above h (pos a) = h - suc a
above h (negsuc b) = h + b

module _ (h d : ℕ) where
  same_test : (x y : ℕ) → (h ≤ x → y < d) → (x < h → d ≤ y) → not (ltb x h) ≡ ltb y d
  same_test x y f g = elim (dec_le h x) [
    | yes k ↦ ap not (le-ltb x h k) ∙ sym (lt-ltb y d (f k))
    | no k ↦ let l = lt_of_not-le k in ap not (lt-ltb x h l) ∙ sym (le-ltb y d (g l))
  ]

  above_is : (m : ℤ) → mag m < h → not (ltb (mag (m +ℤ pos d)) h) ≡ ltb (above h m) d
  above_is (pos a) k = same_test (a + d) (h - suc a) (λ l. omega arith) (λ l. omega arith)
  above_is (negsuc b) k = elim (dec_le (suc b) d) [
    | yes l ↦ ap (λ (z : ℤ). not (ltb (mag z) h)) (sub_ge d (suc b) l) ∙ same_test (d - suc b) (h + b) (λ l. omega arith) (λ l. omega arith)
    | no l ↦
        let s : d < suc b = lt_of_not-le l in
        ap (λ (z : ℤ). not (ltb (mag z) h)) (sub_lt d (suc b) s) ∙ same_test (suc b - suc d) (h + b) (λ l. omega (arith, k, s)) (λ l. omega (arith, s))
  ]

-- of a frame as a word, below the half and above it
module _ (w : Width) (a d : ℕ) where
  pub room-low : a < 2 ^ hbits w → not (ltb (mag (to_z w a +ℤ pos d)) (2 ^ hbits w)) ≡ ltb (2 ^ hbits w - 1 - a) d
  room-low k = rw (to_z_pos w {n = a} k) (above_is (2 ^ hbits w) d (pos a) k ∙ ap (λ (x : ℕ). ltb x d) (omega arith))

  pub room-high : 2 ^ hbits w ≤ a → a < 2 ^ bits w → not (ltb (mag (to_z w a +ℤ pos d)) (2 ^ hbits w)) ≡ ltb (2 ^ hbits w - 1 - (a - 2 ^ hbits w) + 2 ^ hbits w) d
  room-high k l =
      let e = double w in
      let b : ℕ = 2 ^ bits w - suc a in
      let same : a ≡ 2 ^ bits w - suc b = omega arith in
      let framed : to_z w a ≡ negsuc b = ap (to_z w) same ∙ to_z-neg w b (omega arith) in
      rw framed (above_is (2 ^ hbits w) d (negsuc b) (omega arith) ∙ ap (λ (x : ℕ). ltb x d) (omega arith))

suc_ltb : (a b : ℕ) → ltb (suc a) (suc b) ≡ ltb a b
suc_ltb a b = elim (dec_le b a) [
  | yes h ↦ le-ltb (suc a) (suc b) (omega arith) ∙ sym (le-ltb a b h)
  | no h ↦ let l = lt_of_not-le h in lt-ltb (suc a) (suc b) (omega arith) ∙ sym (lt-ltb a b l)
]

-- ---- the rows, where the range goes `most` above the frame

module _ (fmt : Format) (frame : ℤ) (most : ℕ) (room : (d : ℕ) → out_of_range fmt (frame +ℤ pos d) ≡ ltb most d) (v : ℕ) where
  -- the first field above it decides
  sums_first : (i : ℕ) (ds : List ℕ)
      → verdict (row 17 (in_vector_at v (i + first_above most ds)) (first_above most ds below length ds)) ≡ verdict (sums_rows fmt v i (map (λ (d : ℕ). frame +ℤ pos d) ds))
  unfolding sums_rows
  sums_first i [] = refl
  sums_first i (d ∷ ds) = rw (room d) (go (ltb most d) (verdict (sums_rows fmt v (suc i) (map (λ (d : ℕ). frame +ℤ pos d) ds))) (sums_first (suc i) ds))
    where
      go : (b : Bool) (rest : Verdict) → verdict (row 17 (in_vector_at v (suc i + first_above most ds)) (first_above most ds below length ds)) ≡ rest
          → verdict (row 17 (in_vector_at v (i + cond b 0 (suc (first_above most ds)))) (cond b 0 (suc (first_above most ds)) below suc (length ds)))
          ≡ first (verdict (row 17 (in_vector_at v i) b)) rest
      go true rest e = rw (add-zero i, lt-ltb 0 (suc (length ds)) (omega arith))
      go false rest e = rw (add-suc i (first_above most ds), ← suc-add i (first_above most ds), suc_ltb (first_above most ds) (length ds)) e

-- of the vector of n values at the front of bs: m is its metadata, `size` bytes from `start` on are its packed part, and i is the number of
-- the first field that is above
module _ (fmt : Format) (v n : ℕ) (bs : List ℕ) (m : Meta) (em : m ≡ meta_at fmt bs) (most : ℕ) (room : (d : ℕ) → out_of_range fmt (to_z (word fmt) m.frame +ℤ pos d) ≡ ltb most d)
    (start size i : ℕ) (es : start ≡ meta_bytes fmt) (ez : size ≡ packed_size n m.width) (ei : i ≡ first_above most (unpack m.width n (take (start + size - start) (drop start bs)))) where
  sums-are : verdict (row 17 (in_vector_at v i) (i below n)) ≡ verdict (sums_rows fmt v 0 (wholes fmt (raw_at fmt n bs)))
  unfolding wholes fields raw_from
  sums-are =
      let sum : ℕ → ℤ = λ d. to_z (word fmt) m.frame +ℤ pos d in
      let ds : List ℕ = unpack m.width n (take (start + size - start) (drop start bs)) in
      ap₂ (λ (x k : ℕ). verdict (row 17 (in_vector_at v x) (x below k))) ei (sym (length_to (2 ^ m.width) n (number (take (start + size - start) (drop start bs)))))
      ∙ ap (λ (x : ℕ). verdict (row 17 (in_vector_at v x) (first_above most ds below length ds))) (sym (zero-add (first_above most ds)))
      ∙ sums_first fmt (to_z (word fmt) m.frame) most room v 0 ds
      ∙ ap₂ (λ (k j : ℕ). verdict (sums_rows fmt v 0 (map sum (unpack m.width n (take k (drop j bs)))))) (cut-is start size n m.width ez) es
      ∙ ap (λ (x : Meta). verdict (sums_rows fmt v 0 (wholes fmt (raw_from fmt n x (drop (meta_bytes fmt) bs))))) em

  pub sum_leaves : i < n → refuse 17 (in_vector_at v i) ≡ verdict (sums_rows fmt v 0 (wholes fmt (raw_at fmt n bs)))
  sum_leaves h = ap (λ (b : Bool). verdict (row 17 (in_vector_at v i) b)) (sym (lt-ltb i n h)) ∙ sums-are

  pub sums_stay : n ≤ i → fine ≡ verdict (sums_rows fmt v 0 (wholes fmt (raw_at fmt n bs)))
  sums_stay h = ap (λ (b : Bool). verdict (row 17 (in_vector_at v i) b)) (sym (le-ltb i n h)) ∙ sums-are
