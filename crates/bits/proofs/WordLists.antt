-- A list of words, seen as the list of their numbers: what `one_by_one` gives for its length, its parts, and an element read or stored.
-- Assumes nothing.
use Rattle.std.proofs.Common.{◌≡◌, ℕ, ◌<◌, List, [], ◌∷◌, ◌++◌, length, get_or, take, drop, set, map, sym, ap, ap₂, ◌∙◌}
use Rattle.std.proofs.lemmas.List.{length-map, map-append, take-map, drop-map, map-set, get_or-map}
use borrow.Rule.Slice.PartMut.{put_mid}
use Rattle.bits.specs.Words.{WordLaws}

module _ {A : Type 0} {as-number : A → ℕ} {as-numbers : List A → List ℕ} (laws : WordLaws as-number as-numbers) where
  -- a law of `map`, said of the numbers
  by_map : (xs : List A) (ns : List ℕ) → map as-number xs ≡ ns → as-numbers xs ≡ ns
  by_map xs ns e = laws.one_by_one xs ∙ e

  pub none-numbers : as-numbers [] ≡ []
  none-numbers = laws.one_by_one []

  pub cons-numbers : (x : A) (xs : List A) → as-numbers (x ∷ xs) ≡ as-number x ∷ as-numbers xs
  cons-numbers x xs = by_map (x ∷ xs) (as-number x ∷ as-numbers xs) (ap (λ (ns : List ℕ). as-number x ∷ ns) (sym (laws.one_by_one xs)))

  pub length-numbers : (xs : List A) → length (as-numbers xs) ≡ length xs
  length-numbers xs = ap length (laws.one_by_one xs) ∙ length-map xs as-number

  pub append-numbers : (xs ys : List A) → as-numbers (xs ++ ys) ≡ as-numbers xs ++ as-numbers ys
  append-numbers xs ys = by_map (xs ++ ys) _ (map-append as-number xs ys ∙ sym (ap₂ (λ (ns ms : List ℕ). ns ++ ms) (laws.one_by_one xs) (laws.one_by_one ys)))

  pub take-numbers : (n : ℕ) (xs : List A) → as-numbers (take n xs) ≡ take n (as-numbers xs)
  take-numbers n xs = by_map (take n xs) _ (sym (take-map as-number n xs) ∙ sym (ap (take n) (laws.one_by_one xs)))

  pub drop-numbers : (n : ℕ) (xs : List A) → as-numbers (drop n xs) ≡ drop n (as-numbers xs)
  drop-numbers n xs = by_map (drop n xs) _ (sym (drop-map as-number n xs) ∙ sym (ap (drop n) (laws.one_by_one xs)))

  -- the slice `&xs[a..b]`
  pub slice-numbers : (n a : ℕ) (xs : List A) → as-numbers (take n (drop a xs)) ≡ take n (drop a (as-numbers xs))
  slice-numbers n a xs = take-numbers n (drop a xs) ∙ ap (take n) (drop-numbers a xs)

  -- a word stored
  pub set-numbers : (xs : List A) (i : ℕ) (x : A) → as-numbers (set xs i x) ≡ set (as-numbers xs) i (as-number x)
  set-numbers xs i x = by_map (set xs i x) _ (map-set as-number xs i x ∙ sym (ap (λ (ns : List ℕ). set ns i (as-number x)) (laws.one_by_one xs)))

  -- a word read: what stands behind the end is of no matter
  pub get-numbers : (xs : List A) (i : ℕ) (x : A) (n : ℕ) → i < length xs → get_or (as-numbers xs) i n ≡ as-number (get_or xs i x)
  get-numbers xs i x n h = ap (λ (ns : List ℕ). get_or ns i n) (laws.one_by_one xs) ∙ get_or-map as-number xs i x n h

  -- a part that was lent and came back as ys, with what stands before it and behind it
  pub put_mid-numbers : (a k : ℕ) (xs ys : List A) → as-numbers (put_mid a k xs ys) ≡ put_mid a k (as-numbers xs) (as-numbers ys)
  put_mid-numbers a k xs ys =
      append-numbers (take a xs) (ys ++ drop k (drop a xs))
      ∙ ap₂ (λ (ns ms : List ℕ). ns ++ ms) (take-numbers a xs) (append-numbers ys (drop k (drop a xs)) ∙ ap (λ (ns : List ℕ). as-numbers ys ++ ns) (drop-numbers k (drop a xs) ∙ ap (drop k) (drop-numbers a xs)))
