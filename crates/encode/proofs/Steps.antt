-- A loop over the values of a vector: what is left at value i, its first one apart. Assumes nothing.
use mathlib.Core.Path.{◌≡◌, sym, ap, ◌∙◌, subst}
use mathlib.Core.List.{List, [], ◌∷◌}
use mathlib.Core.Option.{Option, none, some}
use native.Mathlib.Omega.{arith}
use Prim.Native.Nat.{ℕ, ◌+◌, ◌≤◌, ◌<◌}
use native.Mathlib.Numerals.{add-one}
use lib.ListN.{length, drop, get_or, drop_of_length-le}
use lib.Seq.{drop-cons}
use lib.IntN.{ℤ, pos}
use lib.Ieee.{Format}
use Rattle.bits.specs.Words.{WordLaws}
use Rattle.bits.proofs.WordLists.{none-numbers, cons-numbers, length-numbers, get-numbers}
use Rattle.rules.specs.Decimal.{Pair, tried}
use Rattle.rules.specs.Vector.{tries, the_stand_in}
use Rattle.encode.specs.Seen.{Seen, see, see_all}

-- ---- of the numbers of a list of words, as the code comes to them

-- the number v stands at place i
pub record NumberAt (vs : List ℕ) (i v : ℕ) : Type 0 where
  pub inside : i < length vs
  pub is : get_or vs i 0 ≡ v

module _ {A : Type 0} {as-number : A → ℕ} {as-numbers : List A → List ℕ} (laws : WordLaws as-number as-numbers) (xs : List A) (i : ℕ) where
  pub word_at : (x : A) → i < length xs → x ≡ get_or xs i x → NumberAt (as-numbers xs) i (as-number x)
  word_at x h e = record { inside = subst (λ (n : ℕ). i < n) (sym (length-numbers laws xs)) h; is = get-numbers laws xs i x 0 h ∙ ap as-number (sym e) }

  pub words-end : length xs ≤ i → length (as-numbers xs) ≤ i
  words-end h = subst (λ (n : ℕ). n ≤ i) (sym (length-numbers laws xs)) h

-- ---- what is left of them

pub values-next : (vs : List ℕ) (i v : ℕ) → NumberAt vs i v → drop i vs ≡ v ∷ drop (i + 1) vs
values-next vs i v a =
    let e : drop i vs ≡ get_or vs i 0 ∷ drop (i + 1) vs = let h = a.inside in rw (add-one, drop-cons vs i 0 h) in
    e ∙ ap (λ (x : ℕ). x ∷ drop (i + 1) vs) a.is

module _ (fmt : Format) (p : Pair) (vs : List ℕ) (i : ℕ) where
  pub tries-end : length vs ≤ i → tries fmt p (drop i vs) ≡ []
  tries-end h = ap (tries fmt p) (drop_of_length-le vs {i = i} h)

  pub see-end : (s : Seen) → length vs ≤ i → see_all s (tries fmt p (drop i vs)) ≡ s
  unfolding see_all
  see-end s h = ap (see_all s) (tries-end h)

  module _ (v : ℕ) (a : NumberAt vs i v) where
    pub tries-next : tries fmt p (drop i vs) ≡ tried fmt p v ∷ tries fmt p (drop (i + 1) vs)
    tries-next = ap (tries fmt p) (values-next vs i v a)

    -- the record
    pub see-next : (s : Seen) → see_all (see s (tried fmt p v)) (tries fmt p (drop (i + 1) vs)) ≡ see_all s (tries fmt p (drop i vs))
    unfolding see_all
    see-next s = rw tries-next

-- ---- the stand-in of the words xs, by their first: that of the rest where it is an exception

module _ {A : Type 0} {as-number : A → ℕ} {as-numbers : List A → List ℕ} (laws : WordLaws as-number as-numbers) (fmt : Format) (p : Pair) where
  pub stand-none : (xs : List A) → length xs ≡ 0 → (s : ℤ) → s ≡ the_stand_in (tries fmt p (as-numbers xs)) → s ≡ pos 0
  unfolding the_stand_in
  stand-none [] n s e = e ∙ ap (λ (ns : List ℕ). the_stand_in (tries fmt p ns)) (none-numbers laws)
  stand-none (x ∷ xs) n s e = absurd (omega (arith, n))

  module _ (xs : List A) (x : A) (rest : List A) (is : xs ≡ x ∷ rest) where
    first_apart : the_stand_in (tries fmt p (as-numbers xs)) ≡ the_stand_in (tried fmt p (as-number x) ∷ tries fmt p (as-numbers rest))
    first_apart = ap (λ (ns : List ℕ). the_stand_in (tries fmt p ns)) (ap as-numbers is ∙ cons-numbers laws x rest)

    pub stand-rest : (s : ℤ) → s ≡ the_stand_in (tries fmt p (as-numbers xs)) → none ≡ tried fmt p (as-number x) → s ≡ the_stand_in (tries fmt p (as-numbers rest))
    unfolding the_stand_in
    stand-rest s e q = e ∙ first_apart ∙ ap (λ (t : Option ℤ). the_stand_in (t ∷ tries fmt p (as-numbers rest))) (sym q)

    pub stand-first : (s z : ℤ) → s ≡ the_stand_in (tries fmt p (as-numbers xs)) → some z ≡ tried fmt p (as-number x) → s ≡ z
    unfolding the_stand_in
    stand-first s z e q = e ∙ first_apart ∙ ap (λ (t : Option ℤ). the_stand_in (t ∷ tries fmt p (as-numbers rest))) (sym q)
