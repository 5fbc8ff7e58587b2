-- What code over every word may rest on: a list of words is the list of their numbers, one by one. Assumes nothing.
use Rattle.std.specs.Prelude.{ℕ, ◌≡◌, refl, List, [], ◌∷◌, map}
use Rattle.std.proofs.Common.{ap}

pub record WordLaws {A : Type 0} (as-number : A → ℕ) (as-numbers : List A → List ℕ) : Type 0 where
  pub one_by_one : (xs : List A) → as-numbers xs ≡ map as-number xs

-- a machine word is its own number
abbrev pub itself : ℕ → ℕ
itself n = n

abbrev pub themselves : List ℕ → List ℕ
themselves ns = ns

each-itself : (ns : List ℕ) → ns ≡ map itself ns
each-itself [] = refl
each-itself (n ∷ ns) = ap (λ (t : List ℕ). n ∷ t) (each-itself ns)

pub word_laws : WordLaws itself themselves
word_laws = record { one_by_one = each-itself }
