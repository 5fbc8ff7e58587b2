-- Lists: a fact of every element, lists one after the other, and a stretch put into a list with the rest as it came. Assumes nothing.
use Rattle.std.specs.Prelude.{ℕ, ◌+◌, List, [], ◌∷◌, ◌++◌, length, take, drop}

-- P holds of every element
abbrev pub Each {ℓ} : {A : Type ℓ} → (A → Type 0) → List A → Type 0
Each P [] = Unit
Each P (x ∷ xs) = P x × Each P xs

-- lists one after the other
abbrev pub join : List (List ℕ) → List ℕ
join [] = []
join (x ∷ xs) = x ++ join xs

-- d with its first elements replaced by w, the rest as it came
abbrev pub over : List ℕ → List ℕ → List ℕ
over w d = w ++ drop (length w) d

-- d with w from place a on, the rest as it came
abbrev pub put_at : ℕ → List ℕ → List ℕ → List ℕ
put_at a w d = take a d ++ (w ++ drop (a + length w) d)
