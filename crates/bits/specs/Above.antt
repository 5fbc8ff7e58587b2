-- The first of some fields that is above a number. Assumes nothing.
use Rattle.std.specs.Prelude.{ℕ, suc, ◌+◌, ◌≡◌, cond, List, [], ◌∷◌, drop, ltb}
use Rattle.digits.specs.Digits.{unpack}

-- how many stand before it: all, if none is above
abbrev pub first_above : ℕ → List ℕ → ℕ
first_above most [] = 0
first_above most (d ∷ ds) = cond (ltb most d) 0 (suc (first_above most ds))

-- none of the first i of n fields of width w is: it stands among the others
abbrev pub NoneAbove : ℕ → ℕ → List ℕ → ℕ → ℕ → Type 0
NoneAbove w n bs most i = first_above most (unpack w n bs) ≡ i + first_above most (drop i (unpack w n bs))
