-- Choosing the pair of a vector (document 02, T-04): of all pairs, in their order, the first of those with the fewest bytes. Assumes nothing.
use Rattle.std.specs.Prelude.{ℕ, zero, suc, ◌^◌, cond, ◌||◌, List, [], ◌∷◌, ◌++◌, length, take, drop}
use Rattle.std.specs.Float.{Format}
use Rattle.rules.specs.Kind.{max_s, max_exponent}
use Rattle.rules.specs.Decimal.{Pair}
use Rattle.rules.specs.Vector.{encoded}
use Rattle.rules.specs.Page.{size_of, vectors}
use Rattle.rules.specs.Verdict.{Rows, row, Verdict, fine, refuse, verdict, the_page, ◌below◌, ◌above◌, done_with, refusal}
use Rattle.rules.specs.declared.Choice.{Choice}

-- ---- the pairs, exponent rising, then factor rising

-- one exponent with n factors, from f on
unfoldable pub factors : ℕ → ℕ → ℕ → List Pair
factors e f zero = []
factors e f (suc n) = record { exponent = e; factor = f } ∷ factors e (suc f) n

-- n exponents, from e on, each with the factors 0 to itself
unfoldable pub exponents : ℕ → ℕ → List Pair
exponents e zero = []
exponents e (suc n) = factors e 0 (suc e) ++ exponents (suc e) n

-- all that are inside the limits: 66 or 190
unfoldable pub all_pairs : Format → List Pair
all_pairs fmt = exponents 0 (suc (max_exponent fmt))

-- ---- the first of the smallest

-- the bytes of a vector with a pair: metadata, packed part rounded up, exceptions
abbrev pub size_with : Format → List ℕ → Pair → ℕ
size_with fmt vs p = size_of fmt (encoded fmt p vs)

-- the best so far gives way only to one with fewer bytes
unfoldable pub first_smallest : (Pair → ℕ) → Pair → List Pair → Pair
first_smallest size best [] = best
first_smallest size best (p ∷ ps) = first_smallest size (cond (size p below size best) p best) ps

-- the pair 0, 0 is the first of all
abbrev pub first_pair : Pair
first_pair = record { exponent = 0; factor = 0 }

unfoldable pub chosen : Format → List ℕ → Pair
chosen fmt vs = first_smallest (size_with fmt vs) first_pair (all_pairs fmt)

-- the pairs chosen for a column, cut into k vectors of `size` values: one for each vector
unfoldable pub chosen_for : Format → ℕ → ℕ → List ℕ → List Pair
chosen_for fmt size zero vs = []
chosen_for fmt size (suc k) vs = chosen fmt (take size vs) ∷ chosen_for fmt size k (drop size vs)

abbrev pub chosen_pairs : Format → ℕ → List ℕ → List Pair
chosen_pairs fmt s vs = chosen_for fmt (2 ^ s) (vectors s (length vs)) vs

-- ---- the call

-- 31: no values, or more than a vector holds
unfoldable pub choose_rows : List ℕ → Rows
choose_rows vs = row 31 the_page (length vs below 1 || length vs above 2 ^ max_s)

-- done gives the count of values as place, and the pair; a refusal gives the pair 0, 0
abbrev pub choice : Verdict → ℕ → Pair → Choice
choice fine n p = record { answer = done_with n; exponent = p.exponent; factor = p.factor }
choice (refuse a q) n p = record { answer = refusal a q; exponent = 0; factor = 0 }

unfoldable pub choose_of : Format → List ℕ → Choice
choose_of fmt vs = choice (verdict (choose_rows vs)) (length vs) (chosen fmt vs)

-- to unfold this is to unfold all of the above
unfoldable pub all_choose : Unit {0}
unfolding factors exponents all_pairs first_smallest chosen chosen_for choose_rows choose_of
all_choose = tt
