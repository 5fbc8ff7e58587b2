-- Pages by the older rule (docs/OLDER-PAGES.md): until the fast rounding a whole number was the one nearest to the scaled value, ties to
-- even. No call writes them any more; they are defined here so that a theorem can say which of them are pages still, and what the examiner
-- answers to the others (theorems/proofs/Older). Assumes nothing.
use Rattle.std.specs.Prelude.{ℕ, suc, ◌*◌, ◌^◌, ◌≡◌, Bool, true, false, not, ◌||◌, cond, List, [], ◌∷◌, map, length, take, drop, eqb, ℤ, pos, Float}
use Rattle.std.proofs.Math.Option.{Option, none, some}
use Rattle.std.specs.Float.{Format, nan, inf, fin}
use Rattle.std.specs.Float.Ieee.{up, down, is_nan, of_bits}
use Rattle.std.specs.Float.Ieee.Nearest.{closest}
use Rattle.digits.specs.Lists.{Each}
use Rattle.rules.specs.Kind.{Values}
use Rattle.rules.specs.Decimal.{Pair, scaled, signed, back, is_infinite, is_negative_zero, beyond, tried}
use Rattle.rules.specs.Vector.{Raw, filled, places, picks, raw_of}
use Rattle.rules.specs.Page.{layout}
use Rattle.rules.specs.Verdict.{Rows, no_rows, row, ◌then◌, in_vector_at}
use Rattle.rules.specs.Write.{Inside}
use Rattle.rules.specs.Examine.{is_other}

-- ---- from a value to a whole number, as it was

-- the scaled value rounded to the nearest whole number, ties to even
unfoldable pub older_whole : Float → ℤ
older_whole nan = pos 0
older_whole (inf s) = pos 0
older_whole (fin s m e) = signed s (closest (m * up e) (down e))

-- only the scaled value was held against L
unfoldable pub older_exception : Format → Pair → ℕ → Bool
older_exception fmt p b =
    let x = of_bits fmt b in
    let y = scaled fmt p x in
    is_nan x || is_infinite x || is_negative_zero x || beyond fmt y || not (eqb (back fmt p (older_whole y)) b)

unfoldable pub older_tried : Format → Pair → ℕ → Option ℤ
older_tried fmt p b = cond (older_exception fmt p b) none (some (older_whole (scaled fmt p (of_bits fmt b))))

-- ---- a page by any way to turn values: `turn` gives the whole number of a value with a pair, none for an exception

abbrev pub vector_by : Format → Pair → (ℕ → Option ℤ) → List ℕ → Raw
vector_by fmt p turn vs = let ts = map turn vs in raw_of fmt p (filled ts) (places 0 ts) (picks ts vs)

unfoldable pub vectors_by : Format → (Pair → ℕ → Option ℤ) → ℕ → List Pair → List ℕ → List Raw
vectors_by fmt turn size [] vs = []
vectors_by fmt turn size (p ∷ ps) vs = vector_by fmt p (turn p) (take size vs) ∷ vectors_by fmt turn size ps (drop size vs)

abbrev pub page_by : Format → (Pair → ℕ → Option ℤ) → ℕ → List Pair → List ℕ → List ℕ
page_by fmt turn s ps vs = layout fmt s (length vs) (vectors_by fmt turn (2 ^ s) ps vs)

-- bs is the page of the values vs by the older rule, with s and the pairs ps, which are inside the limits
pub record OlderPageOf (fmt : Format) (bs : List ℕ) (s : ℕ) (ps : List Pair) (vs : List ℕ) : Type 0 where
  pub inside : Inside fmt s ps (length vs)
  pub values : Values fmt vs
  pub page_is : bs ≡ page_by fmt (older_tried fmt) s ps vs

-- ---- what became of a page's values

-- both rules give the value the same whole number, or it is an exception under both
abbrev pub Unmoved : Format → Pair → ℕ → Type 0
Unmoved fmt p v = older_tried fmt p v ≡ tried fmt p v

-- so it is with each value and its vector's pair
abbrev pub AllUnmoved : Format → ℕ → List Pair → List ℕ → Type 0
AllUnmoved fmt size [] vs = Unit
AllUnmoved fmt size (p ∷ ps) vs = Each (Unmoved fmt p) (take size vs) × AllUnmoved fmt size ps (drop size vs)

-- by the older rule and by the rule: a whole number that is another now, or none; and an exception that is none any more
abbrev pub other_now : Option ℤ → Option ℤ → Bool
other_now none now = false
other_now (some z) now = is_other z now

abbrev pub whole_now : Option ℤ → Option ℤ → Bool
whole_now none none = false
whole_now none (some y) = true
whole_now (some z) now = false

-- row a at the first value, counted from i, that `moved` so
unfoldable pub value_rows : ℕ → ℕ → (ℕ → Bool) → ℕ → List ℕ → Rows
value_rows a v moved i [] = no_rows
value_rows a v moved i (x ∷ vs) = row a (in_vector_at v i) (moved x) then value_rows a v moved (suc i) vs

-- vector by vector from number v: 21 at the first whole number that moved, then 22 at the first exception that did
unfoldable pub moved_rows : Format → ℕ → ℕ → List Pair → List ℕ → Rows
moved_rows fmt v size [] vs = no_rows
moved_rows fmt v size (p ∷ ps) vs =
    value_rows 21 v (λ (x : ℕ). other_now (older_tried fmt p x) (tried fmt p x)) 0 (take size vs)
    then value_rows 22 v (λ (x : ℕ). whole_now (older_tried fmt p x) (tried fmt p x)) 0 (take size vs)
    then moved_rows fmt (suc v) size ps (drop size vs)

-- to unfold this is to unfold all of the above
unfoldable pub all_older : Unit {0}
unfolding older_whole older_exception older_tried vectors_by value_rows moved_rows
all_older = tt
