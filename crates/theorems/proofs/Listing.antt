-- A position is listed in a written vector exactly where its value is an exception, with the value's own bits. Assumes nothing.
use mathlib.Core.Path.{◌≡◌, refl, sym, ap, ◌∙◌}
use mathlib.Core.Bool.{Bool, true, false, cond}
use Prim.Native.Nat.{ℕ, zero, suc, ◌+◌, ◌<◌}
use native.Mathlib.Nat.{le_of_suc-le-suc, not-suc-le-zero, add-zero, zero-add, suc-add, add-suc}
use mathlib.Core.List.{List, [], ◌∷◌, zip_with}
use mathlib.Core.Option.{Option, none, some}
use lib.ListN.{length, get_or, length-map}
use lib.IntN.{ℤ}
use lib.Ieee.{Format}
use Rattle.rules.specs.Decimal.{Pair, exception, tried}
use Rattle.rules.specs.Vector.{tries, encoded, raw_of, places, picks, stored, marks}
use Rattle.rules.proofs.Tries.{tried-is, tried-none}
use Rattle.rules.proofs.Marks.{mark, marks-back}

-- what is stored for position i + j is mark j from position i on
marks-at : (ps xs : List ℕ) (i n j : ℕ) → j < n → get_or (marks ps xs i n) j none ≡ stored ps xs (i + j)
unfolding marks
marks-at ps xs i zero j h = absurd (not-suc-le-zero h)
marks-at ps xs i (suc n) zero h = ap (stored ps xs) (sym (add-zero i))
marks-at ps xs i (suc n) (suc j) h = marks-at ps xs (suc i) n j (le_of_suc-le-suc h) ∙ ap (stored ps xs) (suc-add i j ∙ sym (add-suc i j))

marked-at : (fmt : Format) (p : Pair) (vs : List ℕ) (j : ℕ) → j < length vs → get_or (zip_with mark (tries fmt p vs) vs) j none ≡ mark (tried fmt p (get_or vs j 0)) (get_or vs j 0)
unfolding zip_with
marked-at fmt p [] j h = absurd (not-suc-le-zero h)
marked-at fmt p (v ∷ vs) zero h = refl
marked-at fmt p (v ∷ vs) (suc j) h = marked-at fmt p vs j (le_of_suc-le-suc h)

mark_is : (fmt : Format) (p : Pair) (v : ℕ) → mark (tried fmt p v) v ≡ cond (exception fmt p v) (some v) none
mark_is fmt p v = go (exception fmt p v) refl
  where
    go : (b : Bool) → exception fmt p v ≡ b → mark (tried fmt p v) v ≡ cond b (some v) none
    go true e = ap (λ (t : Option ℤ). mark t v) (tried-none fmt p v e)
    go false e = ap (λ (t : Option ℤ). mark t v) (tried-is fmt p v e)

pub listed-exactly : (fmt : Format) (p : Pair) (vs : List ℕ) (i : ℕ) → i < length vs
    → stored (encoded fmt p vs).positions (encoded fmt p vs).exceptions i ≡ cond (exception fmt p (get_or vs i 0)) (some (get_or vs i 0)) none
unfolding encoded raw_of
listed-exactly fmt p vs i h =
    let ts = tries fmt p vs in
    ap (stored (places 0 ts) (picks ts vs)) (sym (zero-add i))
    ∙ sym (marks-at (places 0 ts) (picks ts vs) 0 (length vs) i h)
    ∙ ap (λ (ms : List (Option ℕ)). get_or ms i none) (marks-back 0 ts vs (length-map vs (tried fmt p)))
    ∙ marked-at fmt p vs i h
    ∙ mark_is fmt p (get_or vs i 0)
