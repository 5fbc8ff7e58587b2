-- The lists of exceptions: what is stored for each position, that the positions and values picked out are found again, and that to put
-- them one by one is to keep marks. Assumes nothing.
use mathlib.Core.Path.{◌≡◌, refl, sym, ap, ap₂, ◌∙◌, subst}
use mathlib.Core.Bool.{Bool, true, false, not, cond}
use Prim.Native.Nat.{ℕ, zero, suc, ◌+◌, ◌<◌, ◌≤◌}
use native.Mathlib.Nat.{le_refl, le_trans, le-suc, le_of_suc-le-suc, not-suc-le-zero, suc_inj, zero-add, add-zero, suc-add, add-suc}
use native.Mathlib.Omega.{arith}
use mathlib.Core.List.{List, [], ◌∷◌, map, zip_with}
use mathlib.Core.Option.{Option, none, some}
use lib.ListN.{length, get_or, set, length-set, length-map}
use lib.Seq.{get_or-set_same, get_or-set_other, ext_get_or}
use lib.Dec.{T, eqb, eqb→eq, eqb_refl, not_T}
use lib.Ieee.Bits.{cond_no}
use borrow.Author.Tests.{eqb-true, eqb-false}
use Rattle.digits.specs.Lists.{Each}
use Rattle.digits.proofs.Lists.{each_map}
use Rattle.rules.specs.Vector.{or_else, places, picks, stored, marks}
use Rattle.rules.proofs.Reading.{Rising}

neq : (i j : ℕ) → i < j → T (not (eqb j i))
neq i j h = not_T (eqb j i) (λ t. let e : j ≡ i = eqb→eq j i t in omega arith)

pub stored-nil : (xs : List ℕ) (i : ℕ) → stored [] xs i ≡ none
unfolding stored
stored-nil xs i = refl

-- an entry below i is of no account from i on
pub stored-skip : (p x : ℕ) (ps xs : List ℕ) (i : ℕ) → p < i → stored (p ∷ ps) (x ∷ xs) i ≡ stored ps xs i
unfolding stored
stored-skip p x ps xs i h = cond_no (eqb i p) (some x) (stored ps xs i) (neq p i h)

pub marks-skip : (p x : ℕ) (ps xs : List ℕ) (i n : ℕ) → p < i → marks (p ∷ ps) (x ∷ xs) i n ≡ marks ps xs i n
unfolding marks
marks-skip p x ps xs i zero h = refl
marks-skip p x ps xs i (suc n) h = ap₂ (λ (m : Option ℕ) (ms : List (Option ℕ)). m ∷ ms) (stored-skip p x ps xs i h) (marks-skip p x ps xs (suc i) n (omega arith))

-- nothing is stored for i where every entry is above it
pub stored-none : (ps xs : List ℕ) (i : ℕ) → Each (λ (p : ℕ). i < p) ps → stored ps xs i ≡ none
unfolding stored
stored-none [] xs i h = refl
stored-none (p ∷ ps) [] i h = refl
stored-none (p ∷ ps) (x ∷ xs) i h = cond_no (eqb i p) (some x) (stored ps xs i) (not_T (eqb i p) (λ t. let e : i ≡ p = eqb→eq i p t in let l = h.0 in omega arith)) ∙ stored-none ps xs i h.1

pub places-above : {A : Type 0} (i : ℕ) (ts : List (Option A)) → Each (λ (p : ℕ). i ≤ p) (places i ts)
unfolding places
places-above i [] = tt
places-above i (none ∷ ts) = (le_refl i, each_map (λ (p : ℕ). suc i ≤ p) (λ (p : ℕ). i ≤ p) (λ p h. omega arith) (places (suc i) ts) (places-above (suc i) ts))
places-above i (some z ∷ ts) = each_map (λ (p : ℕ). suc i ≤ p) (λ (p : ℕ). i ≤ p) (λ p h. omega arith) (places (suc i) ts) (places-above (suc i) ts)

-- the value stored for each exception, and nothing for the others
abbrev pub mark {ℓ} : {A : Type ℓ} → Option A → ℕ → Option ℕ
mark none v = some v
mark (some z) v = none

pub stored_here : (i x : ℕ) (ps xs : List ℕ) → stored (i ∷ ps) (x ∷ xs) i ≡ some x
unfolding stored
stored_here i x ps xs = cond_yes (eqb i i) (some x) (stored ps xs i) (eqb_refl i)
  where
    cond_yes : (b : Bool) (x y : Option ℕ) → T b → cond b x y ≡ x
    cond_yes true x y t = refl
    cond_yes false x y t = absurd t

pub marks-back : {A : Type 0} (i : ℕ) (ts : List (Option A)) (vs : List ℕ) → length ts ≡ length vs → marks (places i ts) (picks ts vs) i (length vs) ≡ zip_with mark ts vs
unfolding marks places picks zip_with
marks-back i [] [] e = refl
marks-back i [] (v ∷ vs) e = absurd (omega (arith, e))
marks-back i (t ∷ ts) [] e = absurd (omega (arith, e))
marks-back i (none ∷ ts) (v ∷ vs) e =
    ap₂ (λ (m : Option ℕ) (ms : List (Option ℕ)). m ∷ ms) (stored_here i v (places (suc i) ts) (picks ts vs))
    (marks-skip i v (places (suc i) ts) (picks ts vs) (suc i) (length vs) (le_refl (suc i)) ∙ marks-back (suc i) ts vs (suc_inj e))
marks-back i (some z ∷ ts) (v ∷ vs) e =
    ap₂ (λ (m : Option ℕ) (ms : List (Option ℕ)). m ∷ ms) (stored-none (places (suc i) ts) (picks ts vs) i (places-above (suc i) ts)) (marks-back (suc i) ts vs (suc_inj e))

-- ---- the listed values put one by one

-- vs with x put at p for each p of ps and its x of xs, in their order
unfoldable pub replaced : List ℕ → List ℕ → List ℕ → List ℕ
replaced [] xs vs = vs
replaced (p ∷ ps) [] vs = vs
replaced (p ∷ ps) (x ∷ xs) vs = replaced ps xs (set vs p x)

pub length-replaced : (ps xs vs : List ℕ) → length (replaced ps xs vs) ≡ length vs
unfolding replaced
length-replaced [] xs vs = refl
length-replaced (p ∷ ps) [] vs = refl
length-replaced (p ∷ ps) (x ∷ xs) vs = length-replaced ps xs (set vs p x) ∙ length-set vs p x

pub rising-below : (n low : ℕ) (ps : List ℕ) → Rising n low ps → Each (λ (p : ℕ). p < n) ps
rising-below n low [] h = tt
rising-below n low (p ∷ ps) h = (h.1, rising-below n (suc p) ps h.2)

rising-above : (n low i : ℕ) (ps : List ℕ) → i < low → Rising n low ps → Each (λ (p : ℕ). i < p) ps
rising-above n low i [] h r = tt
rising-above n low i (p ∷ ps) h r = (le_trans h r.0, rising-above n (suc p) i ps (le_trans h (le_trans r.0 (le-suc p))) r.2)

-- of rising positions, what is put at j is what is stored for it
get_or-replaced : (n low : ℕ) (ps xs vs : List ℕ) (j : ℕ) → Rising n low ps → n ≤ length vs → length ps ≡ length xs → get_or (replaced ps xs vs) j 0 ≡ or_else (get_or vs j 0) (stored ps xs j)
unfolding replaced stored
get_or-replaced n low [] xs vs j r h e = refl
get_or-replaced n low (p ∷ ps) [] vs j r h e = absurd (omega (arith, e))
get_or-replaced n low (p ∷ ps) (x ∷ xs) vs j r h e =
    go (get_or-replaced n (suc p) ps xs (set vs p x) j r.2 (rw (length-set vs p x) h) (suc_inj e)) (eqb j p) (eqb-true j p) (eqb-false j p)
  where
    go : get_or (replaced ps xs (set vs p x)) j 0 ≡ or_else (get_or (set vs p x) j 0) (stored ps xs j) → (b : Bool) → (b ≡ true → j ≡ p) → (b ≡ false → j ≡ p → ⊥) → get_or (replaced ps xs (set vs p x)) j 0 ≡ or_else (get_or vs j 0) (cond b (some x) (stored ps xs j))
    go ih true y w =
        let q : j ≡ p = y refl in
        ih
        ∙ ap₂ (λ (y : ℕ) (z : Option ℕ). or_else y z) (ap (λ (k : ℕ). get_or (set vs p x) k 0) q ∙ get_or-set_same vs p x 0 (le_trans r.1 h))
        (ap (stored ps xs) q ∙ stored-none ps xs p (rising-above n (suc p) p ps (le_refl (suc p)) r.2))
    go ih false y w = ih ∙ ap (λ (y : ℕ). or_else y (stored ps xs j)) (get_or-set_other vs p j x 0 (w refl))

-- a list in which each marked place takes its mark, any other what b makes of its element
module _ {A : Type 0} (b : A → ℕ) where
  get_or-marked : (zs : List A) (ps xs : List ℕ) (i n j : ℕ) → length zs ≡ n → j < n
      → get_or (zip_with (λ (z : A) (m : Option ℕ). or_else (b z) m) zs (marks ps xs i n)) j 0 ≡ or_else (get_or (map b zs) j 0) (stored ps xs (i + j))
  unfolding zip_with marks
  get_or-marked zs ps xs i zero j e h = absurd (not-suc-le-zero h)
  get_or-marked [] ps xs i (suc n) j e h = absurd (omega (arith, e))
  get_or-marked (z ∷ zs) ps xs i (suc n) zero e h = ap (λ (k : ℕ). or_else (b z) (stored ps xs k)) (sym (add-zero i))
  get_or-marked (z ∷ zs) ps xs i (suc n) (suc j) e h =
      get_or-marked zs ps xs (suc i) n j (suc_inj e) (le_of_suc-le-suc h) ∙ ap (λ (k : ℕ). or_else (get_or (map b zs) j 0) (stored ps xs k)) (suc-add i j ∙ sym (add-suc i j))

  length_marked : (zs : List A) (ps xs : List ℕ) (i n : ℕ) → length zs ≡ n → length (zip_with (λ (z : A) (m : Option ℕ). or_else (b z) m) zs (marks ps xs i n)) ≡ n
  unfolding zip_with marks
  length_marked [] ps xs i n e = e
  length_marked (z ∷ zs) ps xs i zero e = absurd (omega (arith, e))
  length_marked (z ∷ zs) ps xs i (suc n) e = ap suc (length_marked zs ps xs (suc i) n (suc_inj e))

  -- to keep marks is to put the listed values one by one
  pub marked-replaced : (zs : List A) (ps xs : List ℕ) (n : ℕ) → length zs ≡ n → Rising n 0 ps → length ps ≡ length xs
      → zip_with (λ (z : A) (m : Option ℕ). or_else (b z) m) zs (marks ps xs 0 n) ≡ replaced ps xs (map b zs)
  marked-replaced zs ps xs n e r l =
      ext_get_or 0 _ _ (length_marked zs ps xs 0 n e ∙ sym (length-replaced ps xs (map b zs) ∙ length-map zs b ∙ e))
      (λ j h.
      get_or-marked zs ps xs 0 n j e (subst (λ (k : ℕ). j < k) (length_marked zs ps xs 0 n e) h)
      ∙ ap (λ (k : ℕ). or_else (get_or (map b zs) j 0) (stored ps xs k)) (zero-add j)
      ∙ sym (get_or-replaced n 0 ps xs (map b zs) j r (omega (arith, length-map zs b, e)) l))
