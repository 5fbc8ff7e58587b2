-- One law over rows in their order, for every call: a row is given exactly where its condition is true and that of no earlier row is; and
-- which numbers a call can give. Assumes nothing.
use mathlib.Core.Path.{◌≡◌, refl, sym, ap, ap₂, ◌∙◌, subst}
use mathlib.Core.Bool.{Bool, true, false}
use mathlib.Core.List.{List, [], ◌∷◌, ◌++◌, append_assoc}
use Prim.Native.Nat.{ℕ}
use native.Mathlib.Omega.{arith}
use lib.Dec.{T}
use Rattle.digits.specs.Lists.{Each}
use Rattle.digits.proofs.Lists.{each_append}
use Rattle.rules.specs.Verdict.{Point, Rows, no_rows, row, ◌then◌, Verdict, fine, refuse, first, verdict, Row, ordered, Passes, FirstTrue}
use Rattle.rules.specs.Calls.{among}

-- ---- fine: no row's condition is true

pub fine-passes : (rs : Rows) → verdict rs ≡ fine → Each Passes (ordered rs)
fine-passes no_rows e = tt
fine-passes (row a p true) e = let o : ◌≡◌ {A = ℕ} 0 1 = cc in absurd (omega arith)
fine-passes (row a p false) e = (refl, tt)
fine-passes (x then y) e = go (verdict x) (fine-passes x) (fine-passes y) e
  where
    go : (v : Verdict) → (v ≡ fine → Each Passes (ordered x)) → (verdict y ≡ fine → Each Passes (ordered y)) → first v (verdict y) ≡ fine → Each Passes (ordered x ++ ordered y)
    go fine f g e = each_append Passes (ordered x) (ordered y) (f refl) (g e)
    go (refuse a p) f g e = let o : ◌≡◌ {A = ℕ} 0 1 = cc in absurd (omega arith)

pub each_split : {A : Type 0} (P : A → Type 0) (xs ys : List A) → Each P (xs ++ ys) → Each P xs × Each P ys
each_split P [] ys h = (tt, h)
each_split P (x ∷ xs) ys h = let r = each_split P xs ys h.1 in ((h.0, r.0), r.1)

pub passes_fine : (rs : Rows) → Each Passes (ordered rs) → verdict rs ≡ fine
passes_fine no_rows h = refl
passes_fine (row a p b) h = ap (λ (x : Bool). verdict (row a p x)) h.0
passes_fine (x then y) h =
    let r = each_split Passes (ordered x) (ordered y) h in
    ap (λ (v : Verdict). first v (verdict y)) (passes_fine x r.0) ∙ passes_fine y r.1

-- ---- refused: the first whose condition is true

same-refusal : {a b : ℕ} {p q : Point} → refuse a p ≡ refuse b q → (a ≡ b) × (p ≡ q)
same-refusal e = (cc, cc)

pub refuse-first : (rs : Rows) (a : ℕ) (p : Point) → verdict rs ≡ refuse a p → FirstTrue (ordered rs) a p
refuse-first no_rows a p e = let o : ◌≡◌ {A = ℕ} 0 1 = cc in absurd (omega arith)
refuse-first (row b q true) a p e =
    let s = same-refusal e in
    record { before = []; behind = []; rows_are = ap₂ (λ (x : ℕ) (y : Point). record { number = x; point = y; condition = true } ∷ []) s.0 s.1; none_before = tt }
refuse-first (row b q false) a p e = let o : ◌≡◌ {A = ℕ} 0 1 = cc in absurd (omega arith)
refuse-first (x then y) a p e = go (verdict x) refl (refuse-first x a p) (refuse-first y a p) e
  where
    go : (v : Verdict) → verdict x ≡ v → (verdict x ≡ refuse a p → FirstTrue (ordered x) a p) → (verdict y ≡ refuse a p → FirstTrue (ordered y) a p) → first v (verdict y) ≡ refuse a p
        → FirstTrue (ordered x ++ ordered y) a p
    go fine q f g e =
        let r = g e in
        record {
          before = ordered x ++ r.before;
          behind = r.behind;
          rows_are = ap (λ (l : List Row). ordered x ++ l) r.rows_are ∙ sym (append_assoc (ordered x) r.before _);
          none_before = each_append Passes (ordered x) r.before (fine-passes x q) r.none_before;
        }
    go (refuse b w) q f g e =
        let r = f (q ∙ e) in
        record {
          before = r.before;
          behind = r.behind ++ ordered y;
          rows_are = ap (λ (l : List Row). l ++ ordered y) r.rows_are ∙ append_assoc r.before _ (ordered y);
          none_before = r.none_before;
        }

-- the first row of a list, found by going through it
abbrev first_row_of : List Row → Verdict
first_row_of [] = fine
first_row_of (r ∷ rs) = first (verdict (row r.number r.point r.condition)) (first_row_of rs)

first-assoc : (x y z : Verdict) → first (first x y) z ≡ first x (first y z)
first-assoc fine y z = refl
first-assoc (refuse a p) y z = refl

first-end : (v : Verdict) → first v fine ≡ v
first-end fine = refl
first-end (refuse a p) = refl

first_row_of-append : (xs ys : List Row) → first_row_of (xs ++ ys) ≡ first (first_row_of xs) (first_row_of ys)
first_row_of-append [] ys = refl
first_row_of-append (x ∷ xs) ys =
    ap (first (verdict (row x.number x.point x.condition))) (first_row_of-append xs ys) ∙ sym (first-assoc (verdict (row x.number x.point x.condition)) (first_row_of xs) (first_row_of ys))

first_row_of-ordered : (rs : Rows) → first_row_of (ordered rs) ≡ verdict rs
first_row_of-ordered no_rows = refl
first_row_of-ordered (row a p b) = first-end (verdict (row a p b))
first_row_of-ordered (x then y) = first_row_of-append (ordered x) (ordered y) ∙ ap₂ first (first_row_of-ordered x) (first_row_of-ordered y)

first_row_of-passes : (rs : List Row) → Each Passes rs → first_row_of rs ≡ fine
first_row_of-passes [] h = refl
first_row_of-passes (r ∷ rs) h = ap (λ (b : Bool). first (verdict (row r.number r.point b)) (first_row_of rs)) h.0 ∙ first_row_of-passes rs h.1

pub first-refuses : (rs : Rows) (a : ℕ) (p : Point) → FirstTrue (ordered rs) a p → verdict rs ≡ refuse a p
first-refuses rs a p f =
    sym (first_row_of-ordered rs) ∙ ap first_row_of f.rows_are ∙ first_row_of-append f.before _ ∙ ap (λ (v : Verdict). first v (refuse a p)) (first_row_of-passes f.before f.none_before)

-- ---- the numbers that can be given

-- every row has a number of the list
abbrev pub Numbered : List ℕ → Rows → Type 0
Numbered ns no_rows = Unit
Numbered ns (row a p b) = T (among a ns)
Numbered ns (x then y) = Numbered ns x × Numbered ns y

pub number-given : (ns : List ℕ) (rs : Rows) (a : ℕ) (p : Point) → Numbered ns rs → verdict rs ≡ refuse a p → T (among a ns)
number-given ns no_rows a p h e = let o : ◌≡◌ {A = ℕ} 0 1 = cc in absurd (omega arith)
number-given ns (row b q true) a p h e = subst (λ (x : ℕ). T (among x ns)) (same-refusal e).0 h
number-given ns (row b q false) a p h e = let o : ◌≡◌ {A = ℕ} 0 1 = cc in absurd (omega arith)
number-given ns (x then y) a p h e = go (verdict x) (λ q. number-given ns x a p h.0 q) (λ q. number-given ns y a p h.1 q) refl e
  where
    go : (v : Verdict) → (verdict x ≡ refuse a p → T (among a ns)) → (verdict y ≡ refuse a p → T (among a ns)) → verdict x ≡ v → first v (verdict y) ≡ refuse a p → T (among a ns)
    go fine f g q e = g e
    go (refuse b w) f g q e = f (q ∙ e)
