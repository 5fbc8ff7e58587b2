-- The pairs in their order: what is left of them behind one, and the best of them so far. Assumes nothing.
use mathlib.Core.Path.{◌≡◌, refl, sym, ap, ◌∙◌}
use mathlib.Core.Bool.{Bool, true, false, cond}
use mathlib.Core.List.{List, [], ◌∷◌, ◌++◌}
use Prim.Native.Nat.{ℕ, zero, suc, ◌+◌, ◌-◌, ◌≤◌, ◌<◌, min}
use native.Mathlib.Nat.{lt_of_not-le}
use native.Mathlib.Decide.{dec_le}
use native.Mathlib.Omega.{arith}
use lib.Dec.{ltb}
use borrow.Author.Tests.{lt-ltb, le-ltb}
use lib.Ieee.{Format, binary32, binary64}
use Rattle.rules.specs.Kind.{max_exponent}
use Rattle.rules.specs.Decimal.{Pair}
use Rattle.rules.specs.Choose.{factors, exponents, all_pairs, size_with, first_smallest, first_pair, chosen}
use Rattle.rules.specs.Vector.{tries}
use Rattle.rules.specs.Coded.{as_pair}
use Rattle.rules.specs.declared.Pair as code
use Rattle.rules.proofs.Rows.{same-both}
use Rattle.encode.specs.Seen.{Seen, seen_of, size_seen}
use Rattle.encode.proofs.Record.{seen_size}
use Rattle.chooser.specs.declared.search.Best.{Best}

-- ---- from a pair on, with exponents below `top`

abbrev from : ℕ → Pair → List Pair
from top p = cond (ltb p.exponent top) (factors p.exponent p.factor (suc p.exponent - p.factor) ++ exponents (suc p.exponent) (top - suc p.exponent)) []

from_end : (top : ℕ) (p : Pair) → top ≤ p.exponent → from top p ≡ []
from_end top p h = rw (le-ltb p.exponent top h)

module _ (top e : ℕ) (he : e < top) where
  abbrev with_factor : ℕ → Pair
  with_factor f = record { exponent = e; factor = f }

  here : (f : ℕ) → from top (with_factor f) ≡ factors e f (suc e - f) ++ exponents (suc e) (top - suc e)
  here f = rw (lt-ltb e top he)

  next-factor : (f : ℕ) → f ≤ e → from top (with_factor f) ≡ with_factor f ∷ from top (with_factor (f + 1))
  unfolding factors
  next-factor f h =
      let one : suc e - f ≡ suc (suc e - (f + 1)) = omega arith in
      let more : suc f ≡ f + 1 = omega arith in
      here f ∙ ap (λ (n : ℕ). factors e f n ++ exponents (suc e) (top - suc e)) one
      ∙ ap (λ (g : ℕ). with_factor f ∷ (factors e g (suc e - (f + 1)) ++ exponents (suc e) (top - suc e))) more
      ∙ ap (λ (l : List Pair). with_factor f ∷ l) (sym (here (f + 1)))

  -- behind the last factor comes the next exponent
  next-exponent : from top (with_factor (e + 1)) ≡ from top (record { exponent = e + 1; factor = 0 })
  unfolding factors exponents
  next-exponent =
      let none : suc e - (e + 1) ≡ zero = omega arith in
      let more : suc e ≡ e + 1 = omega arith in
      here (e + 1) ∙ ap (λ (n : ℕ). factors e (e + 1) n ++ exponents (suc e) (top - suc e)) none
      ∙ ap (λ (n : ℕ). exponents n (top - n)) more ∙ row
    where
      row : exponents (e + 1) (top - (e + 1)) ≡ from top (record { exponent = e + 1; factor = 0 })
      row = elim (dec_le (suc (e + 1)) top) [
        | yes h ↦ (let one : top - (e + 1) ≡ suc (top - suc (e + 1)) = omega arith in let all : suc (e + 1) ≡ suc (e + 1) - 0 = omega arith in
            ap (exponents (e + 1)) one ∙ ap (λ (n : ℕ). factors (e + 1) 0 n ++ exponents (suc (e + 1)) (top - suc (e + 1))) all ∙ ap (λ (b : Bool). cond b (factors (e + 1) 0 (suc (e + 1) - 0) ++ exponents (suc (e + 1)) (top - suc (e + 1))) []) (sym (lt-ltb (e + 1) top h)))
        | no h ↦ (let none : top - (e + 1) ≡ zero = omega (arith, lt_of_not-le h) in
            ap (exponents (e + 1)) none ∙ sym (from_end top (record { exponent = e + 1; factor = 0 }) (omega (arith, lt_of_not-le h))))
      ]

-- ---- the best so far

-- the code's pair of e and f
abbrev pair_of : ℕ → ℕ → code.Pair
pair_of e f = record { exponent = record { 0 = e }; factor = record { 0 = f } }

cond-ap : {A B : Type 0} (f : A → B) (t : Bool) (x y : A) → f (cond t x y) ≡ cond t (f x) (f y)
cond-ap f true x y = refl
cond-ap f false x y = refl

-- a trial that only tells what is below the best so far tells whether it is
same_test : (b r s : ℕ) → min b r ≡ min b s → ltb r b ≡ ltb s b
same_test b r s e = elim (dec_le (suc r) b) [
  | yes h ↦ lt-ltb r b h ∙ sym (lt-ltb s b (omega arith))
  | no h ↦ (let k = lt_of_not-le h in le-ltb r b (omega arith) ∙ sym (le-ltb s b (omega arith)))
]

-- `best` has the fewest bytes of the pairs before that of e and f; the first of the smallest of all is still to be found from there on
pub record Ahead (fmt : Format) (vs : List ℕ) (best : Best) (e f : ℕ) : Type 0 where
  pub size_is : best.size ≡ size_with fmt vs (as_pair best.pair)
  pub rest_is : first_smallest (size_with fmt vs) (as_pair best.pair) (from (suc (max_exponent fmt)) (record { exponent = e; factor = f })) ≡ chosen fmt vs

module _ (fmt : Format) (vs : List ℕ) (best : Best) (e : ℕ) where
  abbrev size : Pair → ℕ
  size = size_with fmt vs

  module _ (within : e ≤ max_exponent fmt) where
    -- q, the pair of e and f, was tried, and gave r
    pub ahead_next : (f : ℕ) → f ≤ e → Ahead fmt vs best e f → (q : code.Pair) → q ≡ pair_of e f → (r : ℕ) → min best.size r ≡ min best.size (size (as_pair q))
        → (new : Best) → new ≡ cond (ltb r best.size) (record { pair = pair_of e f; size = r }) best → Ahead fmt vs new e (f + 1)
    unfolding first_smallest
    ahead_next f hf a q eq r er new en =
        let tried : Pair = record { exponent = e; factor = f } in
        let is : as_pair q ≡ tried = ap as_pair eq in
        let gave : min best.size r ≡ min best.size (size tried) = er ∙ ap (λ (x : Pair). min best.size (size x)) is in
        let test : ltb r best.size ≡ ltb (size tried) (size (as_pair best.pair)) = same_test best.size r (size tried) gave ∙ ap (ltb (size tried)) a.size_is in
        let pair : as_pair new.pair ≡ cond (ltb r best.size) tried (as_pair best.pair) =
        ap (λ (x : Best). as_pair x.pair) en ∙ cond-ap (λ (x : Best). as_pair x.pair) (ltb r best.size) (record { pair = pair_of e f; size = r }) best in
        record {
          size_is = ap (λ (x : Best). x.size) en ∙ cond-ap (λ (x : Best). x.size) (ltb r best.size) (record { pair = pair_of e f; size = r }) best ∙ sized tried r gave a.size_is ∙ ap size (sym pair);
          rest_is =
              ap (λ (x : Pair). first_smallest size x (from (suc (max_exponent fmt)) (record { exponent = e; factor = f + 1 }))) (pair ∙ ap (λ (t : Bool). cond t tried (as_pair best.pair)) test)
              ∙ ap (first_smallest size (as_pair best.pair)) (sym (next-factor (suc (max_exponent fmt)) e (omega (arith, within)) f hf))
              ∙ a.rest_is;
        }
      where
        sized : (p : Pair) (r : ℕ) → min best.size r ≡ min best.size (size p) → best.size ≡ size (as_pair best.pair) → cond (ltb r best.size) r best.size ≡ size (cond (ltb r best.size) p (as_pair best.pair))
        sized p r er en = elim (dec_le (suc r) best.size) [
          | yes h ↦ (let same : r ≡ size p = omega (arith, er) in rw (lt-ltb r best.size h) same)
          | no h ↦ rw (le-ltb r best.size (omega (arith, lt_of_not-le h))) en
        ]

    -- so was each factor of e
    pub ahead_row : (f : ℕ) → f ≡ e + 1 → Ahead fmt vs best e f → Ahead fmt vs best (e + 1) 0
    ahead_row f ef a = record {
      size_is = a.size_is;
      rest_is =
          ap (first_smallest size (as_pair best.pair))
          (sym (ap (λ (g : ℕ). from (suc (max_exponent fmt)) (record { exponent = e; factor = g })) ef ∙ next-exponent (suc (max_exponent fmt)) e (omega (arith, within))))
          ∙ a.rest_is;
    }

  pub ahead_end : max_exponent fmt < e → (f : ℕ) → Ahead fmt vs best e f → as_pair best.pair ≡ chosen fmt vs
  unfolding first_smallest
  ahead_end h f a = ap (first_smallest size (as_pair best.pair)) (sym (from_end (suc (max_exponent fmt)) (record { exponent = e; factor = f }) (omega (arith, h)))) ∙ a.rest_is

-- ---- the first pair of all

all_pairs_lem : (fmt : Format) → from (suc (max_exponent fmt)) first_pair ≡ all_pairs fmt
unfolding factors exponents all_pairs
all_pairs_lem binary32 = refl
all_pairs_lem binary64 = refl

-- it was scanned in full, and the others are to be tried
pub ahead_start : (fmt : Format) (vs : List ℕ) (p : code.Pair) → p ≡ pair_of 0 0 → (s : Seen) → s ≡ seen_of (tries fmt (as_pair p) vs) → (n : ℕ) → n ≡ size_seen fmt s
    → Ahead fmt vs (record { pair = pair_of 0 0; size = n }) 1 0
unfolding chosen first_smallest
ahead_start fmt vs p ep s es n en =
    let size = size_with fmt vs in
    let top = suc (max_exponent fmt) in
    record {
      size_is = en ∙ ap (size_seen fmt) es ∙ seen_size fmt (as_pair p) vs ∙ ap (λ (x : code.Pair). size (as_pair x)) ep;
      rest_is =
          ap (λ (p : Pair). first_smallest size p (from top (record { exponent = 1; factor = 0 }))) (sym (same-both (ltb (size first_pair) (size first_pair)) first_pair))
          ∙ ap (first_smallest size first_pair) (sym (next-factor top 0 (omega arith) 0 (omega arith) ∙ ap (λ (l : List Pair). first_pair ∷ l) (next-exponent top 0 (omega arith))) ∙ all_pairs_lem fmt);
    }
