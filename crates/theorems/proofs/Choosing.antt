-- Choosing a pair: when it refuses; that all pairs inside the limits are tried; and that the one that is found is the first of the smallest,
-- which is one only. Assumes nothing.
use mathlib.Core.Path.{◌≡◌, refl, sym, ap, ◌∙◌, subst}
use mathlib.Core.Bool.{cond, ◌||◌}
use mathlib.Core.List.{List, [], ◌∷◌, ◌++◌, append_assoc, append-nil}
use mathlib.Core.Logic.{◌↔◌}
use Prim.Native.Nat.{ℕ, zero, suc, ◌+◌, ◌^◌, ◌≤◌, ◌<◌}
use native.Mathlib.Nat.{le_refl, lt_of_lt_of_le, lt_of_not-le, le_of_lt}
use native.Mathlib.Decide.{dec_le}
use native.Mathlib.Omega.{arith}
use lib.ListN.{length}
use lib.Dec.{ltb}
use lib.Ieee.{Format, binary32, binary64}
use borrow.Author.Tests.{lt-ltb, le-ltb, ltb-false}
use Rattle.digits.specs.Lists.{Each}
use Rattle.digits.proofs.Lists.{each_append, each_map}
use Rattle.rules.specs.Kind.{max_s, max_exponent}
use Rattle.rules.specs.Decimal.{Pair}
use Rattle.rules.specs.Write.{Allowed}
use Rattle.rules.specs.Verdict.{fine, verdict, the_page, ◌below◌, ◌above◌}
use Rattle.rules.specs.Choose.{factors, exponents, all_pairs, size_with, first_smallest, first_pair, chosen, choose_rows}
use Rattle.rules.specs.Demands.{FirstOfSmallest}
use Rattle.rules.proofs.Rows.{row-passes, row_fine, neither, or_false, same-both}
use Rattle.theorems.proofs.Ordered.{each_split}

-- ---- row 31

pub vector-fine : (vs : List ℕ) → (verdict (choose_rows vs) ≡ fine) ↔ ((1 ≤ length vs) × (length vs ≤ 2 ^ max_s))
unfolding choose_rows
vector-fine vs = (
  (λ e. let both = or_false (length vs below 1) (length vs above 2 ^ max_s) (row_fine 31 the_page (length vs below 1 || length vs above 2 ^ max_s) e) in (ltb-false (length vs) 1 both.0, ltb-false (2 ^ max_s) (length vs) both.1)),
  (λ h. row-passes 31 the_page (length vs below 1 || length vs above 2 ^ max_s) (neither (length vs below 1) (length vs above 2 ^ max_s) (le-ltb (length vs) 1 h.0) (le-ltb (2 ^ max_s) (length vs) h.1))),
)

-- ---- the pairs that are tried

pub pairs_32 : length (all_pairs binary32) ≡ 66
unfolding factors exponents all_pairs
pairs_32 = refl

pub pairs_64 : length (all_pairs binary64) ≡ 190
unfolding factors exponents all_pairs
pairs_64 = refl

-- each of them is inside the limits
factors-inside : (fmt : Format) (e f n : ℕ) → e ≤ max_exponent fmt → f + n ≤ suc e → Each (Allowed fmt) (factors e f n)
unfolding factors
factors-inside fmt e f zero h k = tt
factors-inside fmt e f (suc n) h k = (record { exponent = h; factor = omega arith }, factors-inside fmt e (suc f) n h (omega arith))

exponents-inside : (fmt : Format) (e n : ℕ) → e + n ≤ suc (max_exponent fmt) → Each (Allowed fmt) (exponents e n)
unfolding exponents
exponents-inside fmt e zero h = tt
exponents-inside fmt e (suc n) h = each_append (Allowed fmt) (factors e 0 (suc e)) (exponents (suc e) n) (factors-inside fmt e 0 (suc e) (omega arith) (omega arith)) (exponents-inside fmt (suc e) n (omega arith))

pub tried-inside : (fmt : Format) → Each (Allowed fmt) (all_pairs fmt)
unfolding all_pairs
tried-inside fmt = exponents-inside fmt 0 (suc (max_exponent fmt)) (omega arith)

-- what holds of each of them holds of every pair inside the limits
module _ (P : Pair → Type 0) where
  in_factors : (e f n g : ℕ) → Each P (factors e f n) → f ≤ g → g < f + n → P (record { exponent = e; factor = g })
  unfolding factors
  in_factors e f zero g h lo hi = absurd (omega arith)
  in_factors e f (suc n) g h lo hi = elim (dec_le g f) [
    | yes k ↦ (let same : f ≡ g = omega arith in subst (λ (x : ℕ). P (record { exponent = e; factor = x })) same h.0)
    | no k ↦ in_factors e (suc f) n g h.1 (lt_of_not-le k) (omega arith)
  ]

  in_exponents : (e n x g : ℕ) → Each P (exponents e n) → e ≤ x → x < e + n → g ≤ x → P (record { exponent = x; factor = g })
  unfolding exponents
  in_exponents e zero x g h lo hi k = absurd (omega arith)
  in_exponents e (suc n) x g h lo hi k =
      let both = each_split P (factors e 0 (suc e)) (exponents (suc e) n) h in
      elim (dec_le x e) [
        | yes j ↦ (let same : e ≡ x = omega arith in subst (λ (y : ℕ). P (record { exponent = y; factor = g })) same (in_factors e 0 (suc e) g both.0 (omega arith) (omega arith)))
        | no j ↦ in_exponents (suc e) n x g both.1 (lt_of_not-le j) (omega arith) k
      ]

  pub of_every_pair : (fmt : Format) → Each P (all_pairs fmt) → (p : Pair) → Allowed fmt p → P p
  unfolding all_pairs
  of_every_pair fmt h p a = in_exponents 0 (suc (max_exponent fmt)) p.exponent p.factor h (omega arith) (let e = a.exponent in omega arith) a.factor

-- ---- the first of the smallest

module _ (size : Pair → ℕ) where
  -- it has no more bytes than any of them
  pub smallest-of : (ps : List Pair) (p : Pair) → FirstOfSmallest size ps p → Each (λ (q : Pair). size p ≤ size q) ps
  smallest-of ps p s =
      subst (Each (λ (q : Pair). size p ≤ size q)) (sym s.pairs_are)
      (each_append (λ (q : Pair). size p ≤ size q) s.before (p ∷ s.behind) (each_map (λ (q : Pair). size p < size q) (λ (q : Pair). size p ≤ size q) (λ q h. le_of_lt h) s.before s.more_before) (le_refl (size p), s.no_fewer_behind))

  -- one more pair: it takes the place of the best where it has fewer bytes
  one_more : (ps : List Pair) (b p : Pair) → FirstOfSmallest size ps b → FirstOfSmallest size (ps ++ (p ∷ [])) (cond (ltb (size p) (size b)) p b)
  one_more ps b p s = elim (dec_le (suc (size p)) (size b)) [
    | yes h ↦ (
        rw (lt-ltb (size p) (size b) h) (record {
          before = ps;
          behind = [];
          pairs_are = refl;
          more_before = each_map (λ (q : Pair). size b ≤ size q) (λ (q : Pair). size p < size q) (λ q k. lt_of_lt_of_le h k) ps (smallest-of ps b s);
          no_fewer_behind = tt;
        })
        )
    | no h ↦ (
        let k : size b ≤ size p = let l = lt_of_not-le h in omega arith in
        rw (le-ltb (size p) (size b) k) (record {
          before = s.before;
          behind = s.behind ++ (p ∷ []);
          pairs_are = ap (λ (l : List Pair). l ++ (p ∷ [])) s.pairs_are ∙ append_assoc s.before (b ∷ s.behind) (p ∷ []);
          more_before = s.more_before;
          no_fewer_behind = each_append (λ (q : Pair). size b ≤ size q) s.behind (p ∷ []) s.no_fewer_behind (k, tt);
        })
        )
  ]

  found : (done : List Pair) (b : Pair) (ps : List Pair) → FirstOfSmallest size done b → FirstOfSmallest size (done ++ ps) (first_smallest size b ps)
  unfolding first_smallest
  found done b [] s = subst (λ (l : List Pair). FirstOfSmallest size l b) (sym (append-nil done)) s
  found done b (p ∷ ps) s =
      subst (λ (l : List Pair). FirstOfSmallest size l (first_smallest size (cond (ltb (size p) (size b)) p b) ps)) (append_assoc done (p ∷ []) ps)
      (found (done ++ (p ∷ [])) (cond (ltb (size p) (size b)) p b) ps (one_more done b p s))

  -- there is one only
  one_first : (xs ys : List Pair) (p q : Pair) (ps qs : List Pair) → xs ++ (p ∷ ps) ≡ ys ++ (q ∷ qs) → Each (λ (r : Pair). size p < size r) xs → Each (λ (r : Pair). size q < size r) ys
      → Each (λ (r : Pair). size p ≤ size r) ps → Each (λ (r : Pair). size q ≤ size r) qs → p ≡ q
  one_first [] [] p q ps qs e hx hy hp hq = cc
  one_first [] (y ∷ ys) p q ps qs e hx hy hp hq =
      let here : p ≡ y = cc in
      let rest : ps ≡ ys ++ (q ∷ qs) = cc in
      let no-fewer : size p ≤ size q = (each_split (λ (r : Pair). size p ≤ size r) ys (q ∷ qs) (subst (Each (λ (r : Pair). size p ≤ size r)) rest hp)).1.0 in
      let more : size q < size p = subst (λ (r : Pair). size q < size r) (sym here) hy.0 in
      absurd (omega (arith, no-fewer, more))
  one_first (x ∷ xs) [] p q ps qs e hx hy hp hq =
      let here : q ≡ x = cc in
      let rest : qs ≡ xs ++ (p ∷ ps) = cc in
      let no-fewer : size q ≤ size p = (each_split (λ (r : Pair). size q ≤ size r) xs (p ∷ ps) (subst (Each (λ (r : Pair). size q ≤ size r)) rest hq)).1.0 in
      let more : size p < size q = subst (λ (r : Pair). size p < size r) (sym here) hx.0 in
      absurd (omega (arith, no-fewer, more))
  one_first (x ∷ xs) (y ∷ ys) p q ps qs e hx hy hp hq = let rest : xs ++ (p ∷ ps) ≡ ys ++ (q ∷ qs) = cc in one_first xs ys p q ps qs rest hx.1 hy.1 hp hq

  pub one_smallest : (ps : List Pair) (p q : Pair) → FirstOfSmallest size ps p → FirstOfSmallest size ps q → p ≡ q
  one_smallest ps p q s t = one_first s.before t.before p q s.behind t.behind (sym s.pairs_are ∙ t.pairs_are) s.more_before t.more_before s.no_fewer_behind t.no_fewer_behind

-- ---- what is chosen

module _ (fmt : Format) (vs : List ℕ) where
  abbrev S : Pair → ℕ
  S = size_with fmt vs

  found_first : FirstOfSmallest S (all_pairs fmt) (chosen fmt vs)
  unfolding chosen first_smallest factors exponents all_pairs
  found_first =
      subst (λ (p : Pair). FirstOfSmallest S (all_pairs fmt) (first_smallest S p (exponents 1 (max_exponent fmt)))) (sym (same-both (ltb (S first_pair) (S first_pair)) first_pair))
      (found S (first_pair ∷ []) first_pair (exponents 1 (max_exponent fmt)) (record { before = []; behind = []; pairs_are = refl; more_before = tt; no_fewer_behind = tt }))

  pub chosen-exactly : (p : Pair) → p ≡ chosen fmt vs ↔ FirstOfSmallest S (all_pairs fmt) p
  chosen-exactly p = ((λ e. subst (FirstOfSmallest S (all_pairs fmt)) (sym e) found_first), (λ s. one_smallest S (all_pairs fmt) p (chosen fmt vs) s found_first))

  pub chosen-smallest : (p : Pair) → Allowed fmt p → S (chosen fmt vs) ≤ S p
  chosen-smallest p a = of_every_pair (λ (q : Pair). S (chosen fmt vs) ≤ S q) fmt (smallest-of S (all_pairs fmt) (chosen fmt vs) found_first) p a

  pub chosen-inside : Allowed fmt (chosen fmt vs)
  chosen-inside = (each_split (Allowed fmt) found_first.before (chosen fmt vs ∷ found_first.behind) (subst (Each (Allowed fmt)) found_first.pairs_are (tried-inside fmt))).1.0

  -- where no pair has fewer bytes than 0, 0, that is the one
  pub first-chosen : ((p : Pair) → Allowed fmt p → S first_pair ≤ S p) → chosen fmt vs ≡ first_pair
  unfolding factors exponents all_pairs
  first-chosen h =
      one_smallest S (all_pairs fmt) (chosen fmt vs) first_pair found_first
      (record {
        before = [];
        behind = exponents 1 (max_exponent fmt);
        pairs_are = refl;
        more_before = tt;
        no_fewer_behind = each_map (Allowed fmt) (λ (q : Pair). S first_pair ≤ S q) h (exponents 1 (max_exponent fmt)) (exponents-inside fmt 1 (max_exponent fmt) (omega arith));
      })
