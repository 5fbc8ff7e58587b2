-- Laws of every call: its answer, when it refuses and when it is done, and what it leaves of a lent output. Assumes nothing.
use mathlib.Core.Path.{◌≡◌, refl, sym, ap, ◌∙◌, subst}
use mathlib.Core.Bool.{not}
use mathlib.Core.List.{List}
use Prim.Native.Nat.{ℕ, ◌≤◌}
use native.Mathlib.Omega.{arith}
use lib.ListN.{length, take, drop}
use lib.Seq.{take-append_seam, drop-append_seam}
use lib.Dec.{T, T_not}
use Rattle.rules.specs.declared.Answer.{Answer}
use Rattle.digits.specs.Lists.{Each, over}
use Rattle.digits.proofs.Lists.{length_over}
use Rattle.rules.specs.Verdict.{Point, Rows, Verdict, ordered, Passes, FirstTrue, fine, refuse, verdict, Result, done, refused, settle, call, answer}
use mathlib.Core.Logic.{◌⊎◌, inl, inr}
use Rattle.rules.specs.Calls.{among}
use Rattle.rules.specs.Demands.{Answers, Leaves}
use Rattle.theorems.proofs.Ordered.{fine-passes, passes_fine, refuse-first, first-refuses, Numbered, number-given}

pub settle-refused : (v : Verdict) (xs : List ℕ) (a : ℕ) (p : Point) → settle v xs ≡ refused a p → v ≡ refuse a p
settle-refused fine xs a p e = let o : ◌≡◌ {A = ℕ} 0 1 = cc in absurd (omega arith)
settle-refused (refuse b q) xs a p e = cc

settle-fine : (v : Verdict) (xs ys : List ℕ) → settle v xs ≡ done ys → v ≡ fine
settle-fine fine xs ys e = refl
settle-fine (refuse b q) xs ys e = let o : ◌≡◌ {A = ℕ} 0 1 = cc in absurd (omega arith)

pub answers : (rows : Rows) (numbers xs : List ℕ) → Numbered numbers rows → Answers (call rows xs) rows numbers xs
answers rows numbers xs n = record {
  of_the_table = λ a p e. number-given numbers rows a p n (settle-refused (verdict rows) xs a p e);
  refuses = λ a p. ((λ e. refuse-first rows a p (settle-refused (verdict rows) xs a p e)), (λ f. ap (λ (v : Verdict). settle v xs) (first-refuses rows a p f)));
  is_done = ((λ e. fine-passes rows (settle-fine (verdict rows) xs xs e)), (λ h. ap (λ (v : Verdict). settle v xs) (passes_fine rows h)));
}

pub leaves : (r : Result) (out : List ℕ) → ((xs : List ℕ) → r ≡ done xs → length xs ≤ length out) → Leaves r out
leaves (done ys) out room = record {
  refusal = λ a p e. let o : ◌≡◌ {A = ℕ} 0 1 = cc in absurd (omega arith);
  in_front = λ xs e. let q : ys ≡ xs = cc in subst (λ (zs : List ℕ). take (length zs) (over ys out) ≡ zs) q (take-append_seam ys (drop (length ys) out));
  the_rest = λ xs e. let q : ys ≡ xs = cc in subst (λ (zs : List ℕ). drop (length zs) (over ys out) ≡ drop (length zs) out) q (drop-append_seam ys (drop (length ys) out));
  same_length = length_over ys out (room ys refl);
}
leaves (refused b q) out room = record {
  refusal = λ a p e. refl;
  in_front = λ xs e. let o : ◌≡◌ {A = ℕ} 0 1 = cc in absurd (omega arith);
  the_rest = λ xs e. let o : ◌≡◌ {A = ℕ} 0 1 = cc in absurd (omega arith);
  same_length = refl;
}

-- a call whose answer has the number 0 is done
pub done_when_zero : (r : Result) (numbers : List ℕ) → T (not (among 0 numbers)) → ((a : ℕ) (p : Point) → r ≡ refused a p → T (among a numbers))
    → (a : Answer) → a ≡ answer r → a.number ≡ 0 → (xs : List ℕ) × (r ≡ done xs)
done_when_zero (done xs) numbers never table a is zero = (xs, refl)
done_when_zero (refused b p) numbers never table a is zero =
    let b-is : b ≡ 0 = sym (ap (λ (x : Answer). x.number) is) ∙ zero in
    absurd (T_not (among 0 numbers) never (subst (λ (x : ℕ). T (among x numbers)) b-is (table b p refl)))

-- and its place is the count of what it gives
pub place_when_done : (r : Result) (numbers : List ℕ) → T (not (among 0 numbers)) → ((a : ℕ) (p : Point) → r ≡ refused a p → T (among a numbers))
    → (a : Answer) → a ≡ answer r → a.number ≡ 0 → {n : ℕ} → ((xs : List ℕ) → r ≡ done xs → length xs ≡ n) → a.place ≡ n
place_when_done r numbers never table a is zero count =
    let d = done_when_zero r numbers never table a is zero in
    ap (λ (x : Answer). x.place) (is ∙ ap answer d.1) ∙ count d.0 d.1

-- ---- a call that is lent nothing to write to: what it gives goes by the verdict alone

pub verdict-gives : {A : Type 0} (rows : Rows) (numbers : List ℕ) (f : Verdict → A) → Numbered numbers rows
    → ((a : ℕ) × (p : Point) × FirstTrue (ordered rows) a p × T (among a numbers) × (f (verdict rows) ≡ f (refuse a p))) ⊎ (Each Passes (ordered rows) × (f (verdict rows) ≡ f fine))
verdict-gives {A} rows numbers f n = go (verdict rows) refl
  where
    go : (v : Verdict) → verdict rows ≡ v
        → ((a : ℕ) × (p : Point) × FirstTrue (ordered rows) a p × T (among a numbers) × (f (verdict rows) ≡ f (refuse a p))) ⊎ (Each Passes (ordered rows) × (f (verdict rows) ≡ f fine))
    go fine e = inr (fine-passes rows e, ap f e)
    go (refuse a p) e = inl (a, p, refuse-first rows a p e, number-given numbers rows a p n e, ap f e)
