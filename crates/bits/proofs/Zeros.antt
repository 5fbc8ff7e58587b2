-- Places that become 0 one after the other; and fields of width 0, which are all 0. Assumes nothing.
use mathlib.Core.Path.{◌≡◌, refl, ap, ap₂, ◌∙◌}
use mathlib.Core.List.{List, ◌∷◌, ◌++◌, append-nil}
use Prim.Native.Nat.{ℕ, zero, suc, ◌+◌, ◌/◌, ◌≤◌, ◌<◌}
use native.Mathlib.Nat.{mod-one, pow-zero}
use native.Mathlib.Omega.{arith}
use lib.ListN.{length, drop, set, length-set, replicate}
use lib.Seq.{drop-length}
use borrow.Author.Fill.{fill_more}
use Rattle.digits.specs.Digits.{to_digits, number, unpack}

-- the first i places are 0, and the rest is as it came
pub record Zeroing (out₀ : List ℕ) (i : ℕ) (out : List ℕ) : Type 0 where
  pub holds : out ≡ replicate i 0 ++ drop i out₀
  pub within : i ≤ length out₀
  pub same : length out ≡ length out₀

pub zeroing_start : (out : List ℕ) → Zeroing out 0 out
zeroing_start out = record { holds = refl; within = omega arith; same = refl }

module _ (out₀ : List ℕ) (i : ℕ) (out : List ℕ) (z : Zeroing out₀ i out) where
  pub zeroing_next : i < length out₀ → Zeroing out₀ (i + 1) (set out i 0)
  zeroing_next h = record {
    holds = ap (λ (o : List ℕ). set o i 0) z.holds ∙ fill_more i 0 out₀ h;
    within = omega arith;
    same = simp length-set z.same;
  }

  pub zeroing_end : length out₀ ≤ i → out ≡ replicate (length out₀) 0
  zeroing_end h =
      let e : i ≡ length out₀ = omega (arith, z.within) in
      z.holds ∙ ap (λ (k : ℕ). replicate k 0 ++ drop k out₀) e ∙ ap (λ (t : List ℕ). replicate (length out₀) 0 ++ t) (drop-length out₀) ∙ append-nil (replicate (length out₀) 0)

ones : (n N : ℕ) → to_digits 1 n N ≡ replicate n 0
unfolding to_digits
ones zero N = refl
ones (suc n) N = ap₂ ◌∷◌ (mod-one N) (ones n (N / 1))

pub no_bits : (n : ℕ) (bs : List ℕ) → unpack 0 n bs ≡ replicate n 0
no_bits n bs = ap (λ (b : ℕ). to_digits b n (number bs)) (pow-zero 2) ∙ ones n (number bs)
