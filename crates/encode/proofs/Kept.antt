-- Records that were kept: one more, and what then stands at each place. Assumes nothing.
use mathlib.Core.Path.{◌≡◌, ap, ◌∙◌}
use mathlib.Core.List.{List}
use Prim.Native.Nat.{ℕ}
use native.Mathlib.Omega.{arith}
use lib.ListN.{set, length-set}
use lib.Seq.{get_or-set_same, get_or-set_other}
use Rattle.encode.specs.Seen.{Seen}
use Rattle.encode.specs.Records.{RecordedAt}

module _ {A : Type 0} (f : A → Seen) (l : List A) (i : ℕ) (a : A) where
  pub recorded_here : (x : Seen) → f a ≡ x → RecordedAt f (set l i a) i x
  recorded_here x e h d = ap f (get_or-set_same l i a d (omega (arith, h, length-set l i a))) ∙ e

  pub recorded_there : (j : ℕ) (x : Seen) → (j ≡ i → ⊥) → RecordedAt f l j x → RecordedAt f (set l i a) j x
  recorded_there j x other r h d = ap f (get_or-set_other l i j a d other) ∙ r (omega (arith, h, length-set l i a)) d
