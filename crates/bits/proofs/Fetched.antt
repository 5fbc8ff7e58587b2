-- Words fetched to their places one after the other, of whichever kind they are: each place's number is the next field, or 0. Assumes nothing.
use mathlib.Core.Path.{◌≡◌, refl, sym, ap, ◌∙◌}
use mathlib.Core.List.{List, [], ◌++◌, append-nil}
use Prim.Native.Nat.{ℕ, ◌+◌, ◌-◌, ◌*◌, ◌/◌, ◌%◌, ◌^◌, ◌≤◌, ◌<◌}
use native.Mathlib.Nat.{add-zero, add_assoc, le_refl}
use native.Mathlib.Omega.{arith}
use borrow.Rule.Slice.PartMut.{put_mid}
use lib.ListN.{length, take, drop, drop_of_length-le, set, replicate, length-drop}
use lib.Seq.{take_all, length-take-le}
use Rattle.std.proofs.lemmas.List.{set-append_right, take-append-drop}
use Rattle.digits.specs.Digits.{number, unpack}
use Rattle.digits.proofs.Fields.{Unpacking, unpacking_next, unpacking_end}
use Rattle.bits.specs.Words.{WordLaws}
use Rattle.bits.proofs.WordLists.{length-numbers, slice-numbers, set-numbers, put_mid-numbers}
use Rattle.bits.proofs.Zeros.{Zeroing, zeroing_next, zeroing_end}

-- a part that is lent, from number `from` on, and a place in it
pub lent_long : {A : Type 0} (from : ℕ) (out : List A) → from ≤ length out → length (take (length out - from) (drop from out)) ≡ length out - from
lent_long from out h = length-take-le (length out - from) (drop from out) (rw length-drop (le_refl (length out - from)))

pub within : {A : Type 0} (from i : ℕ) (out : List A) → from ≤ length out → i < length (take (length out - from) (drop from out)) → from + i < length out
within from i out h k = omega (arith, k, lent_long from out h)

module _ {A : Type 0} {as-number : A → ℕ} {as-numbers : List A → List ℕ} (laws : WordLaws as-number as-numbers) where
  module _ (out₀ : List A) (i : ℕ) (out : List A) (z : Zeroing (as-numbers out₀) i (as-numbers out)) where
    pub zero_next : (x : A) → i < length out₀ → as-number x ≡ 0 → Zeroing (as-numbers out₀) (i + 1) (as-numbers (set out i x))
    zero_next x h e =
        rw (set-numbers laws out i x, e) (zeroing_next (as-numbers out₀) i (as-numbers out) z (rw (length-numbers laws out₀) h))

    pub zero_end : length out₀ ≤ i → as-numbers out ≡ replicate (length out₀) 0
    zero_end h =
        zeroing_end (as-numbers out₀) i (as-numbers out) z (rw (length-numbers laws out₀) h) ∙ ap (λ (n : ℕ). replicate n 0) (length-numbers laws out₀)

  module _ (w : ℕ) (bs : List ℕ) (out₀ : List A) (i start : ℕ) (out : List A) (u : Unpacking w bs (as-numbers out₀) i start (as-numbers out)) where
    pub fetched_next : (x : A) → i < length out₀ → as-number x ≡ number bs / 2 ^ start % 2 ^ w → Unpacking w bs (as-numbers out₀) (i + 1) (start + w) (as-numbers (set out i x))
    fetched_next x h e =
        rw (set-numbers laws out i x) (unpacking_next w bs (as-numbers out₀) i start (as-numbers out) u (as-number x) (rw (length-numbers laws out₀) h) e)

    pub fetched_end : length out₀ ≤ i → as-numbers out ≡ unpack w (length out₀) bs
    fetched_end h =
        unpacking_end w bs (as-numbers out₀) i start (as-numbers out) u (rw (length-numbers laws out₀) h) ∙ ap (λ (n : ℕ). unpack w n bs) (length-numbers laws out₀)

  -- the fields from number `from` on, in the part of `out₀` that is lent for them: `items` is that part as it stands
  module _ (w : ℕ) (bs : List ℕ) (out₀ : List A) (from : ℕ) (few : from ≤ length out₀) where
    abbrev Rest : ℕ → ℕ → List A → Type 0
    Rest i start items = Unpacking w bs (as-numbers out₀) (from + i) start (take from (as-numbers out₀) ++ as-numbers items)

    -- as it is lent
    lent-numbers : as-numbers (take (length out₀ - from) (drop from out₀)) ≡ drop from (as-numbers out₀)
    lent-numbers =
        slice-numbers laws (length out₀ - from) from out₀ ∙ take_all (length out₀ - from) (drop from (as-numbers out₀)) (rw (length-drop, length-numbers laws out₀) (le_refl (length out₀ - from)))

    pub rest_start : take from (as-numbers out₀) ≡ unpack w from bs → Rest 0 (w * from) (take (length out₀ - from) (drop from out₀))
    rest_start done =
        rw (lent-numbers, take-append-drop from (as-numbers out₀), add-zero from) (record { same = refl; within = rw (length-numbers laws out₀) few; from = refl; done = done })

    module _ (i start : ℕ) (items : List A) (u : Rest i start items) where
      pub rest_next : (x : A) → from + i < length out₀ → as-number x ≡ number bs / 2 ^ start % 2 ^ w → Rest (i + 1) (start + w) (set items i x)
      rest_next x h e =
          let N = as-numbers out₀ in
          let put : set (take from N ++ as-numbers items) (from + i) (as-number x) ≡ take from N ++ as-numbers (set items i x) =
          set-append_right (take from N) (as-numbers items) from (from + i) (as-number x) (length-take-le from N (rw (length-numbers laws out₀) few)) (omega arith)
          ∙ ap (λ (k : ℕ). take from N ++ set (as-numbers items) k (as-number x)) (omega arith) ∙ ap (λ (ns : List ℕ). take from N ++ ns) (sym (set-numbers laws items i x)) in
          rw (sym put, sym (add_assoc from i 1)) (unpacking_next w bs N (from + i) start (take from N ++ as-numbers items) u (as-number x) (rw (length-numbers laws out₀) h) e)

      pub rest_end : length out₀ ≤ from + i → as-numbers (put_mid from (length out₀ - from) out₀ items) ≡ unpack w (length out₀) bs
      rest_end h =
          let N = as-numbers out₀ in
          let none : drop (length out₀ - from) (drop from N) ≡ [] = drop_of_length-le (drop from N) {i = length out₀ - from} (rw (length-drop, length-numbers laws out₀) (le_refl (length out₀ - from))) in
          put_mid-numbers laws from (length out₀ - from) out₀ items ∙ ap (λ (t : List ℕ). take from N ++ (as-numbers items ++ t)) none ∙ ap (λ (t : List ℕ). take from N ++ t) (append-nil (as-numbers items))
          ∙ unpacking_end w bs N (from + i) start (take from N ++ as-numbers items) u (rw (length-numbers laws out₀) h) ∙ ap (λ (n : ℕ). unpack w n bs) (length-numbers laws out₀)
