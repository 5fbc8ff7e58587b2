-- A search for the first field above a number, at a running bit: how far it has come, where it stops, and one step. Assumes nothing.
use mathlib.Core.Path.{◌≡◌, refl, sym, ap, ◌∙◌}
use mathlib.Core.Bool.{Bool, cond}
use mathlib.Core.List.{List, [], ◌∷◌}
use Prim.Native.Nat.{ℕ, zero, suc, ◌+◌, ◌-◌, ◌*◌, ◌/◌, ◌%◌, ◌^◌, ◌<◌, ◌≤◌}
use native.Mathlib.Nat.{add-zero, mul-zero, pow-zero}
use native.Mathlib.Omega.{arith}
use lib.ListN.{length, drop, drop_of_length-le}
use lib.Pow.{pow_pos}
use lib.Dec.{ltb}
use borrow.Author.Tests.{lt-ltb, le-ltb}
use Rattle.digits.specs.Digits.{number, unpack}
use Rattle.digits.specs.Lists.{Each}
use Rattle.digits.proofs.Lists.{each_map, below_each}
use Rattle.digits.proofs.Laws.{length_to, to_below}
use Rattle.digits.proofs.Fields.{start-next, field_from}
use Rattle.bits.specs.Above.{first_above, NoneAbove}

-- no field of w bits is above
all_below : (most : ℕ) (ds : List ℕ) → Each (λ (d : ℕ). d ≤ most) ds → length ds ≡ first_above most ds
all_below most [] h = refl
all_below most (d ∷ ds) h = sym (rw (le-ltb most d h.0) (ap suc (sym (all_below most ds h.1))))

pub none_above : (w n : ℕ) (bs : List ℕ) (most : ℕ) → 2 ^ w - 1 ≤ most → n ≡ first_above most (unpack w n bs)
none_above w n bs most h =
    sym (length_to (2 ^ w) n (number bs))
    ∙ all_below most (unpack w n bs) (each_map (λ (d : ℕ). d < 2 ^ w) (λ (d : ℕ). d ≤ most) (λ d l. omega arith) (unpack w n bs) (below_each (2 ^ w) (unpack w n bs) (to_below (2 ^ w) n (number bs) (pow_pos w))))

-- where some may be, a field has bits
pub some_bits : (w most : ℕ) → most < 2 ^ w - 1 → 0 < w
some_bits zero most h = absurd (omega (arith, h, pow-zero 2))
some_bits (suc w) most h = omega arith

-- none of the first i of n fields is above, and the next one starts at bit `start`
pub record Searching (w n : ℕ) (bs : List ℕ) (most i start : ℕ) : Type 0 where
  pub within : i ≤ n
  pub from : start ≡ w * i
  pub none : NoneAbove w n bs most i

pub searching_start : (w n : ℕ) (bs : List ℕ) (most : ℕ) → Searching w n bs most 0 0
searching_start w n bs most = record { within = omega arith; from = sym (mul-zero w); none = omega arith }

module _ (w n : ℕ) (bs : List ℕ) (most i start : ℕ) (s : Searching w n bs most i start) where
  module _ (d : ℕ) (more : i < n) (e : d ≡ number bs / 2 ^ start % 2 ^ w) where
    next-is : first_above most (unpack w n bs) ≡ i + cond (ltb most d) 0 (suc (first_above most (drop (i + 1) (unpack w n bs))))
    next-is =
        s.none ∙ ap (λ (l : List ℕ). i + first_above most l) (field_from w n bs i start more s.from ∙ ap (λ (x : ℕ). x ∷ drop (i + 1) (unpack w n bs)) (sym e))

    pub searching_found : most < d → i ≡ first_above most (unpack w n bs)
    searching_found h = sym (next-is ∙ rw (lt-ltb most d h) (add-zero i))

    pub searching_next : d ≤ most → Searching w n bs most (i + 1) (start + w)
    searching_next h = record {
      within = omega arith;
      from = start-next w i start s.from;
      none = next-is ∙ ap (λ (b : Bool). i + cond b 0 (suc (first_above most (drop (i + 1) (unpack w n bs))))) (le-ltb most d h) ∙ omega arith;
    }

  pub searching_end : n ≤ i → i ≡ first_above most (unpack w n bs)
  searching_end h =
      sym (s.none ∙ ap (λ (l : List ℕ). i + first_above most l) (drop_of_length-le (unpack w n bs) {i = i} (omega (arith, length_to (2 ^ w) n (number bs)))) ∙ add-zero i)
