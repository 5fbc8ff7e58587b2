-- The fields that have whole words: how many they are, the part lent for them, and that part given back. Assumes nothing.
use mathlib.Core.Path.{◌≡◌, sym, ap, ◌∙◌}
use mathlib.Core.List.{List}
use Prim.Native.Nat.{ℕ, ◌+◌, ◌-◌, ◌*◌, ◌/◌, ◌^◌, ◌≤◌, ◌<◌}
use native.Mathlib.Nat.{mul_comm, le-div_iff_mul-le}
use native.Mathlib.Omega.{arith}
use lib.ListN.{length, take, drop}
use lib.Seq.{length-take-le, take_at}
use borrow.Rule.Slice.PartMut.{put_mid, same_len_mid}
use Rattle.digits.specs.Digits.{packed_size, unpack}
use Rattle.digits.proofs.Laws.{length_to}
use Rattle.digits.proofs.Fields.{few_bits}
use Rattle.bits.specs.Room.{Room}
use Rattle.bits.specs.Words.{WordLaws}
use Rattle.bits.proofs.WordLists.{length-numbers, put_mid-numbers}

-- by the division, the last of n fields starts no later than `reach` bytes before the end
pub room_by : (reach w size n : ℕ) → 0 < w → reach ≤ size → n ≤ (8 * (size - reach) + 7) / w + 1 → Room reach w n size
room_by reach w size n pos fits most i h =
    let m : i * w ≤ 8 * (size - reach) + 7 = (le-div_iff_mul-le pos).0 (omega arith) in
    omega (arith, m, mul_comm i w)

-- where field n starts, n being no more than all, can be counted in a machine number
pub start-most : (w n all : ℕ) → n ≤ all → all < 2 ^ 32 → w ≤ 64 → w * n < 2 ^ 64
start-most w n all h few narrow = omega (arith, mul_comm w n, few_bits n w (omega arith) narrow)

module _ {A : Type 0} {as-number : A → ℕ} {as-numbers : List A → List ℕ} (laws : WordLaws as-number as-numbers) (w : ℕ) (bs : List ℕ) (out : List A) (n : ℕ) (few : length out < 2 ^ 32) (room : length out * w ≤ 8 * length bs) (within : n ≤ length out) where
  long : length (take (n - 0) out) ≡ n
  long = length-take-le (n - 0) out (omega arith) ∙ omega arith

  pub part_few : length (take (n - 0) out) < 2 ^ 32
  part_few = omega (arith, long)

  pub part_room : (reach : ℕ) → Room reach w n (packed_size (length out) w) → Room reach w (length (take (n - 0) out)) (length bs)
  part_room reach r i h = omega (arith, r i (omega (arith, long)))

  -- the first n fields stand in the part that comes back
  module _ (last : List A) (e : as-numbers last ≡ unpack w (length (take (n - 0) out)) bs) where
    last-numbers : length (as-numbers last) ≡ n
    last-numbers = ap length e ∙ length_to (2 ^ w) (length (take (n - 0) out)) _ ∙ long

    last_long : length last ≡ n
    last_long = sym (length-numbers laws last) ∙ last-numbers

    pub whole_again : length (put_mid 0 (n - 0) out last) ≡ length out
    whole_again = same_len_mid 0 (n - 0) out last (last_long ∙ sym long)

    pub behind-ready : (k : ℕ) → w ≤ 64 → w ≤ k → let o = put_mid 0 (n - 0) out last in (w ≤ 64) × (w ≤ k) × (length o < 2 ^ 32) × (length o * w ≤ 8 * length bs) × (n ≤ length o) × (take n (as-numbers o) ≡ unpack w n bs)
    behind-ready k narrow h = (
      narrow,
      h,
      rw whole_again few,
      rw whole_again room,
      rw whole_again within,
      ap (take n) (put_mid-numbers laws 0 (n - 0) out last) ∙ take_at (as-numbers last) (drop (n - 0) (as-numbers out)) n last-numbers ∙ e ∙ ap (λ (m : ℕ). unpack w m bs) long,
    )

    pub all_fetched : (exit : List A) → as-numbers exit ≡ unpack w (length (put_mid 0 (n - 0) out last)) bs → as-numbers exit ≡ unpack w (length out) bs
    all_fetched exit q = q ∙ ap (λ (m : ℕ). unpack w m bs) whole_again
