-- The width of a number by its leading zeros, over the word's bits. Assumes nothing.
use mathlib.Core.Path.{◌≡◌}
use Prim.Native.Nat.{ℕ, zero, suc, ◌+◌, ◌-◌, ◌*◌, ◌^◌, ◌≤◌, ◌<◌}
use native.Mathlib.Nat.{pow-suc}
use native.Mathlib.Omega.{arith}
use lib.Count.{count_leading_zeros, leading_unique}
use lib.Ieee.{size}
use lib.Ieee.Digits.{size-lt, size-le, size_reaches}

-- `leading_unique` asks for the highest bit of a: a reaches half of 2 ^ n, where n bits are needed
reaches_half : (a n : ℕ) → ((j : ℕ) → j < n → 2 ^ j ≤ a) → 2 ^ n ≤ 2 * a + 1
reaches_half a zero h = omega arith
reaches_half a (suc j) h = omega (arith, h j (omega arith), pow-suc 2 j)

pub width_is : (k a : ℕ) → a < 2 ^ k → (k - count_leading_zeros k a ≡ size a) × (k - count_leading_zeros k a ≤ k)
width_is k a h =
    let s : size a ≤ k = size-le a k h in
    let e : k - size a ≡ count_leading_zeros k a = leading_unique k a (k - size a) (size a) (omega arith) (size-lt a) (reaches_half a (size a) (size_reaches a)) in
    (omega arith, omega arith)
