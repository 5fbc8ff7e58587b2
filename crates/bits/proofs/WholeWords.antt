-- The bits from a bit on, by the 8 bytes from its own byte on and by a ninth; and a field kept by a mask. Assumes nothing.
use mathlib.Core.Path.{◌≡◌, sym, ap, ◌∙◌}
use mathlib.Core.List.{List}
use Prim.Native.Nat.{ℕ, ◌+◌, ◌-◌, ◌*◌, ◌/◌, ◌%◌, ◌^◌, ◌≤◌, ◌<◌}
use native.Mathlib.Nat.{lt_of_lt_of_le, div-add-mod, mod-lt, mul_assoc, mul_comm, add_comm}
use native.Mathlib.Omega.{arith}
use lib.Bits.{bit_and, bit_or, and_mask, or_shifted_r}
use lib.ListN.{get_or, take, drop}
use lib.Pow.{pow_pos, pow_mono, pow-add, shr_lt}
use Rattle.digits.specs.Digits.{number, Below}
use Rattle.digits.proofs.Windows.{of_bytes, byte_of, mod_low, shl_mod, word_low, word-high}

-- what lies above skipped bits, with the byte t above that: a shift by 64 - skip in two steps, since skip may be 0, and no bit meets another
joined_is : (word t skip : ℕ) → word < 2 ^ 64 → skip < 8 → bit_or (word / 2 ^ skip) (2 * t * 2 ^ (63 - skip) % 2 ^ 64) ≡ word / 2 ^ skip + t * 2 ^ (64 - skip) % 2 ^ 64
joined_is word t skip hw h =
    let k : ℕ = 64 - skip in
    let e : k ≡ 1 + (63 - skip) = omega arith in
    let e₁ : k + skip ≡ 64 = omega arith in
    let e₂ : 64 ≡ skip + k = omega arith in
    let shifts : 2 * t * 2 ^ (63 - skip) ≡ t * 2 ^ k =
    ap (λ (x : ℕ). x * 2 ^ (63 - skip)) (mul_comm 2 t) ∙ mul_assoc t 2 (2 ^ (63 - skip)) ∙ ap (λ (x : ℕ). t * x) (sym (pow-add 2 1 (63 - skip)) ∙ ap (λ (x : ℕ). 2 ^ x) (sym e)) in
    let low : word / 2 ^ skip < 2 ^ k = shr_lt k skip (rw e₁ hw) in
    let high : t * 2 ^ k % 2 ^ 64 ≡ t % 2 ^ skip * 2 ^ k = ap (λ (x : ℕ). t * 2 ^ k % 2 ^ x) e₂ ∙ shl_mod t skip k in
    ap (λ (x : ℕ). bit_or (word / 2 ^ skip) (x % 2 ^ 64)) shifts ∙ ap (bit_or (word / 2 ^ skip)) high ∙ or_shifted_r (t % 2 ^ skip) k (word / 2 ^ skip) low
    ∙ add_comm (t % 2 ^ skip * 2 ^ k) (word / 2 ^ skip) ∙ ap (λ (x : ℕ). word / 2 ^ skip + x) (sym high)

module _ (bs : List ℕ) (start : ℕ) (bytes : Below 256 bs) where
  -- m bits, where the 8 bytes hold them
  pub word-window : (m : ℕ) → start % 8 + m ≤ 64 → number (take 8 (drop (start / 8) bs)) / 2 ^ (start % 8) % 2 ^ m ≡ number bs / 2 ^ start % 2 ^ m
  word-window m h =
      ap (λ (x : ℕ). x / 2 ^ (start % 8) % 2 ^ m) (of_bytes bs (start / 8) 8 bytes)
      ∙ word_low (number bs) (start / 8) (start % 8) m h
      ∙ ap (λ (x : ℕ). number bs / 2 ^ x % 2 ^ m) (div-add-mod start 8)

  -- 64 bits, with the ninth byte above them
  pub nine_window : bit_or (number (take 8 (drop (start / 8) bs)) / 2 ^ (start % 8)) (2 * get_or bs (start / 8 + 8) 0 * 2 ^ (63 - start % 8) % 2 ^ 64) ≡ number bs / 2 ^ start % 2 ^ 64
  nine_window =
      let q = start / 8 in
      let skip = start % 8 in
      let t = get_or bs (q + 8) 0 in
      let word : number (take 8 (drop q bs)) ≡ number bs / 2 ^ (8 * q) % 2 ^ 64 = of_bytes bs q 8 bytes in
      joined_is (number (take 8 (drop q bs))) t skip (rw word (mod-lt _ (pow_pos 64))) (omega arith)
      ∙ ap (λ (x : ℕ). x / 2 ^ skip + t * 2 ^ (64 - skip) % 2 ^ 64) word
      ∙ word-high (number bs) q skip t (omega arith) (byte_of bs (q + 8) bytes)
      ∙ ap (λ (x : ℕ). number bs / 2 ^ x % 2 ^ 64) (div-add-mod start 8)

-- what a mask of w ones keeps fits in w bits or more, whatever it is
pub mask_lt : (x mask w k : ℕ) → mask ≡ 2 ^ w - 1 → w ≤ k → bit_and x mask < 2 ^ k
mask_lt x mask w k m h = rw (ap (bit_and x) m ∙ and_mask x w) (lt_of_lt_of_le (mod-lt x (pow_pos w)) (pow_mono h))

module _ (x mask N start w : ℕ) (m : mask ≡ 2 ^ w - 1) where
  -- a field of w bits kept by its mask, where at least k of the bits are right
  pub kept : (k : ℕ) → w ≤ k → x % 2 ^ k ≡ N / 2 ^ start % 2 ^ k → bit_and x mask ≡ N / 2 ^ start % 2 ^ w
  kept k h e = ap (bit_and x) m ∙ and_mask x w ∙ sym (mod_low x k w h) ∙ ap (λ (y : ℕ). y % 2 ^ w) e ∙ mod_low (N / 2 ^ start) k w h

  -- and where all 64 are
  pub kept_whole : w ≤ 64 → x ≡ N / 2 ^ start % 2 ^ 64 → bit_and x mask ≡ N / 2 ^ start % 2 ^ w
  kept_whole h e = ap (bit_and x) m ∙ and_mask x w ∙ ap (λ (y : ℕ). y % 2 ^ w) e ∙ mod_low (N / 2 ^ start) 64 w h
