-- Sizes: products and powers that fit a machine number, and how many vectors there are at most. Assumes nothing.
use mathlib.Core.Path.{◌≡◌, sym, subst}
use Prim.Native.Nat.{ℕ, suc, ◌+◌, ◌-◌, ◌*◌, ◌/◌, ◌%◌, ◌^◌, ◌≤◌, ◌<◌}
use native.Mathlib.Nat.{mul-le-mul, le-mul_of_pos_right, suc-mul, div-lt_iff_lt-mul}
use native.Mathlib.Omega.{arith}
use lib.Pow.{pow_pos, pow_mono}
use Rattle.digits.proofs.Windows.{one_shl}
use Rattle.digits.specs.Digits.{packed_size}
use Rattle.rules.specs.Kind.{max_s, meta_bytes, word_bytes}
use Rattle.rules.specs.Page.{vector_size}
use Rattle.rules.specs.Page as page
use Rattle.rules.proofs.Reading.{MetaPassed}
use Rattle.checks.specs.Forms.{FoundMeta, as_meta}
use Rattle.checks.specs.declared.vector.Meta.{Meta}
use mathlib.Core.List.{List}
use lib.ListN.{length, take, drop, length-take, length-drop}
use lib.Ieee.{Format}

-- products stay small
pub small : (a b : ℕ) {c d : ℕ} → a ≤ c → b ≤ d → a * b ≤ c * d
small a b {c} {d} h k = mul-le-mul {n₁ = a} {m₁ = b} {n₂ = c} {m₂ = d} h k

-- the bits of a vector's fields, and the bytes of its exceptions
pub few-bits : (n w : ℕ) → n ≤ 2 ^ max_s → w < 256 → n * w ≤ 2 ^ max_s * 255
few-bits n w h k = small n w {c = 2 ^ max_s} {d = 255} h (omega arith)

pub few-listed : (listed word : ℕ) → listed < 256 ^ 2 → word ≤ 8 → listed * (2 + word) ≤ 65535 * 10
few-listed listed word h k = small listed (2 + word) {c = 65535} {d = 10} (omega arith) (omega arith)

pub two_to : (s : ℕ) → s ≤ max_s → (1 * 2 ^ s % 2 ^ 64 ≡ 2 ^ s) × (0 < 1 * 2 ^ s % 2 ^ 64) × (1 * 2 ^ s % 2 ^ 64 ≤ 2 ^ max_s)
two_to s h =
    let e : 1 * 2 ^ s % 2 ^ 64 ≡ 2 ^ s = one_shl s (omega arith) in
    (e, subst (λ (x : ℕ). 0 < x) (sym e) (pow_pos s), subst (λ (x : ℕ). x ≤ 2 ^ max_s) (sym e) (pow_mono {i = s} {j = max_s} h))

-- no more vectors than values
pub few-vectors : (n size : ℕ) → 0 < size → (n + (size - 1)) / size ≤ n
few-vectors n size h =
    let m : n ≤ n * size = le-mul_of_pos_right n h in
    let l : n + (size - 1) < suc n * size = rw suc-mul (omega arith) in
    let d : (n + (size - 1)) / size < suc n = (div-lt_iff_lt-mul h).1 l in
    omega arith

-- the positions of a vector end inside it
pub positions-fit : (fmt : Format) (n : ℕ) (m : page.Meta) → meta_bytes fmt + packed_size n m.width + 2 * m.listed ≤ vector_size fmt n m
positions-fit fmt n m = omega (arith, small m.listed 2 {c = m.listed} {d = 2 + word_bytes fmt} (omega arith) (omega arith))

-- ---- the packed part of a vector, `size` bytes from `start` on

pub cut-is : (start size n w : ℕ) → size ≡ packed_size n w → start + size - start ≡ packed_size n w
cut-is start size n w e = omega arith

-- what the metadata's rows show, of the metadata as the code holds it
pub held-meta : (fmt : Format) (n : ℕ) (bs : List ℕ) (m : Meta) → FoundMeta fmt bs m → MetaPassed fmt n (page.meta_at fmt bs) bs → MetaPassed fmt n (as_meta m) bs
held-meta fmt n bs m f p = subst (λ (x : page.Meta). MetaPassed fmt n x bs) (sym f.meta_is) p

-- in a vector that is all there it ends inside the vector, and holds the fields
module _ (fmt : Format) (n : ℕ) (m : page.Meta) (bs : List ℕ) (whole : vector_size fmt n m ≤ length bs) (start size : ℕ) (es : start ≡ meta_bytes fmt) (ez : size ≡ packed_size n m.width) where
  pub packed-inside : start + size ≤ length bs
  packed-inside = omega (arith, whole, es, ez)

  pub packed-holds : n * m.width ≤ 8 * length (take (start + size - start) (drop start bs))
  packed-holds = rw (cut-is start size n m.width ez, length-take, length-drop) (omega (arith, es, whole))
