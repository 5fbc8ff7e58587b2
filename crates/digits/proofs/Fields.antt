-- Fields read or written one after the other, at a running bit: how far a loop has come, and what it has made by then. Assumes nothing.
use mathlib.Core.Path.{◌≡◌, refl, sym, ap, ap₂, ◌∙◌}
use mathlib.Core.List.{List, [], ◌∷◌, ◌++◌}
use Prim.Native.Nat.{ℕ, zero, suc, ◌+◌, ◌*◌, ◌/◌, ◌%◌, ◌^◌, ◌≤◌, ◌<◌}
use native.Mathlib.Nat.{mul-zero, mul-suc, mul-le-mul}
use native.Mathlib.Numerals.{add-one}
use native.Mathlib.Omega.{arith}
use lib.ListN.{length, get_or, take, drop, set, length-set, replicate, length-replicate}
use lib.Seq.{take-suc-set, take_all, drop-cons}
use lib.Dec.{lit<}
use lib.Ieee.{size}
use lib.Ieee.Digits.{size-le}
use Rattle.digits.specs.Digits.{of_digits, to_digits, number, packed_size, pack, unpack, Below}
use Rattle.digits.proofs.Laws.{to-of, to-snoc, length_to, get_or-to, pow_mul}
use Rattle.digits.proofs.Stores.{of_zeros, of_take_next, of_take_lt}
use Rattle.digits.proofs.Windows.{next_le}

-- ---- the running bit: field i of n starts at bit w * i

-- the bits of fewer than 2 ^ 32 fields can be counted in a machine number
pub few_bits : (n w : ℕ) → n < 2 ^ 32 → w ≤ 64 → n * w ≤ 2 ^ 38
few_bits n w hn hw = mul-le-mul {n₁ = n} {m₁ = w} {n₂ = 2 ^ 32} {m₂ = 64} (omega arith) hw

module _ (w i start : ℕ) (e : start ≡ w * i) where
  pub start-next : start + w ≡ w * (i + 1)
  start-next = rw (add-one, mul-suc) (ap (λ (x : ℕ). x + w) e)

  module _ (n : ℕ) (h : i < n) where
    pub start-room : start + w ≤ n * w
    start-room = rw e (next_le w i n h)

    pub start_fits : n < 2 ^ 32 → w ≤ 64 → start + w < 2 ^ 64
    start_fits hn hw = omega (arith, start-room, few_bits n w hn hw)

-- the field that a window of w bits from there takes
pub field_at : (w n : ℕ) (bs : List ℕ) (i start : ℕ) → i < n → start ≡ w * i → get_or (unpack w n bs) i 0 ≡ number bs / 2 ^ start % 2 ^ w
field_at w n bs i start h e = get_or-to (2 ^ w) n (number bs) i h ∙ ap (λ (x : ℕ). number bs / x % 2 ^ w) (pow_mul 2 w i ∙ ap (λ (x : ℕ). 2 ^ x) (sym e))

-- it is the first of the fields from i on
pub field_from : (w n : ℕ) (bs : List ℕ) (i start : ℕ) → i < n → start ≡ w * i → drop i (unpack w n bs) ≡ number bs / 2 ^ start % 2 ^ w ∷ drop (i + 1) (unpack w n bs)
field_from w n bs i start more e =
    rw add-one (drop-cons (unpack w n bs) i 0 (omega (arith, length_to (2 ^ w) n (number bs))))
    ∙ ap (λ (d : ℕ). d ∷ drop (i + 1) (unpack w n bs)) (field_at w n bs i start more e)

-- ---- read: the first i places of `out` hold the first i fields of bs, and the next one starts at bit `start`

pub record Unpacking (w : ℕ) (bs out₀ : List ℕ) (i start : ℕ) (out : List ℕ) : Type 0 where
  pub same : length out ≡ length out₀
  pub within : i ≤ length out₀
  pub from : start ≡ w * i
  pub done : take i out ≡ unpack w i bs

pub unpacking_start : (w : ℕ) (bs out : List ℕ) → Unpacking w bs out 0 0 out
unfolding to_digits
unpacking_start w bs out = record { same = refl; within = omega arith; from = sym (mul-zero w); done = refl }

module _ (w : ℕ) (bs out₀ : List ℕ) (i start : ℕ) (out : List ℕ) (u : Unpacking w bs out₀ i start out) where
  pub unpacking_next : (v : ℕ) → i < length out₀ → v ≡ number bs / 2 ^ start % 2 ^ w → Unpacking w bs out₀ (i + 1) (start + w) (set out i v)
  unpacking_next v h e =
      let b = 2 ^ w in
      let l : i < length out = omega (arith, u.same) in
      let field : v ≡ number bs / b ^ i % b = e ∙ ap (λ (x : ℕ). number bs / x % b) (ap (λ (x : ℕ). 2 ^ x) u.from ∙ sym (pow_mul 2 w i)) in
      record {
        same = simp length-set u.same;
        within = omega arith;
        from = start-next w i start u.from;
        done = ap (λ (k : ℕ). take k (set out i v)) (add-one i) ∙ take-suc-set out i v l ∙ ap₂ (λ (x : List ℕ) (d : ℕ). x ++ (d ∷ [])) u.done field
            ∙ sym (to-snoc b i (number bs)) ∙ ap (λ (k : ℕ). to_digits b k (number bs)) (sym (add-one i));
      }

  pub unpacking_end : length out₀ ≤ i → out ≡ unpack w (length out₀) bs
  unpacking_end h =
      let e : i ≡ length out₀ = omega (arith, u.within) in
      sym (take_all i out (omega (arith, u.same))) ∙ u.done ∙ ap (λ (k : ℕ). unpack w k bs) e

-- ---- written: `out` has the packed part's length and holds the first i fields of fs, and the next one goes to bit `start`

pub record Packing (w : ℕ) (fs : List ℕ) (i start : ℕ) (out : List ℕ) : Type 0 where
  pub bytes : Below 256 out
  pub long : length out ≡ packed_size (length fs) w
  pub from : start ≡ w * i
  pub holds : number out ≡ of_digits (2 ^ w) (take i fs)

zeros-below : (n : ℕ) → Below 256 (replicate n 0)
zeros-below zero i = lit< tt
zeros-below (suc n) zero = lit< tt
zeros-below (suc n) (suc i) = zeros-below n i

-- a cleared part
pub packing_start : (w : ℕ) (fs out : List ℕ) (n : ℕ) → n ≡ packed_size (length fs) w → out ≡ replicate n 0 → Packing w fs 0 0 out
unfolding of_digits
packing_start w fs out n e z = record {
  bytes = rw z (zeros-below n);
  long = ap length z ∙ length-replicate n 0 ∙ e;
  from = sym (mul-zero w);
  holds = ap number z ∙ of_zeros 256 n;
}

module _ (w : ℕ) (fs : List ℕ) (i start : ℕ) (out : List ℕ) (p : Packing w fs i start out) where
  -- all is 0 from the next field's first bit on
  pub packing_free : Below (2 ^ w) fs → number out < 2 ^ start
  packing_free below = rw p.holds (of_take_lt w fs i start below p.from)

  module _ (v : ℕ) (h : i < length fs) (e : v ≡ get_or fs i 0) where
    pub packing_room : v < 2 ^ w → start + size v ≤ 8 * length out
    packing_room l = omega (arith, size-le v w l, p.long, start-room w i start p.from (length fs) h)

    -- the next field has been put: `number out' ≡ v * 2 ^ start + number out`
    pub packing_next : (out' : List ℕ) → Below 256 out' → length out' ≡ length out → number out' ≡ v * 2 ^ start + number out → Packing w fs (i + 1) (start + w) out'
    packing_next out' b l q = record {
      bytes = b;
      long = l ∙ p.long;
      from = start-next w i start p.from;
      holds = q ∙ ap₂ (λ (x y : ℕ). x * 2 ^ start + y) e p.holds ∙ ap (λ (x : ℕ). get_or fs i 0 * x + of_digits (2 ^ w) (take i fs)) (ap (λ (x : ℕ). 2 ^ x) p.from ∙ sym (pow_mul 2 w i))
          ∙ sym (of_take_next (2 ^ w) fs i h);
    }

  -- all are put
  pub packing_end : length fs ≤ i → out ≡ pack w fs
  packing_end l =
      sym (to-of 256 out p.bytes) ∙ ap₂ (λ (k n : ℕ). to_digits 256 k n) p.long (p.holds ∙ ap (of_digits (2 ^ w)) (take_all i fs l))
