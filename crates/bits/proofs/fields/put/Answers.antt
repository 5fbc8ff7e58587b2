-- `fields::put` meets its contract: the low bits of v join the byte where v starts, the rest goes above. Assumes nothing.
use mathlib.Core.Path.{◌≡◌, ap, ◌∙◌}
use mathlib.Core.List.{List}
use Prim.Native.Nat.{ℕ, ◌+◌, ◌-◌, ◌*◌, ◌/◌, ◌%◌, ◌^◌, ◌≤◌, ◌<◌}
use native.Mathlib.Nat.{div-add-mod, zero-mul, zero-add, lt_of_le_of_lt}
use native.Mathlib.Omega.{arith}
use lib.Dec.{lit<}
use lib.ListN.{length, get_or, set, length-set}
use lib.Ieee.{size}
use lib.Ieee.Digits.{size-lt}
use Rattle.digits.specs.Digits.{number, Below}
use Rattle.digits.proofs.Stores.{of_raise, pow_lt_cancel}
use Rattle.digits.proofs.Windows.{byte_of, low_part, low_fits, first-lt, rest_fits, put_whole}
use Rattle.bits.proofs.fields.put.Goals as goal

module _ (out : List ℕ) (start v : ℕ) (some : 0 < v) (room : start + size v ≤ 8 * length out) (free : number out < 2 ^ start) where
  -- the byte where v starts, since v is not 0
  at_byte : start / 8 < length out
  at_byte =
      let s : 0 < size v = pow_lt_cancel 2 {i = 0} (lit< tt) (lt_of_le_of_lt some (size-lt v)) in
      omega arith

  free-there : number out < 2 ^ (8 * (start / 8) + start % 8)
  free-there = rw (div-add-mod start 8) free

  -- it has room for the low bits of v
  byte_fits : Below 256 out → get_or out (start / 8) 0 + (v * 2 ^ (start % 8)) % 2 ^ 64 % 256 < 2 ^ 8
  byte_fits h =
      rw (low_part v (start % 8) (omega arith))
      (low_fits (number out) (start / 8) (start % 8) v (get_or out (start / 8) 0) (omega arith) free-there (byte_of out (start / 8) h))

  -- with them
  abbrev first : List ℕ
  first = set out (start / 8) (get_or out (start / 8) 0 + (v * 2 ^ (start % 8)) % 2 ^ 64 % 256)

  first-is : number first ≡ v % 2 ^ (8 - start % 8) * 2 ^ (start % 8) * 256 ^ (start / 8) + number out
  first-is = rw (low_part v (start % 8) (omega arith)) (of_raise 256 out (start / 8) (v % 2 ^ (8 - start % 8) * 2 ^ (start % 8)) at_byte)

  -- the rest of v goes above them
  rest_room : (number first < 256 ^ (start / 8 + 1)) × (v / 2 ^ (8 - start % 8) * 256 ^ (start / 8 + 1) < 256 ^ length first)
  rest_room = (
    rw first-is (first-lt (number out) (start / 8) (start % 8) v (omega arith) free-there),
    rw length-set (rest_fits (start / 8) (start % 8) v (size v) (length out) (omega arith) (size-lt v) (omega arith)),
  )

  all-put : v / 2 ^ (8 - start % 8) * 256 ^ (start / 8 + 1) + number first ≡ v * 2 ^ start + number out
  all-put =
      ap (λ (x : ℕ). v / 2 ^ (8 - start % 8) * 256 ^ (start / 8 + 1) + x) first-is
      ∙ put_whole (start / 8) (start % 8) v (number out) (omega arith)
      ∙ ap (λ (x : ℕ). v * 2 ^ x + number out) (div-add-mod start 8)

pub bounds-out-first : goal.bounds-out-first
bounds-out-first c =
    at_byte c.args.out.now c.args.start c.args.v c.if-v-gt0.true c.requires.0 c.requires.1

pub overflow_add-out : goal.overflow_add-out
overflow_add-out c =
    let fits = byte_fits c.args.out.now c.args.start c.args.v c.if-v-gt0.true c.requires.0 c.requires.1 (λ i. (c.slice_known-then-v-gt0-1.given i).fits) in
    record { fits = fits }

pub bounds-out-first-then-v-gt0 : goal.bounds-out-first-then-v-gt0
bounds-out-first-then-v-gt0 c =
    at_byte c.args.out.now c.args.start c.args.v c.if-v-gt0.true c.requires.0 c.requires.1

pub put_bytes-requires : goal.put_bytes-requires
put_bytes-requires c =
    rest_room c.args.out.now c.args.start c.args.v c.if-v-gt0.true c.requires.0 c.requires.1

pub shape_of-out : goal.shape_of-out
shape_of-out c = c.put_bytes.auto.out ∙ simp length-set

pub returns-then-v-gt0 : goal.returns-then-v-gt0
returns-then-v-gt0 c =
    c.put_bytes.ensures ∙ all-put c.args.out.now c.args.start c.args.v c.if-v-gt0.true c.requires.0 c.requires.1

pub returns-else-v-gt0 : goal.returns-else-v-gt0
returns-else-v-gt0 c =
    let none : c.args.v ≡ 0 = omega arith in
    rw (none, zero-mul, zero-add)
