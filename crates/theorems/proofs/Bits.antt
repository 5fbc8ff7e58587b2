-- Document 01's sentence on bits, of a written vector and of any vector read; and row 20. Assumes nothing.
use mathlib.Core.Path.{◌≡◌, ap}
use mathlib.Core.Logic.{◌↔◌}
use mathlib.Core.Bool.{true, not}
use Prim.Native.Nat.{ℕ, ◌+◌, ◌*◌, ◌^◌, ◌<◌, ◌≤◌}
use mathlib.Core.List.{List}
use lib.ListN.{length, get_or}
use lib.Dec.{lit<}
use lib.Pow.{pow_pos}
use lib.Ieee.{Format}
use borrow.Author.Tests.{ltb-false, le-ltb, not-true}
use Rattle.digits.specs.Digits.{number, bit, bit_of, Below}
use Rattle.digits.proofs.Lists.{each_below}
use Rattle.digits.proofs.Pack.{packed-bit, read_bit, large_of_bit, bit_of_large}
use Rattle.rules.specs.Kind.{Bytes}
use Rattle.rules.specs.Decimal.{Pair}
use Rattle.rules.specs.Vector.{Raw, tries, filled, fields_of, width_of, raw_of, encoded, fields}
use Rattle.rules.specs.Examine.{unused_set}
use Rattle.rules.specs.Verdict.{◌below◌}
use Rattle.rules.proofs.Order.{width-holds}

pub encoded-bit : (fmt : Format) (p : Pair) (vs : List ℕ) (i j : ℕ) → j < (encoded fmt p vs).width
    → bit_of (encoded fmt p vs).packed (i * (encoded fmt p vs).width + j) ≡ bit (get_or (fields_of (filled (tries fmt p vs))) i 0) j
unfolding encoded raw_of
encoded-bit fmt p vs i j h =
    let fs = fields_of (filled (tries fmt p vs)) in
    packed-bit (width_of fs) fs i j h (each_below (2 ^ width_of fs) fs (pow_pos (width_of fs)) (width-holds fs))

bytes_below : (bs : List ℕ) → Bytes bs → Below 256 bs
bytes_below bs h = each_below 256 bs (lit< tt) h

pub fields-bit : (r : Raw) → Bytes r.packed → (i j : ℕ) → i < r.count → j < r.width → bit (get_or (fields r) i 0) j ≡ bit_of r.packed (i * r.width + j)
unfolding fields
fields-bit r h i j hi hj = read_bit r.width r.count r.packed i j hi hj (bytes_below r.packed h)

pub unused_exactly : (r : Raw) → Bytes r.packed
    → (unused_set r ≡ true) ↔ ((k : ℕ) × (r.count * r.width ≤ k) × (k < 8 * length r.packed) × (bit_of r.packed k ≡ 1))
unused_exactly r h =
    let m = r.count * r.width in
    let n = number r.packed in
    let b = bytes_below r.packed h in (
      (λ e. bit_of_large r.packed m b (ltb-false n (2 ^ m) (not-true (n below 2 ^ m) e))),
      (λ q. ap not (le-ltb n (2 ^ m) (large_of_bit r.packed m b q.0 q.1 q.3))),
    )
