-- `words::nine_from` meets its contract. Assumes nothing.
use mathlib.Core.Path.{ap, ◌∙◌}
use Prim.Native.Nat.{ℕ, ◌+◌, ◌-◌, ◌*◌, ◌/◌, ◌%◌, ◌^◌}
use native.Mathlib.Omega.{arith}
use lib.Bits.{bit_or}
use lib.ListN.{get_or}
use Rattle.bits.proofs.WholeWords.{nine_window}
use Rattle.bits.proofs.words.nine_from.Goals as goal

pub overflow_cast-ninth : goal.overflow_cast-ninth
overflow_cast-ninth c = omega (arith, c.shared_slice_known-2-1.given (c.args.start / 8 + 8))

pub overflow_mul-result : goal.overflow_mul-result
overflow_mul-result c = omega (arith, c.shared_slice_known-2-1.given (c.args.start / 8 + 8))

pub returns : goal.returns
returns c =
    let a = c.args in
    let skip = a.start % 8 in
    ap (λ (x : ℕ). bit_or (x / 2 ^ skip) (2 * get_or a.bytes.now (a.start / 8 + 8) 0 * 2 ^ (63 - skip) % 2 ^ 64)) c.read-word.ensures
    ∙ nine_window a.bytes.now a.start (λ i. (c.shared_slice_known-2-1.given i).fits)
