-- `word::U16Word::read` meets its contract: one byte is a number, and two are the low one and 256 times the high one. Assumes nothing.
use Prim.Native.Nat.{◌+◌}
use native.Mathlib.Omega.{arith}
use Rattle.digits.proofs.Laws.{of_part, of_one}
use Rattle.bits.proofs.word.U16Word.read.Goals as goal

pub overflow_cast-result : goal.overflow_cast-result
overflow_cast-result c = omega (arith, c.shared_slice_known-1.given c.args.at)

pub overflow_cast-result-2 : goal.overflow_cast-result-2
overflow_cast-result-2 c = omega (arith, c.shared_slice_known-2-1.given (c.args.at + 1))

pub overflow_mul-result : goal.overflow_mul-result
overflow_mul-result c =
    let a = c.args in
    omega (arith, c.shared_slice_known-2-1.given a.at, c.shared_slice_known-2-1.given (a.at + 1))

pub overflow_add-result-2 : goal.overflow_add-result-2
overflow_add-result-2 c =
    let a = c.args in
    omega (arith, c.shared_slice_known-2-1.given a.at, c.shared_slice_known-2-1.given (a.at + 1))

pub returns : goal.returns
returns c =
    let a = c.args in
    let s = a.bytes.now in
    omega (arith, of_part 256 s a.at 1 1 (omega arith), of_one 256 s a.at (omega arith), of_one 256 s (a.at + 1) (omega arith))
