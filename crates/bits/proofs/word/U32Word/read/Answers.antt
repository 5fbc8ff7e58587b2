-- `word::U32Word::read` meets its contract: the low half and 2 ^ 16 times the high one. Assumes nothing.
use native.Mathlib.Omega.{arith}
use Rattle.digits.proofs.Laws.{of_part}
use Rattle.bits.proofs.word.U32Word.read.Goals as goal

pub returns : goal.returns
returns c =
    let a = c.args in
    omega (arith, of_part 256 a.bytes.now a.at 2 2 (omega arith))
