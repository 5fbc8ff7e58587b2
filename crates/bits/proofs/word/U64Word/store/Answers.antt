-- `word::U64Word::store` meets its contract: the halves, put one behind the other, are the number's bytes. Assumes nothing.
use native.Mathlib.Omega.{arith}
use Rattle.digits.proofs.Rows.{put_parts}
use Rattle.bits.proofs.word.U64Word.store.Goals as goal

pub returns : goal.returns
returns c =
    let a = c.args in
    cc (put_parts 4 4 a.self a.at a.out.now (omega arith))
