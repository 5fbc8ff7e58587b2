-- `word::U16Word::store` meets its contract: two digits stored one by one are put as one stretch. Assumes nothing.
use native.Mathlib.Omega.{arith}
use lib.ListN.{length-set}
use Rattle.digits.proofs.Rows.{put_two_bytes}
use Rattle.bits.proofs.word.U16Word.store.Goals as goal

pub bounds-out-at-2 : goal.bounds-out-at-2
bounds-out-at-2 c = simp length-set (omega arith)

pub returns : goal.returns
returns c = put_two_bytes c.args.self c.args.at c.args.out.now (omega arith) (omega arith)
