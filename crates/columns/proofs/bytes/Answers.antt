-- `bytes` meets its contract: `Storing` says how far the loop has come. Assumes nothing.
use native.Mathlib.Omega.{arith}
use Rattle.columns.proofs.Column.{stored_start, stored_room, stored_next, stored_end}
use Rattle.columns.proofs.bytes.Goals as goal

pub loop-word-init : goal.loop-word-init
loop-word-init g c = stored_start g.met.W.Word.laws g.W.Word.BYTES c.args.words.now c.args.out.now c.requires

pub store-requires : goal.store-requires
store-requires g c =
    let l = c.loop-word in
    let a = c.args in
    omega (arith, stored_room g.met.W.Word.laws g.W.Word.BYTES a.words.now a.out.now l.word-index l.at l.out l.invariant c.word-item.result c.loop-word-test.true c.word-item.is)

pub overflow_add-at : goal.overflow_add-at
overflow_add-at g c =
    let l = c.loop-word in
    let a = c.args in
    omega (arith, c.BYTES-at.ensures, stored_room g.met.W.Word.laws g.W.Word.BYTES a.words.now a.out.now l.word-index l.at l.out l.invariant c.word-item.result c.loop-word-test.true c.word-item.is)

pub loop-word-preserved : goal.loop-word-preserved
loop-word-preserved g c =
    let l = c.loop-word in
    let a = c.args in
    rw c.BYTES-at.ensures
    (stored_next g.met.W.Word.laws g.W.Word.BYTES a.words.now a.out.now l.word-index l.at l.out l.invariant c.word-item.result c.loop-word-test.true c.word-item.is c.store.new.out c.store.ensures)

pub returns : goal.returns
returns g c =
    let l = c.loop-word in
    let a = c.args in
    stored_end g.met.W.Word.laws g.W.Word.BYTES a.words.now a.out.now l.word-index l.at l.out l.invariant c.loop-word-test.false
