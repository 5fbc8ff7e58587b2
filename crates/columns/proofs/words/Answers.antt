-- `words` meets its contract: `Loading` says how far the loop has come. Assumes nothing.
use native.Mathlib.Omega.{arith}
use Rattle.columns.proofs.Column.{loading_start, loaded_room, loaded_next, loaded_end}
use Rattle.columns.proofs.words.Goals as goal

pub loop-place-init : goal.loop-place-init
loop-place-init g c = loading_start g.W.Word.BYTES c.args.bytes.now (g.W.Word.as_numbers c.args.out.now)

pub read-requires : goal.read-requires
read-requires g c =
    let l = c.loop-place in
    let a = c.args in
    omega (arith, loaded_room g.met.W.Word.laws g.W.Word.BYTES a.bytes.now a.out.now l.place-index l.at l.out l.invariant c.loop-place-test.true c.requires)

pub overflow_add-at : goal.overflow_add-at
overflow_add-at g c =
    let l = c.loop-place in
    let a = c.args in
    omega (arith, c.BYTES-at.ensures, loaded_room g.met.W.Word.laws g.W.Word.BYTES a.bytes.now a.out.now l.place-index l.at l.out l.invariant c.loop-place-test.true c.requires)

pub loop-place-preserved : goal.loop-place-preserved
loop-place-preserved g c =
    let l = c.loop-place in
    let a = c.args in
    rw c.BYTES-at.ensures (loaded_next g.met.W.Word.laws g.W.Word.BYTES a.bytes.now a.out.now l.place-index l.at l.out l.invariant c.read.result c.loop-place-test.true c.read.ensures)

pub returns : goal.returns
returns g c =
    let l = c.loop-place in
    let a = c.args in
    loaded_end g.met.W.Word.laws g.W.Word.BYTES a.bytes.now a.out.now l.place-index l.at l.out l.invariant c.loop-place-test.false
