-- `listed::put_listed` meets its contract: `Putting` says how far the loop has come. Assumes nothing.
use mathlib.Core.Path.{◌∙◌}
use Prim.Native.Nat.{◌+◌, ◌*◌, ◌<◌}
use lib.ListN.{length}
use borrow.Author.Rules.{rules}
use Rattle.decode.proofs.Laws.{putting_start, putting_room, putting_next, putting_end}
use Rattle.decode.proofs.listed.put_listed.Goals as goal

pub loop-i-init : goal.loop-i-init
loop-i-init g c =
    let a = c.args in
    putting_start g.met.W.Word.laws g.W.Word.BYTES a.part.now a.at (a.at + 2 * a.listed) a.listed a.out.now c.requires.1

pub offset_bounds-out-position : goal.offset_bounds-out-position
offset_bounds-out-position g c =
    let a = c.args in
    let l = c.loop-i in
    let room : c.from-position.result < length c.loop-i.out =
    putting_room g.met.W.Word.laws g.W.Word.BYTES a.part.now a.at (a.at + 2 * a.listed) a.listed a.out.now l.i l.out l.invariant c.from-position.result c.loop-i-test.true (c.from-position.ensures ∙ c.read.ensures)
    in
    search rules

pub bounds-out-position : goal.bounds-out-position
bounds-out-position g c =
    let a = c.args in
    let l = c.loop-i in
    putting_room g.met.W.Word.laws g.W.Word.BYTES a.part.now a.at (a.at + 2 * a.listed) a.listed a.out.now l.i l.out l.invariant c.from-position.result c.loop-i-test.true (c.from-position.ensures ∙ c.read.ensures)

pub loop-i-preserved : goal.loop-i-preserved
loop-i-preserved g c =
    let a = c.args in
    let l = c.loop-i in
    putting_next g.met.W.Word.laws g.W.Word.BYTES a.part.now a.at (a.at + 2 * a.listed) a.listed a.out.now l.i l.out l.invariant c.from-position.result c.loop-i-test.true (c.from-position.ensures ∙ c.read.ensures) c.read-in-loop-i.result (rw c.BYTES.ensures at c.read-in-loop-i.ensures)

pub returns : goal.returns
returns g c =
    let a = c.args in
    let l = c.loop-i in
    putting_end g.met.W.Word.laws g.W.Word.BYTES a.part.now a.at (a.at + 2 * a.listed) a.listed a.out.now l.i l.out l.invariant c.loop-i-test.false
