-- `windows::last` meets its contract: `Unpacking` says how far the loop has come, over the whole of `out`. Assumes nothing.
use native.Mathlib.Omega.{arith}
use Prim.Native.Nat.{◌+◌, ◌*◌}
use lib.ListN.{length}
use Rattle.digits.specs.Digits.{number}
use Rattle.digits.proofs.Fields.{start-room, start_fits}
use Rattle.digits.proofs.Windows.{window_lt}
use Rattle.bits.proofs.Fetched.{lent_long, within, rest_start, rest_next, rest_end}
use Rattle.bits.proofs.Room.{start-most}
use Rattle.bits.proofs.windows.last.Goals as goal

pub overflow_mul-start : goal.overflow_mul-start
overflow_mul-start g c =
    let a = c.args in
    omega (arith, start-most a.width a.from (length a.out.now) (omega arith) (omega arith) (omega arith))

pub loop-place-init : goal.loop-place-init
loop-place-init g c =
    let a = c.args in
    rest_start g.met.W.Word.laws a.width a.packed.now a.out.now a.from (omega arith) c.requires.5

pub window-requires : goal.window-requires
window-requires g c =
    let l = c.loop-place in
    let a = c.args in
    omega (arith, start-room a.width (a.from + l.place-index) l.start l.invariant.from (length a.out.now) (within a.from l.place-index a.out.now (omega arith) c.loop-place-test.true))

pub from_number-requires : goal.from_number-requires
from_number-requires g c =
    let a = c.args in
    rw c.window.ensures (window_lt (number a.packed.now) c.loop-place.start a.width (8 * g.W.Word.BYTES) c.requires.1)

pub overflow_add-start : goal.overflow_add-start
overflow_add-start g c =
    let l = c.loop-place in
    let a = c.args in
    omega (arith, start_fits a.width (a.from + l.place-index) l.start l.invariant.from (length a.out.now) (within a.from l.place-index a.out.now (omega arith) c.loop-place-test.true) (omega arith) (omega arith))

pub loop-place-preserved : goal.loop-place-preserved
loop-place-preserved g c =
    let l = c.loop-place in
    let a = c.args in
    rest_next g.met.W.Word.laws a.width a.packed.now a.out.now a.from (omega arith) l.place-index l.start l.place-items l.invariant c.from_number.result (within a.from l.place-index a.out.now (omega arith) c.loop-place-test.true) (rw c.from_number.ensures c.window.ensures)

pub returns : goal.returns
returns g c =
    let l = c.loop-place in
    let a = c.args in
    rest_end g.met.W.Word.laws a.width a.packed.now a.out.now a.from (omega arith) l.place-index l.start l.place-items l.invariant (omega (arith, c.loop-place-test.false, lent_long a.from a.out.now (omega arith)))
