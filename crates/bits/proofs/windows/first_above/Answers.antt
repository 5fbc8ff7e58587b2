-- `windows::first_above` meets its contract: the loop goes on from the fields that are surely not above, and `Searching` says how far it has
-- come. Assumes nothing.
use mathlib.Core.Path.{◌≡◌, refl, ◌∙◌}
use native.Mathlib.Omega.{arith}
use Rattle.digits.proofs.Fields.{start-room, start_fits}
use Rattle.bits.proofs.Above.{none_above, some_bits, searching_found, searching_next, searching_end}
use Rattle.bits.proofs.Room.{start-most}
use Rattle.bits.proofs.windows.first_above.Goals as goal

pub returns-then-mask_of-most : goal.returns-then-mask_of-most
returns-then-mask_of-most c =
    let a = c.args in
    none_above a.width a.count a.packed.now a.most (omega (arith, c.mask_of.ensures))

pub roomy-ready-requires : goal.roomy-ready-requires
roomy-ready-requires c =
    let a = c.args in
    (some_bits a.width a.most (omega (arith, c.mask_of.ensures)), omega arith, omega arith)

pub nine_below-first-requires : goal.nine_below-first-requires
nine_below-first-requires c = (omega arith, omega arith, λ i h. omega (arith, c.roomy-ready.ensures.1 i h))

pub overflow_mul-start : goal.overflow_mul-start
overflow_mul-start c =
    let a = c.args in
    omega (arith, start-most a.width c.nine_below-first.result a.count (omega arith) (omega arith) (omega arith))

pub loop-i-init : goal.loop-i-init
loop-i-init c =
    let a = c.args in
    record { within = omega arith; from = refl; none = c.nine_below-first.ensures.1 a.count (omega arith) }

pub window-requires : goal.window-requires
window-requires c =
    let l = c.loop-i in
    let a = c.args in
    omega (arith, start-room a.width l.i l.start l.invariant.from a.count (omega arith))

pub returns-then-most-window : goal.returns-then-most-window
returns-then-most-window c =
    let l = c.loop-i in
    let a = c.args in
    searching_found a.width a.count a.packed.now a.most l.i l.start l.invariant c.window.result (omega arith) c.window.ensures (omega arith)

pub overflow_add-start : goal.overflow_add-start
overflow_add-start c =
    let l = c.loop-i in
    let a = c.args in
    omega (arith, start_fits a.width l.i l.start l.invariant.from a.count (omega arith) (omega arith) (omega arith))

pub loop-i-preserved : goal.loop-i-preserved
loop-i-preserved c =
    let l = c.loop-i in
    let a = c.args in
    searching_next a.width a.count a.packed.now a.most l.i l.start l.invariant c.window.result (omega arith) c.window.ensures (omega arith)

pub returns : goal.returns
returns c =
    let l = c.loop-i in
    let a = c.args in
    let e : a.count ≡ l.i = omega arith in
    e ∙ searching_end a.width a.count a.packed.now a.most l.i l.start l.invariant (omega arith)
