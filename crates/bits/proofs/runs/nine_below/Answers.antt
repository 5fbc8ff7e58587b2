-- `runs::nine_below` meets its contract: `Searching` says how far the loop has come, however many fields follow. Assumes nothing.
use mathlib.Core.Path.{◌≡◌}
use native.Mathlib.Nat.{le_refl}
use native.Mathlib.Omega.{arith}
use Rattle.digits.specs.Digits.{number}
use Rattle.digits.proofs.Fields.{start_fits}
use Rattle.bits.proofs.WholeWords.{kept_whole}
use Rattle.bits.proofs.Above.{searching_start, searching_next}
use Rattle.bits.proofs.runs.nine_below.Goals as goal

pub loop-i-init : goal.loop-i-init
loop-i-init c = let a = c.args in λ n h. searching_start a.width n a.packed.now a.most

pub nine_from-requires : goal.nine_from-requires
nine_from-requires c =
    let l = c.loop-i in
    omega (arith, (l.invariant c.args.ready (le_refl c.args.ready)).from, c.requires.2 l.i (omega arith))

pub returns-then-most-nine_from : goal.returns-then-most-nine_from
returns-then-most-nine_from c = let l = c.loop-i in (omega arith, λ n h. (l.invariant n h).none)

pub overflow_add-start : goal.overflow_add-start
overflow_add-start c =
    let l = c.loop-i in
    let a = c.args in
    omega (arith, start_fits a.width l.i l.start (l.invariant a.ready (le_refl a.ready)).from a.ready (omega arith) (omega arith) (omega arith))

pub loop-i-preserved : goal.loop-i-preserved
loop-i-preserved c =
    let l = c.loop-i in
    let a = c.args in
    let field = kept_whole c.nine_from.result c.mask_of-mask.result (number a.packed.now) l.start a.width c.mask_of-mask.ensures (omega arith) c.nine_from.ensures in
    λ n h. searching_next a.width n a.packed.now a.most l.i l.start (l.invariant n h) _ (omega arith) field (omega arith)

pub returns : goal.returns
returns c =
    let l = c.loop-i in
    let e : c.args.ready ≡ l.i = omega arith in
    (omega arith, λ n h. rw e (l.invariant n h).none)
