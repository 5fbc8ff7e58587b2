-- `windows::unused_clear` meets its contract: a number has no bit from k on just where it is below 2 ^ k. Assumes nothing.
use mathlib.Core.Path.{◌≡◌, ap, ◌∙◌, subst}
use Prim.Native.Nat.{ℕ, ◌+◌, ◌-◌, ◌*◌, ◌^◌, ◌<◌}
use Rattle.digits.proofs.Fields.{few_bits}
use native.Mathlib.Omega.{arith}
use lib.Dec.{eqb}
use lib.ListN.{length}
use Rattle.digits.specs.Digits.{number}
use Rattle.digits.proofs.Laws.{of_lt, pow_mul}
use Rattle.digits.proofs.Windows.{high_zero}
use Rattle.bits.proofs.windows.unused_clear.Goals as goal

pub overflow_mul-used : goal.overflow_mul-used
overflow_mul-used c = omega (arith, few_bits c.args.count c.args.width (omega arith) (omega arith))

pub overflow_mul-packed : goal.overflow_mul-packed
overflow_mul-packed c = omega (arith, few_bits c.args.count c.args.width (omega arith) (omega arith))

pub returns : goal.returns
returns c =
    let a = c.args in
    let bs = a.packed.now in
    let used : ℕ = a.count * a.width in
    let unused : ℕ = 8 * length bs - used in
    let e : 8 * length bs ≡ unused + used = omega arith in
    let h : number bs < 2 ^ (unused + used) = subst (λ (x : ℕ). number bs < x) (pow_mul 2 8 (length bs) ∙ ap (λ (x : ℕ). 2 ^ x) e) (of_lt 256 bs (λ i. (c.shared_slice_known-1.given i).fits)) in
    ap (λ (x : ℕ). eqb x 0) c.window.ensures ∙ high_zero (number bs) used unused h
