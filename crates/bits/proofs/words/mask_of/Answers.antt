-- `words::mask_of` meets its contract. Assumes nothing.
use mathlib.Core.Path.{◌≡◌, sym, ap}
use Prim.Native.Nat.{ℕ, ◌-◌, ◌^◌}
use native.Mathlib.Omega.{arith}
use lib.Pow.{pow_pos}
use Rattle.digits.proofs.Windows.{one_shl}
use Rattle.bits.proofs.words.mask_of.Goals as goal

pub overflow_sub-result : goal.overflow_sub-result
overflow_sub-result c = rw (one_shl c.args.width c.if-width-lt64.true) (pow_pos c.args.width)

pub returns-then-width-lt64 : goal.returns-then-width-lt64
returns-then-width-lt64 c = ap (λ (x : ℕ). x - 1) (one_shl c.args.width c.if-width-lt64.true)

pub returns-else-width-lt64 : goal.returns-else-width-lt64
returns-else-width-lt64 c =
    let e : c.args.width ≡ 64 = omega arith in
    sym (ap (λ (w : ℕ). 2 ^ w - 1) e)
