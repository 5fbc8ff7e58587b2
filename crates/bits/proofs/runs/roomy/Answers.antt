-- `runs::roomy` meets its contract: by the division, the last of them starts so many bytes before the end. Assumes nothing.
use native.Mathlib.Nat.{div-le_self}
use native.Mathlib.Omega.{arith}
use Prim.Native.Nat.{◌+◌, ◌-◌, ◌*◌}
use Rattle.digits.specs.Digits.{packed_size}
use Rattle.digits.proofs.Fields.{few_bits}
use Rattle.bits.proofs.Room.{room_by}
use Rattle.bits.proofs.runs.roomy.Goals as goal

pub overflow_mul-size : goal.overflow_mul-size
overflow_mul-size c = omega (arith, few_bits c.args.count c.args.width (omega arith) (omega arith))

pub overflow_add-size : goal.overflow_add-size
overflow_add-size c = omega (arith, few_bits c.args.count c.args.width (omega arith) (omega arith))

pub overflow_mul-most : goal.overflow_mul-most
overflow_mul-most c = omega (arith, few_bits c.args.count c.args.width (omega arith) (omega arith))

pub overflow_add-most : goal.overflow_add-most
overflow_add-most c = omega (arith, few_bits c.args.count c.args.width (omega arith) (omega arith))

pub overflow_add-most-2 : goal.overflow_add-most-2
overflow_add-most-2 c =
    let a = c.args in
    omega (arith, few_bits a.count a.width (omega arith) (omega arith), div-le_self (8 * (packed_size a.count a.width - a.reach) + 7) a.width)

pub returns : goal.returns
returns c =
    let a = c.args in
    let m = c.min.ensures in
    (omega (arith, m), room_by a.reach a.width (packed_size a.count a.width) _ (omega arith) (omega arith) (omega (arith, m)))
