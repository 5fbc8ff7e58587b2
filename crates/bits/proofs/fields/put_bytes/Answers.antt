-- `fields::put_bytes` meets its contract: what is stored and what is left of v add up to the same number in each turn. Assumes nothing.
use mathlib.Core.Path.{◌≡◌, refl, sym, ap, ◌∙◌}
use Prim.Native.Nat.{ℕ, ◌+◌, ◌*◌, ◌%◌, ◌^◌, ◌≤◌, ◌<◌}
use native.Mathlib.Nat.{le_refl, le_trans, le_of_eq, lt_of_le_of_lt, one-mul, zero-mul, zero-add, mul-le-mul_right}
use native.Mathlib.Omega.{arith}
use lib.Dec.{lit<}
use lib.ListN.{length, length-set}
use Rattle.digits.specs.Digits.{number}
use Rattle.digits.proofs.Stores.{put_step, put_lt, rest_le, pow_lt_cancel}
use Rattle.bits.proofs.fields.put_bytes.Goals as goal

-- where something is left, there is a byte for it
inside : (c : goal.In-loop-rest) → c.loop-rest.i < length c.loop-rest.out
inside c =
    let l = c.loop-rest in
    let a = c.args in
    let some : 256 ^ l.i ≤ l.rest * 256 ^ l.i = le_trans (le_of_eq (sym (one-mul (256 ^ l.i)))) (mul-le-mul_right (256 ^ l.i) c.loop-rest-test.true) in
    let h : 256 ^ l.i < 256 ^ length a.out.now = lt_of_le_of_lt (le_trans some l.invariant.3) c.requires.1 in
    rw l.invariant.0 (pow_lt_cancel 256 (lit< tt) h)

pub loop-rest-init : goal.loop-rest-init
loop-rest-init c = (refl, c.requires.0, refl, le_refl _)

pub bounds-out-i : goal.bounds-out-i
bounds-out-i c = inside c

pub overflow_add-i : goal.overflow_add-i
overflow_add-i c = omega (arith, inside c)

pub loop-rest-preserved : goal.loop-rest-preserved
loop-rest-preserved c =
    let l = c.loop-rest in (
      simp length-set l.invariant.0,
      put_lt 256 (l.rest % 256) l.i l.out (omega arith) (inside c) l.invariant.1,
      put_step 256 l.rest l.i l.out (inside c) l.invariant.1 ∙ l.invariant.2,
      le_trans (rest_le 256 l.rest l.i) l.invariant.3,
    )

pub shape_of-out : goal.shape_of-out
shape_of-out c = c.loop-rest.invariant.0

pub returns : goal.returns
returns c =
    let l = c.loop-rest in
    let e : l.rest ≡ 0 = omega arith in
    sym (ap (λ (x : ℕ). x + number l.out) (ap (λ (x : ℕ). x * 256 ^ l.i) e ∙ zero-mul _) ∙ zero-add _) ∙ l.invariant.2
