-- `windows::unpack` meets its contract: the fields that have whole words stand in the part that was lent for them, and the loop behind goes
-- on from there. Assumes nothing.
use mathlib.Core.Path.{◌≡◌, ap, sym, ◌∙◌}
use Prim.Native.Nat.{ℕ, ◌*◌}
use native.Mathlib.Omega.{arith}
use lib.ListN.{length}
use Rattle.digits.specs.Digits.{unpack}
use Rattle.bits.proofs.Zeros.{no_bits}
use Rattle.bits.proofs.Room.{part_few, part_room, behind-ready, all_fetched}
use Rattle.bits.proofs.windows.unpack.Goals as goal

pub returns-then-width-eq0 : goal.returns-then-width-eq0
returns-then-width-eq0 g c =
    let a = c.args in
    let none : a.width ≡ 0 = omega arith in
    c.zeros.ensures ∙ sym (ap (λ (w : ℕ). unpack w (length a.out.now) a.packed.now) none ∙ no_bits (length a.out.now) a.packed.now)

pub eight_each-requires : goal.eight_each-requires
eight_each-requires g c =
    let n = c.roomy-ready in (
      omega arith,
      c.requires.1,
      part_few g.met.W.Word.laws c.args.width c.args.packed.now c.args.out.now n.result c.requires.2 c.requires.3 n.ensures.0,
      part_room g.met.W.Word.laws c.args.width c.args.packed.now c.args.out.now n.result c.requires.2 c.requires.3 n.ensures.0 8 n.ensures.1,
    )

pub last-requires : goal.last-requires
last-requires g c =
    let n = c.roomy-ready in
    let u = c.eight_each in
    behind-ready g.met.W.Word.laws c.args.width c.args.packed.now c.args.out.now n.result c.requires.2 c.requires.3 n.ensures.0 u.new.out u.ensures (8 * g.W.Word.BYTES) c.requires.0 c.requires.1

pub returns-then-width-le57 : goal.returns-then-width-le57
returns-then-width-le57 g c =
    let n = c.roomy-ready in
    let u = c.eight_each in
    let v = c.last in
    all_fetched g.met.W.Word.laws c.args.width c.args.packed.now c.args.out.now n.result c.requires.2 c.requires.3 n.ensures.0 u.new.out u.ensures v.new.out v.ensures

pub nine_each-requires : goal.nine_each-requires
nine_each-requires g c =
    let n = c.roomy-ready-2 in (
      omega arith,
      c.requires.1,
      part_few g.met.W.Word.laws c.args.width c.args.packed.now c.args.out.now n.result c.requires.2 c.requires.3 n.ensures.0,
      part_room g.met.W.Word.laws c.args.width c.args.packed.now c.args.out.now n.result c.requires.2 c.requires.3 n.ensures.0 9 n.ensures.1,
    )

pub last-requires-2 : goal.last-requires-2
last-requires-2 g c =
    let n = c.roomy-ready-2 in
    let u = c.nine_each in
    behind-ready g.met.W.Word.laws c.args.width c.args.packed.now c.args.out.now n.result c.requires.2 c.requires.3 n.ensures.0 u.new.out u.ensures (8 * g.W.Word.BYTES) c.requires.0 c.requires.1

pub returns : goal.returns
returns g c =
    let n = c.roomy-ready-2 in
    let u = c.nine_each in
    let v = c.last-2 in
    all_fetched g.met.W.Word.laws c.args.width c.args.packed.now c.args.out.now n.result c.requires.2 c.requires.3 n.ensures.0 u.new.out u.ensures v.new.out v.ensures
