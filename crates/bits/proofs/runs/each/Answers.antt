-- `runs::each` meets its contract: `Unpacking` says how far the loop has come. Assumes nothing.
use Rattle.std.proofs.Common.{◌*◌, sym, ◌∙◌, length, arith}
use native.Mathlib.Nat.{le_refl, mul-zero}
use Rattle.digits.specs.Digits.{number}
use Rattle.digits.proofs.Fields.{unpacking_start, start_fits, start-next}
use Rattle.bits.proofs.Fetched.{fetched_next, fetched_end}
use Rattle.bits.proofs.WholeWords.{kept, mask_lt}
use Rattle.bits.proofs.runs.each.Goals as goal

pub loop-place-init : goal.loop-place-init
loop-place-init g c =
    let a = c.args in
    (sym (mul-zero a.width), λ bytes fetches. unpacking_start a.width bytes (g.W.Word.as_numbers a.out.now))

pub from-requires : goal.from-requires
from-requires g c =
    let l = c.loop-place in
    rw l.invariant.0 (c.requires.3 l.place-index (omega arith))

pub from_number-requires : goal.from_number-requires
from_number-requires g c = mask_lt _ c.mask_of-mask.result c.args.width (8 * g.W.Word.BYTES) c.mask_of-mask.ensures c.requires.1

pub overflow_add-start : goal.overflow_add-start
overflow_add-start g c =
    let l = c.loop-place in
    let a = c.args in
    omega (arith, start_fits a.width l.place-index l.start l.invariant.0 (length a.out.now) (omega arith) (omega arith) (omega arith))

pub loop-place-preserved : goal.loop-place-preserved
loop-place-preserved g c =
    let l = c.loop-place in
    let a = c.args in (
      start-next a.width l.place-index l.start l.invariant.0,
      λ bytes fetches.
          fetched_next g.met.W.Word.laws a.width bytes a.out.now l.place-index l.start l.out (l.invariant.1 bytes fetches) _ (omega arith)
          (c.from_number.ensures ∙ kept c.from.result c.mask_of-mask.result (number bytes) l.start a.width c.mask_of-mask.ensures a.width (le_refl a.width)
          (rw l.invariant.0 (fetches l.place-index c.from.result (omega arith) (rw (sym l.invariant.0) c.from.ensures)))),
    )

pub returns : goal.returns
returns g c bytes fetches =
    let l = c.loop-place in
    let a = c.args in
    fetched_end g.met.W.Word.laws a.width bytes a.out.now l.place-index l.start l.out (l.invariant.1 bytes fetches) (omega arith)
