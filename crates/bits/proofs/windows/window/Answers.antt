-- `windows::window` meets its contract: by the word that holds it, or by nine bytes. Assumes nothing.
use mathlib.Core.Path.{ap, ◌∙◌}
use Prim.Native.Nat.{ℕ, ◌/◌, ◌%◌, ◌^◌}
use native.Mathlib.Omega.{arith}
use Rattle.digits.specs.Digits.{number}
use Rattle.bits.proofs.WholeWords.{word-window, kept, kept_whole}
use Rattle.bits.proofs.windows.window.Goals as goal

pub returns-then-skip-width-le64 : goal.returns-then-skip-width-le64
returns-then-skip-width-le64 c =
    let a = c.args in
    let skip = a.start % 8 in
    kept (c.word_at.result / 2 ^ skip) c.mask_of-mask.result (number a.bytes.now) a.start a.width c.mask_of-mask.ensures a.width (omega arith)
    (ap (λ (x : ℕ). x / 2 ^ skip % 2 ^ a.width) c.word_at.ensures ∙ word-window a.bytes.now a.start (λ i. (c.shared_slice_known-1.given i).fits) a.width (omega arith))

pub returns : goal.returns
returns c =
    let a = c.args in
    kept_whole c.nine_from.result c.mask_of-mask.result (number a.bytes.now) a.start a.width c.mask_of-mask.ensures (omega arith) c.nine_from.ensures
