-- `words::eight_from` meets its contract: at most 7 of the word's 64 bits are skipped. Assumes nothing.
use mathlib.Core.Path.{ap, ◌∙◌}
use Prim.Native.Nat.{ℕ, ◌/◌, ◌%◌, ◌^◌}
use native.Mathlib.Omega.{arith}
use Rattle.bits.proofs.WholeWords.{word-window}
use Rattle.bits.proofs.words.eight_from.Goals as goal

pub returns : goal.returns
returns c =
    let a = c.args in
    ap (λ (x : ℕ). x / 2 ^ (a.start % 8) % 2 ^ 57) c.read.ensures ∙ word-window a.bytes.now a.start (λ i. (c.shared_slice_known-1.given i).fits) 57 (omega arith)
