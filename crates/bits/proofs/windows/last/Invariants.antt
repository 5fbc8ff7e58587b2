-- `windows::last` meets its contract: `Unpacking` says how far the loop has come, over the whole of `out`. Assumes nothing.
use mathlib.Core.List.{◌++◌}
use Prim.Native.Nat.{◌+◌}
use lib.ListN.{take}
use Rattle.digits.proofs.Fields.{Unpacking}
use Rattle.bits.proofs.windows.last.Given as goal

abbrev pub invariant-loop-place : goal.invariant-loop-place
invariant-loop-place g l =
    let numbers = g.W.Word.as_numbers in
    Unpacking l.width l.packed (numbers l.fn.out) (l.from + l.place-index) l.start (take l.from (numbers l.fn.out) ++ numbers l.place-items)
