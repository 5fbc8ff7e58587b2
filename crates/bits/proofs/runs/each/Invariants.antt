-- `runs::each` meets its contract: `Unpacking` says how far the loop has come. Assumes nothing.
use Rattle.std.proofs.Common.{◌≡◌, ◌*◌, List, ℕ, length}
use Rattle.digits.proofs.Fields.{Unpacking}
use Rattle.bits.specs.Fetched.{Fetches}
use Rattle.bits.proofs.runs.each.Given as goal

abbrev pub invariant-loop-place : goal.invariant-loop-place
invariant-loop-place g l =
    let numbers = g.W.Word.as_numbers in
    (l.start ≡ l.width * l.place-index)
    × ((bytes : List ℕ) → Fetches l.width (length l.initial.out) bytes (goal.F-post g l.from) → Unpacking l.width bytes (numbers l.initial.out) l.place-index l.start (numbers l.out))
