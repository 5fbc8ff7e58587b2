-- `scan::Seen::with_more` meets its contract: the rest, seen on top of the record so far, comes to the whole. Assumes nothing.
use mathlib.Core.Path.{◌≡◌}
use Prim.Native.Nat.{◌+◌, ◌^◌, ◌≤◌}
use lib.ListN.{length, drop}
use Rattle.rules.specs.Kind.{max_s}
use Rattle.rules.specs.Coded.{format_of, as_pair}
use Rattle.rules.specs.Vector.{tries}
use Rattle.encode.specs.Seen.{as_seen, see_all}
use Rattle.encode.proofs.scan.Seen.with_more.Given as goal

abbrev pub invariant-loop-value : goal.invariant-loop-value
invariant-loop-value g l = (l.seen.listed ≤ l.seen.count) × (l.seen.count + length l.values ≤ 2 ^ max_s + l.value-index)
    × (see_all (as_seen l.seen) (tries (format_of g.V.Value.KIND) (as_pair l.scale.pair) (drop l.value-index (g.V.Word.as_numbers l.values)))
    ≡ see_all (as_seen l.initial.seen) (tries (format_of g.V.Value.KIND) (as_pair l.scale.pair) (g.V.Word.as_numbers l.values)))
