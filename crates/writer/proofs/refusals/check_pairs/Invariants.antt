-- `refusals::check_pairs` meets its contract: the rows of the pairs that are left. Assumes nothing.
use mathlib.Core.Path.{◌≡◌}
use Prim.Native.Nat.{◌*◌}
use lib.ListN.{drop}
use Rattle.rules.specs.Verdict.{verdict}
use Rattle.rules.specs.Write.{pairs_of, pairs_rows}
use Rattle.rules.specs.Coded.{format_of}
use Rattle.writer.proofs.refusals.check_pairs.Given as goal

abbrev pub invariant-loop-v : goal.invariant-loop-v
invariant-loop-v l = verdict (pairs_rows (format_of l.kind) 0 (pairs_of l.pairs)) ≡ verdict (pairs_rows (format_of l.kind) l.v (pairs_of (drop (2 * l.v) l.pairs)))
