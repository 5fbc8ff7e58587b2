-- `page::check_vectors` meets its contract: the rows of all vectors are those of the vectors from the loop's place on. Assumes nothing.
use mathlib.Core.Path.{◌≡◌}
use Prim.Native.Nat.{◌+◌, ◌*◌, ◌^◌, ◌≤◌}
use lib.ListN.{length}
use Rattle.rules.specs.Page.{s_of, offsets_of, body_of}
use Rattle.rules.specs.Verdict.{verdict}
use Rattle.rules.specs.Read.{start, vectors_rows}
use Rattle.rules.specs.Coded.{format_of}
use Rattle.checks.proofs.Turns.{vectors-left}
use Rattle.checks.proofs.page.check_vectors.Given as goal

abbrev pub invariant-loop-v : goal.invariant-loop-v
invariant-loop-v l = (8 + 4 * l.many ≤ length l.page) × (8 + l.at ≤ length l.page)
    × (verdict (vectors_rows (format_of l.kind) (2 ^ s_of l.page) (start l.page) (offsets_of l.page) (body_of l.page)) ≡ verdict (vectors-left (format_of l.kind) l.page l.size l.many l.v l.at l.left))
