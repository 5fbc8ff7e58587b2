-- The layout of the vectors from v on has passed, so each stands in the page.
use Rattle.std.proofs.Common.{◌≡◌, ◌+◌, ◌≤◌, length}
use Rattle.rules.specs.Verdict.{fine, verdict}
use Rattle.rules.specs.Coded.{format_of}
use Rattle.checks.proofs.Turns.{vectors-left}
use Rattle.alp.proofs.show.show_vectors.Given as goal

abbrev pub invariant-loop-v : goal.invariant-loop-v
invariant-loop-v g l = (8 + l.at ≤ length l.page)
    × (verdict (vectors-left (format_of g.V.Value.KIND) l.page l.size l.many l.v-counter l.at l.left) ≡ fine)
