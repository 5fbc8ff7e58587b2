-- `rows::stand_in` meets its contract: `Seeking` says that every position so far is listed. Assumes nothing.
use Rattle.std.proofs.Common.{◌≤◌, ◌-◌}
use Rattle.rules.specs.Coded.{format_of}
use Rattle.inspect.specs.Looked.{EveryOfBoth}
use Rattle.inspect.proofs.Scans.{Seeking}
use Rattle.inspect.proofs.rows.stand_in.Given as goal

abbrev pub invariant-loop-i : goal.invariant-loop-i
invariant-loop-i g l = (l.i ≤ l.fields.count) × EveryOfBoth l.fields l.lists (λ r. Seeking (format_of g.V.Value.KIND) r l.i)

abbrev pub decreases-loop-i : goal.decreases-loop-i
decreases-loop-i g l = l.fields.count - l.i
