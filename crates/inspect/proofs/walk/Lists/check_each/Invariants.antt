-- `walk::Lists::check_each` meets its contract: what is found is found from position i on. Assumes nothing.
use Rattle.std.proofs.Common.{◌≤◌, ℕ, ◌-◌, Bool, ℤ}
use mathlib.Core.Option.{Option}
use Rattle.rules.specs.Coded.{format_of, number_of}
use Rattle.inspect.specs.Looked.{EveryOfLists, Finds}
use Rattle.inspect.proofs.Steps.{Walk}
use Rattle.inspect.proofs.Scans.{Scanned}
use Rattle.inspect.proofs.walk.Lists.check_each.Given as goal

abbrev pub invariant-loop-i : goal.invariant-loop-i
invariant-loop-i g l =
    (l.i ≤ l.self.count) × EveryOfLists l.self (λ r. Walk r l.i l.j)
    × EveryOfLists l.self (λ r. (f : ℤ → Option ℕ → Bool) → Finds (format_of g.V.Value.KIND) r l.self.listed (goal.F-post g l.at_fault) f → Scanned (format_of g.V.Value.KIND) r (number_of l.row) l.number f l.i)

abbrev pub decreases-loop-i : goal.decreases-loop-i
decreases-loop-i g l = l.self.count - l.i
