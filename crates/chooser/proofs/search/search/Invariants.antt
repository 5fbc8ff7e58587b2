-- `search::search` meets its contract: the best pair so far, and the pairs that are left. Assumes nothing.
use Rattle.rules.specs.Coded.{format_of}
use Rattle.chooser.proofs.Order.{Ahead}
use Rattle.chooser.proofs.search.search.Given as goal

abbrev pub invariant-loop-e : goal.invariant-loop-e
invariant-loop-e g l = Ahead (format_of g.V.Value.KIND) (g.V.Word.as_numbers l.values) l.best l.e 0

abbrev pub invariant-loop-f : goal.invariant-loop-f
invariant-loop-f g l = Ahead (format_of g.V.Value.KIND) (g.V.Word.as_numbers l.values) l.best l.e l.f
