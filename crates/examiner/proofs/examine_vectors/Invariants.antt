-- `examine_vectors` meets its contract: `Examining` says how far the loop has come. Assumes nothing.
use Rattle.rules.specs.Coded.{format_of}
use Rattle.examiner.proofs.Turns.{Examining}
use Rattle.examiner.proofs.examine_vectors.Given as goal

abbrev pub invariant-loop-v : goal.invariant-loop-v
invariant-loop-v g l = Examining (format_of g.V.Value.KIND) l.page l.size l.many l.v l.at l.left
