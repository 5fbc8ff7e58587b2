-- `read_vectors` meets its contract: `Reading` says how far the loop has come. Assumes nothing.
use Rattle.rules.specs.Coded.{format_of}
use Rattle.reader.proofs.Turns.{Reading}
use Rattle.reader.proofs.read_vectors.Given as goal

abbrev pub invariant-loop : goal.invariant-loop
invariant-loop g l = Reading g.V.Word.as_numbers (format_of g.V.Value.KIND) l.page l.size l.many l.initial.out l.counter l.at l.left l.start l.out
