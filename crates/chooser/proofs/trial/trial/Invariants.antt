-- `trial::trial` meets its contract: `seen` is the record of the values looked at so far. Assumes nothing.
use Rattle.rules.specs.Coded.{format_of, as_pair}
use Rattle.encode.specs.Seen.{as_seen}
use Rattle.chooser.proofs.Looking.{Looked}
use Rattle.chooser.proofs.trial.trial.Given as goal

abbrev pub invariant-loop-value : goal.invariant-loop-value
invariant-loop-value g l = Looked (format_of g.V.Value.KIND) (as_pair l.scale.pair) (g.V.Word.as_numbers l.values) l.value-index (as_seen l.seen)
