-- `vector::check_offset` meets its contract. Assumes nothing.
use mathlib.Core.Path.{◌∙◌}
use Rattle.checks.proofs.Refusals.{no8, offset-passes}
use Rattle.checks.proofs.vector.check_offset.Goals as goal

pub returns-then-offset-laid : goal.returns-then-offset-laid
returns-then-offset-laid c = let a = c.args in c.refuses.ensures ∙ no8 a.v a.offset a.laid c.if-offset-laid.true

pub returns : goal.returns
returns c = let a = c.args in offset-passes a.v a.offset a.laid c.if-offset-laid.false
