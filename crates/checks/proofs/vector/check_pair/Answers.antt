-- `vector::check_pair` meets its contract. Assumes nothing.
use mathlib.Core.Path.{◌∙◌}
use native.Mathlib.Omega.{arith}
use Rattle.rules.specs.Coded.{format_of}
use Rattle.checks.proofs.Refusals.{no9, no10, pair-passes}
use Rattle.checks.proofs.vector.check_pair.Goals as goal

pub returns-then-top-e : goal.returns-then-top-e
returns-then-top-e c = let a = c.args in c.refuses.ensures ∙ no9 (format_of a.kind) a.v a.pair (omega arith)

pub returns-then-e-f : goal.returns-then-e-f
returns-then-e-f c = let a = c.args in c.refuses-then-e-f.ensures ∙ no10 (format_of a.kind) a.v a.pair (omega arith) (omega arith)

pub returns : goal.returns
returns c = let a = c.args in pair-passes (format_of a.kind) a.v a.pair (omega arith) (omega arith)
