-- `head::check_offsets` meets its contract. Assumes nothing.
use mathlib.Core.Path.{◌∙◌}
use native.Mathlib.Omega.{arith}
use Rattle.checks.proofs.Refusals.{no7_offsets, offsets-pass}
use Rattle.checks.proofs.head.check_offsets.Goals as goal

pub returns-then-page-many : goal.returns-then-page-many
returns-then-page-many c = c.refuses.ensures ∙ no7_offsets c.args.page.now (omega arith)

pub returns : goal.returns
returns c = offsets-pass c.args.page.now (omega arith)
