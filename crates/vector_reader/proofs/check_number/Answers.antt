-- `check_number` meets its contract: rows 1 to 6, then 30, then 7 for the offsets. Assumes nothing.
use mathlib.Core.Path.{◌∙◌}
use native.Mathlib.Omega.{arith}
use Rattle.checks.proofs.Refusals.{check_fine}
use Rattle.vector_reader.proofs.Refusals.{number-stops, no30, number_goes_on}
use Rattle.vector_reader.proofs.check_number.Goals as goal

pub returns-in_err-check_head : goal.returns-in_err-check_head
returns-in_err-check_head c = number-stops c.args.number c.args.page.now c.check_head.result c.check_head.ensures c.from_residual.result c.in_err-check_head.field-0.0 c.in_err-check_head.was c.from_residual.ensures.1

pub returns-then-vectors_in-number : goal.returns-then-vectors_in-number
returns-then-vectors_in-number c =
    c.refuses.ensures ∙ no30 c.args.number c.args.page.now (check_fine c.check_head.result c.check_head.ensures c.in_ok-check_head.was) (omega (arith, c.vectors_in.ensures.0))

pub returns : goal.returns
returns c = c.check_offsets.ensures ∙ number_goes_on c.args.number c.args.page.now (check_fine c.check_head.result c.check_head.ensures c.in_ok-check_head.was) (omega (arith, c.vectors_in.ensures.0))
