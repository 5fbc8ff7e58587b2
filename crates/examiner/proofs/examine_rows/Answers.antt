-- `examine_rows` meets its contract: the layout's rows, then those of the vectors. Assumes nothing.
use mathlib.Core.Path.{ap, ◌∙◌}
use lib.Ieee.{Format}
use Rattle.rules.specs.Coded.{format_of}
use Rattle.rules.specs.Verdict.{verdict}
use Rattle.rules.specs.Read.{page_rows}
use Rattle.rules.specs.Examine.{examine_rows}
use Rattle.checks.proofs.Refusals.{check_fine, stops, goes_on}
use Rattle.examiner.proofs.examine_rows.Goals as goal

pub returns-in_err-check_page : goal.returns-in_err-check_page
unfolding examine_rows
returns-in_err-check_page g c =
    stops c.check_page.result (c.check_page.ensures ∙ ap (λ (f : Format). verdict (page_rows f c.args.page.now)) (ap format_of c.KIND.ensures)) c.from_residual.result c.in_err-check_page.field-0.0 _ c.in_err-check_page.was c.from_residual.ensures.1

pub examine_vectors-requires : goal.examine_vectors-requires
examine_vectors-requires g c =
    check_fine c.check_page.result (c.check_page.ensures ∙ ap (λ (f : Format). verdict (page_rows f c.args.page.now)) (ap format_of c.KIND.ensures)) c.in_ok-check_page.was

pub returns : goal.returns
unfolding examine_rows
returns g c =
    goes_on c.check_page.result (c.check_page.ensures ∙ ap (λ (f : Format). verdict (page_rows f c.args.page.now)) (ap format_of c.KIND.ensures)) c.examine_vectors.result _ c.in_ok-check_page.was c.examine_vectors.ensures
