-- `page::check_page` meets its contract: three groups of rows, one after the other. Assumes nothing.
use Rattle.rules.specs.Read.{page_rows}
use Rattle.checks.proofs.Refusals.{check_fine, stops, goes_on}
use Rattle.checks.proofs.page.check_page.Goals as goal

pub returns-in_err-check_head : goal.returns-in_err-check_head
unfolding page_rows
returns-in_err-check_head c =
    stops c.check_head.result c.check_head.ensures c.from_residual.result c.in_err-check_head.field-0.0 _ c.in_err-check_head.was c.from_residual.ensures.1

pub check_offsets-requires : goal.check_offsets-requires
check_offsets-requires c = check_fine c.check_head.result c.check_head.ensures c.in_ok-check_head.was

pub returns-in_err-check_offsets : goal.returns-in_err-check_offsets
unfolding page_rows
returns-in_err-check_offsets c =
    let s = c.from_residual-in_err-check_offsets in
    goes_on c.check_head.result c.check_head.ensures s.result _ c.in_ok-check_head.was
    (stops c.check_offsets.result c.check_offsets.ensures s.result c.in_err-check_offsets.field-0.0 _ c.in_err-check_offsets.was s.ensures.1)

pub check_vectors-requires : goal.check_vectors-requires
check_vectors-requires c =
    (check_fine c.check_head.result c.check_head.ensures c.in_ok-check_head.was, check_fine c.check_offsets.result c.check_offsets.ensures c.in_ok-check_offsets.was)

pub returns : goal.returns
unfolding page_rows
returns c =
    goes_on c.check_head.result c.check_head.ensures c.check_vectors.result _ c.in_ok-check_head.was
    (goes_on c.check_offsets.result c.check_offsets.ensures c.check_vectors.result _ c.in_ok-check_offsets.was c.check_vectors.ensures)
