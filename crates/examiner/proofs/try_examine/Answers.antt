-- `try_examine` meets its contract: a refusal is the first row's, and done's place is the count of values. Assumes nothing.
use Rattle.rules.specs.Coded.{format_of}
use Rattle.examiner.proofs.Turns.{examiner_refuses, examiner_done, has_header}
use Rattle.examiner.proofs.try_examine.Goals as goal

pub returns-in_err-examine_rows : goal.returns-in_err-examine_rows
returns-in_err-examine_rows g c =
    examiner_refuses (format_of g.V.Value.KIND) c.args.page.now c.examine_rows.result c.examine_rows.ensures c.from_residual.result c.in_err-examine_rows.field-0.0 c.in_err-examine_rows.was c.from_residual.ensures.1

pub count_of-requires : goal.count_of-requires
count_of-requires g c = has_header (format_of g.V.Value.KIND) c.args.page.now c.examine_rows.result c.examine_rows.ensures c.in_ok-examine_rows.was

pub returns : goal.returns
returns g c = examiner_done (format_of g.V.Value.KIND) c.args.page.now c.examine_rows.result c.examine_rows.ensures c.in_ok-examine_rows.was c.count_of.result c.count_of.ensures.0
