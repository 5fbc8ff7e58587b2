-- `try_measure` meets its contract. Assumes nothing.
use mathlib.Core.Path.{◌≡◌}
use lib.ListN.{length}
use Rattle.bits.proofs.WordLists.{length-numbers}
use Rattle.rules.specs.Verdict.{verdict}
use Rattle.rules.specs.Write.{settings_rows}
use Rattle.rules.specs.Coded.{format_of}
use Rattle.checks.specs.Forms.{as_verdict}
use Rattle.writer.proofs.Rows.{rows_of, settled, measured-refused, measured-done}
use Rattle.writer.proofs.try_measure.Given.{Over}
use Rattle.writer.proofs.try_measure.Goals as goal
use Rattle.writer.proofs.try_measure.Goals.{After-check_settings}

-- the rows of the settings, of these values
rows : (g : Over) (c : After-check_settings g) → as_verdict c.check_settings.result ≡ verdict (settings_rows (format_of g.V.Value.KIND) c.args.s c.args.pairs.now (g.V.Word.as_numbers c.args.values.now))
rows g c = rows_of c.KIND.ensures (length c.args.values.now) c.args.s c.args.pairs.now c.check_settings.result c.check_settings.ensures (g.V.Word.as_numbers c.args.values.now) (length-numbers g.met.V.Word.laws c.args.values.now)

pub returns-in_err-check_settings : goal.returns-in_err-check_settings
returns-in_err-check_settings g c =
    let at = goal.at.returns-in_err-check_settings g c in
    let vs = g.V.Word.as_numbers c.args.values.now in
    measured-refused (format_of g.V.Value.KIND) c.args.s c.args.pairs.now vs c.check_settings.result (rows g at.After-check_settings) c.from_residual.result c.in_err-check_settings.field-0.0 c.in_err-check_settings.was c.from_residual.ensures.1

pub measure_page-found-requires : goal.measure_page-found-requires
measure_page-found-requires g c =
    let at = goal.at.measure_page-found-requires g c in
    let vs = g.V.Word.as_numbers c.args.values.now in
    settled (format_of g.V.Value.KIND) c.args.s c.args.pairs.now vs c.check_settings.result (rows g at.After-check_settings) c.in_ok-check_settings.field-0 c.in_ok-check_settings.was

pub returns : goal.returns
returns g c =
    let at = goal.at.returns g c in
    let vs = g.V.Word.as_numbers c.args.values.now in
    measured-done (format_of g.V.Value.KIND) c.args.s c.args.pairs.now vs c.check_settings.result (rows g at.After-check_settings) c.in_ok-check_settings.field-0 c.in_ok-check_settings.was c.measure_page-found.result.size c.measure_page-found.ensures.size
