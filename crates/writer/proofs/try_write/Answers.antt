-- `try_write` meets its contract. Assumes nothing.
use mathlib.Core.Path.{◌≡◌}
use lib.ListN.{length}
use Rattle.bits.proofs.WordLists.{length-numbers}
use Rattle.rules.specs.Verdict.{verdict}
use Rattle.rules.specs.Write.{settings_rows}
use Rattle.rules.specs.Coded.{format_of}
use Rattle.checks.specs.Forms.{as_verdict}
use Rattle.writer.proofs.Rows.{rows_of, settled, refused-settings, refused-short, ready, written-done}
use Rattle.writer.proofs.try_write.Given.{Over}
use Rattle.writer.proofs.try_write.Goals as goal
use Rattle.writer.proofs.try_write.Goals.{After-check_settings}

-- the rows of the settings, of these values
rows : (g : Over) (c : After-check_settings g) → as_verdict c.check_settings.result ≡ verdict (settings_rows (format_of g.V.Value.KIND) c.args.s c.args.pairs.now (g.V.Word.as_numbers c.args.values.now))
rows g c = rows_of c.KIND.ensures (length c.args.values.now) c.args.s c.args.pairs.now c.check_settings.result c.check_settings.ensures (g.V.Word.as_numbers c.args.values.now) (length-numbers g.met.V.Word.laws c.args.values.now)

pub returns-in_err-check_settings : goal.returns-in_err-check_settings
returns-in_err-check_settings g c =
    let at = goal.at.returns-in_err-check_settings g c in
    let vs = g.V.Word.as_numbers c.args.values.now in
    refused-settings (format_of g.V.Value.KIND) c.args.s c.args.pairs.now vs c.args.out.now c.check_settings.result (rows g at.After-check_settings) c.from_residual.result c.in_err-check_settings.field-0.0 c.in_err-check_settings.was c.from_residual.ensures.1

pub measure_page-found-requires : goal.measure_page-found-requires
measure_page-found-requires g c =
    let at = goal.at.measure_page-found-requires g c in
    let vs = g.V.Word.as_numbers c.args.values.now in
    settled (format_of g.V.Value.KIND) c.args.s c.args.pairs.now vs c.check_settings.result (rows g at.After-check_settings) c.in_ok-check_settings.field-0 c.in_ok-check_settings.was

pub returns-in_err-check_room : goal.returns-in_err-check_room
returns-in_err-check_room g c =
    let at = goal.at.returns-in_err-check_room g c in
    let vs = g.V.Word.as_numbers c.args.values.now in
    let q = c.from_residual-in_err-check_room in
    refused-short (format_of g.V.Value.KIND) c.args.s c.args.pairs.now vs c.args.out.now c.check_settings.result (rows g at.After-check_settings) c.in_ok-check_settings.field-0 c.in_ok-check_settings.was c.measure_page-found.result.size c.measure_page-found.ensures.size
    c.check_room.result c.check_room.ensures q.result c.in_err-check_room.field-0.0 c.in_err-check_room.was q.ensures.1

pub write_page-requires-clause-ready : goal.write_page-requires-clause-ready
write_page-requires-clause-ready g c =
    let at = goal.at.write_page-requires-clause-ready g c in
    let vs = g.V.Word.as_numbers c.args.values.now in
    ready (format_of g.V.Value.KIND) c.args.s c.args.pairs.now vs c.args.out.now c.check_settings.result (rows g at.After-check_settings) c.in_ok-check_settings.field-0 c.in_ok-check_settings.was c.measure_page-found.result.size c.measure_page-found.ensures.size
    c.check_room.result c.check_room.ensures c.in_ok-check_room.field-0 c.in_ok-check_room.was

pub returns : goal.returns
returns g c =
    let at = goal.at.returns g c in
    let vs = g.V.Word.as_numbers c.args.values.now in
    let w = c.write_page in
    written-done (format_of g.V.Value.KIND) c.args.s c.args.pairs.now vs c.args.out.now c.check_settings.result (rows g at.After-check_settings) c.in_ok-check_settings.field-0 c.in_ok-check_settings.was c.measure_page-found.result.size c.measure_page-found.ensures.size
    c.check_room.result c.check_room.ensures c.in_ok-check_room.field-0 c.in_ok-check_room.was w.result w.new.out w.ensures.size w.ensures.bytes
