-- `vector::check_vector` meets its contract: row 8 and the rows of the metadata, then rows 13 and 17. Assumes nothing.
use mathlib.Core.Path.{◌≡◌, ◌∙◌}
use native.Mathlib.Omega.{arith}
use Rattle.rules.specs.Page.{meta_at}
use Rattle.rules.specs.Verdict.{fine, row, first, verdict, in_vector, ◌isnt◌}
use Rattle.rules.specs.Read.{meta_rows}
use Rattle.rules.specs.Coded.{format_of}
use Rattle.rules.proofs.Rows.{first_fine}
use Rattle.rules.proofs.Reading.{meta_fine}
use Rattle.checks.specs.Forms.{as_verdict, as_cursor}
use Rattle.checks.proofs.Refusals.{both-are, check_fine, stops, goes_on, vector-is}
use Rattle.checks.proofs.vector.check_vector.Goals as goal
use Rattle.checks.proofs.vector.check_vector.Goals.{After-and}

both : (c : After-and) → as_verdict c.and.result ≡ first (verdict (row 8 (in_vector c.args.cursor.vector) (c.args.offset isnt c.args.cursor.offset)))
    (verdict (meta_rows (format_of c.args.kind) c.args.cursor.vector c.values_here-n.result (meta_at (format_of c.args.kind) c.args.part.now) c.args.part.now))
both c = both-are c.and.result c.check_offset-placed.result c.check_meta-described.result c.and.ensures c.check_offset-placed.ensures c.check_meta-described.ensures

pub returns-in_err-and : goal.returns-in_err-and
returns-in_err-and c =
    let a = c.args in
    let fmt = format_of a.kind in
    stops c.and.result (both (goal.at.returns-in_err-and c).After-and) c.from_residual.result c.in_err-and.field-0.0 _ c.in_err-and.was c.from_residual.ensures.1
    ∙ vector-is fmt a.size (as_cursor a.cursor) a.offset c.values_here-n.result (meta_at fmt a.part.now) a.part.now c.values_here-n.ensures

pub check_payload-requires : goal.check_payload-requires
check_payload-requires c =
    let a = c.args in
    let fmt = format_of a.kind in
    let ok : (verdict (row 8 (in_vector a.cursor.vector) (a.offset isnt a.cursor.offset)) ≡ fine) × (verdict (meta_rows fmt a.cursor.vector c.values_here-n.result (meta_at fmt a.part.now) a.part.now) ≡ fine) =
    first_fine _ _ (check_fine c.and.result (both (goal.at.check_payload-requires c).After-and) c.in_ok-and.was) in
    (omega arith, meta_fine fmt a.cursor.vector c.values_here-n.result (meta_at fmt a.part.now) a.part.now ok.1)

pub returns : goal.returns
returns c =
    let a = c.args in
    let fmt = format_of a.kind in
    goes_on c.and.result (both (goal.at.returns c).After-and) c.check_payload.result _ c.in_ok-and.was c.check_payload.ensures
    ∙ vector-is fmt a.size (as_cursor a.cursor) a.offset c.values_here-n.result (meta_at fmt a.part.now) a.part.now c.values_here-n.ensures
