-- `check_read` meets its contract: the rows of the number, those of the vector alone, then 15. Assumes nothing.
use mathlib.Core.Path.{◌∙◌}
use Rattle.rules.proofs.ReadingVector.{number-fine}
use Rattle.rules.specs.Coded.{format_of}
use Rattle.checks.proofs.Refusals.{check_fine}
use Rattle.vector_reader.specs.Spans.{as_span}
use Rattle.vector_reader.proofs.Refusals.{read_stops, asked_at, vector-stops, no15, read_passes}
use Rattle.vector_reader.proofs.check_read.Goals as goal

pub returns-in_err-check_number : goal.returns-in_err-check_number
returns-in_err-check_number c =
    let a = c.args in
    read_stops (format_of a.kind) a.number a.page.now a.room c.check_number.result c.check_number.ensures c.from_residual.result c.in_err-check_number.field-0.0 c.in_err-check_number.was c.from_residual.ensures.1

pub vectors_in-low-requires : goal.vectors_in-low-requires
vectors_in-low-requires c = (number-fine c.args.number c.args.page.now (check_fine c.check_number.result c.check_number.ensures c.in_ok-check_number.was)).header

pub returns-in_err-check_alone : goal.returns-in_err-check_alone
returns-in_err-check_alone c =
    let a = c.args in
    let asked =
    asked_at (format_of a.kind) a.number a.page.now c.check_number.result c.check_number.ensures c.in_ok-check_number.was (as_span c.span_of-span.result) c.values_in-n.result c.vectors_in-low.result c.min-start.result
    c.span_of-span.ensures.0 c.values_in-n.ensures.0 c.vectors_in-low.ensures.0 c.min-start.ensures c.check_alone.result c.check_alone.ensures
    in
    vector-stops asked a.room c.from_residual-in_err-check_alone.result c.in_err-check_alone.field-0.0 c.in_err-check_alone.was c.from_residual-in_err-check_alone.ensures.1

pub returns-then-room-n : goal.returns-then-room-n
returns-then-room-n c =
    let a = c.args in
    let asked =
    asked_at (format_of a.kind) a.number a.page.now c.check_number.result c.check_number.ensures c.in_ok-check_number.was (as_span c.span_of-span.result) c.values_in-n.result c.vectors_in-low.result c.min-start.result
    c.span_of-span.ensures.0 c.values_in-n.ensures.0 c.vectors_in-low.ensures.0 c.min-start.ensures c.check_alone.result c.check_alone.ensures
    in
    c.refuses.ensures ∙ no15 asked a.room c.in_ok-check_alone.was c.if-room-n.true

pub returns : goal.returns
returns c =
    let a = c.args in
    let asked =
    asked_at (format_of a.kind) a.number a.page.now c.check_number.result c.check_number.ensures c.in_ok-check_number.was (as_span c.span_of-span.result) c.values_in-n.result c.vectors_in-low.result c.min-start.result
    c.span_of-span.ensures.0 c.values_in-n.ensures.0 c.vectors_in-low.ensures.0 c.min-start.ensures c.check_alone.result c.check_alone.ensures
    in
    read_passes asked a.room c.in_ok-check_alone.was c.if-room-n.false
