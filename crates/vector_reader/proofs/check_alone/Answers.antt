-- `check_alone` meets its contract: where the vector starts, its metadata, where it ends, its payload. Assumes nothing.
use mathlib.Core.Path.{◌∙◌}
use native.Mathlib.Omega.{arith}
use Rattle.rules.specs.Coded.{format_of}
use Rattle.vector_reader.specs.Spans.{as_span}
use Rattle.vector_reader.proofs.Refusals.{starts-early, alone-stops, described_at, size_at, meta_passes, ends_elsewhere, alone_goes_on}
use Rattle.vector_reader.proofs.check_alone.Goals as goal

pub returns-then-from-low : goal.returns-then-from-low
returns-then-from-low c = let a = c.args in c.refuses.ensures ∙ starts-early (format_of a.kind) a.v a.n a.low (as_span a.span) a.part.now c.if-from-low.true

pub returns-in_err-check_meta : goal.returns-in_err-check_meta
returns-in_err-check_meta c =
    let a = c.args in
    alone-stops (format_of a.kind) a.v a.n a.low (as_span a.span) a.part.now c.if-from-low.false c.check_meta.result c.check_meta.ensures c.from_residual.result c.in_err-check_meta.field-0.0 c.in_err-check_meta.was c.from_residual.ensures.1

pub meta_at-m-requires : goal.meta_at-m-requires
meta_at-m-requires c =
    let a = c.args in
    let described = described_at (format_of a.kind) a.v a.n a.low (as_span a.span) a.part.now c.if-from-low.false c.check_meta.result c.check_meta.ensures c.in_ok-check_meta.was in
    (meta_passes described).room

pub returns-then-from-vector_size : goal.returns-then-from-vector_size
returns-then-from-vector_size c =
    let a = c.args in
    let described = described_at (format_of a.kind) a.v a.n a.low (as_span a.span) a.part.now c.if-from-low.false c.check_meta.result c.check_meta.ensures c.in_ok-check_meta.was in
    let sized = size_at (format_of a.kind) a.n a.part.now c.meta_at-m.result c.vector_size.result c.meta_at-m.ensures c.vector_size.ensures in
    c.refuses-then-from-vector_size.ensures ∙ ends_elsewhere described sized c.if-from-vector_size.true

pub check_payload-requires : goal.check_payload-requires
check_payload-requires c =
    let a = c.args in
    let described = described_at (format_of a.kind) a.v a.n a.low (as_span a.span) a.part.now c.if-from-low.false c.check_meta.result c.check_meta.ensures c.in_ok-check_meta.was in
    (omega arith, meta_passes described)

pub returns : goal.returns
returns c =
    let a = c.args in
    let described = described_at (format_of a.kind) a.v a.n a.low (as_span a.span) a.part.now c.if-from-low.false c.check_meta.result c.check_meta.ensures c.in_ok-check_meta.was in
    let sized = size_at (format_of a.kind) a.n a.part.now c.meta_at-m.result c.vector_size.result c.meta_at-m.ensures c.vector_size.ensures in
    c.check_payload.ensures ∙ alone_goes_on described sized c.if-from-vector_size.false
