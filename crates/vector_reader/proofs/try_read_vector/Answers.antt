-- `try_read_vector` meets its contract: its ways out are those of `Answers`. Assumes nothing.
use mathlib.Core.Path.{ap}
use native.Mathlib.Omega.{arith}
use Rattle.rules.specs.Coded.{format_of}
use Rattle.vector_reader.proofs.Answers.{vector-refused, numbered, ready_at, meta_room, start-inside, enough, lent_many, vector-readable, vector-done}
use Rattle.vector_reader.proofs.try_read_vector.Goals as goal

pub returns-in_err-check_read : goal.returns-in_err-check_read
returns-in_err-check_read g c =
    let a = c.args in
    vector-refused (ap format_of c.KIND.ensures) a.number a.page.now a.out.now c.check_read.result c.check_read.ensures g.met.V.Word.laws c.from_residual.result c.in_err-check_read.field-0.0 c.in_err-check_read.was c.from_residual.ensures.1

pub values_in-n-requires : goal.values_in-n-requires
values_in-n-requires g c = let a = c.args in numbered (ap format_of c.KIND.ensures) a.number a.page.now a.out.now c.check_read.result c.check_read.ensures c.in_ok-check_read.was

pub span_of-requires : goal.span_of-requires
span_of-requires g c = let a = c.args in numbered (ap format_of c.KIND.ensures) a.number a.page.now a.out.now c.check_read.result c.check_read.ensures c.in_ok-check_read.was

pub slice_bounds-part-count : goal.slice_bounds-part-count
slice_bounds-part-count g c =
    let a = c.args in
    let ready = ready_at (ap format_of c.KIND.ensures) a.number a.page.now a.out.now c.check_read.result c.check_read.ensures c.in_ok-check_read.was c.span_of.ensures.0 c.values_in-n.ensures.0 in
    omega (arith, start-inside ready)

pub slice_bounds-part-start : goal.slice_bounds-part-start
slice_bounds-part-start g c =
    let a = c.args in
    let ready = ready_at (ap format_of c.KIND.ensures) a.number a.page.now a.out.now c.check_read.result c.check_read.ensures c.in_ok-check_read.was c.span_of.ensures.0 c.values_in-n.ensures.0 in
    omega (arith, start-inside ready)

pub meta_at-m-requires : goal.meta_at-m-requires
meta_at-m-requires g c =
    let a = c.args in
    let ready = ready_at (ap format_of c.KIND.ensures) a.number a.page.now a.out.now c.check_read.result c.check_read.ensures c.in_ok-check_read.was c.span_of.ensures.0 c.values_in-n.ensures.0 in
    meta_room ready (ap format_of c.KIND-2.ensures)

pub slice_bounds-read_vector-end : goal.slice_bounds-read_vector-end
slice_bounds-read_vector-end g c =
    let a = c.args in
    let ready = ready_at (ap format_of c.KIND.ensures) a.number a.page.now a.out.now c.check_read.result c.check_read.ensures c.in_ok-check_read.was c.span_of.ensures.0 c.values_in-n.ensures.0 in
    enough ready

pub slice_bounds-read_vector-end-2 : goal.slice_bounds-read_vector-end-2
slice_bounds-read_vector-end-2 g c =
    let a = c.args in
    let ready = ready_at (ap format_of c.KIND.ensures) a.number a.page.now a.out.now c.check_read.result c.check_read.ensures c.in_ok-check_read.was c.span_of.ensures.0 c.values_in-n.ensures.0 in
    lent_many ready

pub read_vector-requires : goal.read_vector-requires
read_vector-requires g c =
    let a = c.args in
    let ready = ready_at (ap format_of c.KIND.ensures) a.number a.page.now a.out.now c.check_read.result c.check_read.ensures c.in_ok-check_read.was c.span_of.ensures.0 c.values_in-n.ensures.0 in
    vector-readable ready (ap format_of c.KIND-2.ensures) c.meta_at-m.result c.meta_at-m.ensures c.values_in-n.ensures.1

pub returns : goal.returns
returns g c =
    let a = c.args in
    let ready = ready_at (ap format_of c.KIND.ensures) a.number a.page.now a.out.now c.check_read.result c.check_read.ensures c.in_ok-check_read.was c.span_of.ensures.0 c.values_in-n.ensures.0 in
    vector-done ready g.met.V.Word.laws c.read_vector.new.out c.read_vector.ensures
