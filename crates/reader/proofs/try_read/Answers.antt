-- `try_read` meets its contract: its ways out are those of `Answers`. Assumes nothing.
use mathlib.Core.Path.{ap}
use Rattle.rules.specs.Coded.{format_of}
use Rattle.reader.proofs.Answers.{reader_refuses, reader_passes, reader_eight, reader_done}
use Rattle.reader.proofs.try_read.Goals as goal

pub returns-in_err-check_read : goal.returns-in_err-check_read
returns-in_err-check_read g c =
    let a = c.args in
    reader_refuses (ap format_of c.KIND.ensures) a.page.now a.out.now c.check_read.result c.check_read.ensures g.met.V.Word.laws c.from_residual.result c.in_err-check_read.field-0.0 c.in_err-check_read.was c.from_residual.ensures.1

pub read_vectors-requires : goal.read_vectors-requires
read_vectors-requires g c = let a = c.args in reader_passes (ap format_of c.KIND.ensures) a.page.now a.out.now c.check_read.result c.check_read.ensures c.in_ok-check_read.was

pub count_of-requires : goal.count_of-requires
count_of-requires g c = let a = c.args in reader_eight (ap format_of c.KIND.ensures) a.page.now a.out.now c.check_read.result c.check_read.ensures c.in_ok-check_read.was

pub returns : goal.returns
returns g c =
    let a = c.args in
    reader_done (ap format_of c.KIND.ensures) a.page.now a.out.now c.check_read.result c.check_read.ensures g.met.V.Word.laws c.in_ok-check_read.was c.count_of.result c.count_of.ensures.0 _ c.read_vectors.ensures
