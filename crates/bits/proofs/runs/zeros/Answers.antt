-- `runs::zeros` meets its contract: `Zeroing` says how far the loop has come. Assumes nothing.
use native.Mathlib.Omega.{arith}
use Rattle.bits.proofs.Fetched.{zero_next, zero_end}
use Rattle.bits.proofs.Zeros.{zeroing_start}
use Rattle.bits.proofs.runs.zeros.Goals as goal

pub loop-place-init : goal.loop-place-init
loop-place-init g c = zeroing_start (g.W.Word.as_numbers c.args.out.now)

pub loop-place-preserved : goal.loop-place-preserved
loop-place-preserved g c =
    let l = c.loop-place in
    zero_next g.met.W.Word.laws c.args.out.now l.place-index l.out l.invariant _ (omega arith) c.from_number-zero.ensures

pub returns : goal.returns
returns g c =
    let l = c.loop-place in
    zero_end g.met.W.Word.laws c.args.out.now l.place-index l.out l.invariant (omega arith)
