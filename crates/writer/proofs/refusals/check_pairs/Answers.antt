-- `refusals::check_pairs` meets its contract. Assumes nothing.
use mathlib.Core.Path.{sym, ◌∙◌}
use native.Mathlib.Omega.{arith}
use Rattle.rules.specs.Coded.{format_of}
use Rattle.checks.proofs.Refusals.{stops, continues}
use Rattle.writer.proofs.Rows.{pairs_step, pairs_stop}
use Rattle.writer.proofs.refusals.check_pairs.Goals as goal

pub returns-in_err-check_pair : goal.returns-in_err-check_pair
returns-in_err-check_pair c =
    let a = c.args in
    let l = c.loop-v in
    let r = c.check_pair in
    stops r.result r.ensures c.from_residual.result c.in_err-check_pair.field-0.0 _ c.in_err-check_pair.was c.from_residual.ensures.1
    ∙ sym (l.invariant ∙ pairs_step (format_of a.kind) a.pairs.now l.v c.pair_of.result c.pair_of.ensures (omega (arith, c.loop-v-test.true)))

pub loop-v-preserved : goal.loop-v-preserved
loop-v-preserved c =
    let a = c.args in
    let l = c.loop-v in
    let r = c.check_pair in
    continues r.result r.ensures _ _ c.in_ok-check_pair.was (l.invariant ∙ pairs_step (format_of a.kind) a.pairs.now l.v c.pair_of.result c.pair_of.ensures (omega (arith, c.loop-v-test.true)))

pub returns : goal.returns
returns c =
    let a = c.args in
    let l = c.loop-v in
    pairs_stop (format_of a.kind) a.pairs.now l.v (omega (arith, c.loop-v-test.false)) ∙ sym l.invariant
