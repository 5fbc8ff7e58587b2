-- `vector::check_positions` meets its contract: the rows of all positions are those of the positions from the loop's index on. Assumes nothing.
use mathlib.Core.Path.{◌∙◌}
use Rattle.checks.proofs.Turns.{positions-start, position_high, position_low, position_next, positions-end}
use Rattle.checks.proofs.vector.check_positions.Goals as goal
use Rattle.checks.proofs.vector.check_positions.Goals.{then-n-p-via-then-n-p, then-n-p-via-else-n-p+then-p-low}

pub loop-i-init : goal.loop-i-init
loop-i-init c = let a = c.args in positions-start a.part.now a.at a.listed a.v a.n

pub returns-then-n-p : goal.returns-then-n-p
returns-then-n-p c =
    let a = c.args in
    let l = c.loop-i in
    c.refuses.ensures
    ∙ elim c.then-n-p.branch [
      | then-n-p-via-then-n-p w ↦ position_high a.part.now a.at a.listed a.v a.n l.low l.i c.from-p.result _ c.loop-i-test.true (c.from-p.ensures ∙ c.read.ensures) l.invariant w.if-n-p.true
      | then-n-p-via-else-n-p+then-p-low w ↦ position_low a.part.now a.at a.listed a.v a.n l.low l.i c.from-p.result _ c.loop-i-test.true (c.from-p.ensures ∙ c.read.ensures) l.invariant w.if-n-p.false w.if-p-low.true
    ]

pub loop-i-preserved : goal.loop-i-preserved
loop-i-preserved c =
    let a = c.args in
    let l = c.loop-i in
    position_next a.part.now a.at a.listed a.v a.n l.low l.i c.from-p.result _ c.loop-i-test.true (c.from-p.ensures ∙ c.read.ensures) l.invariant c.if-n-p.false c.if-p-low.false

pub returns : goal.returns
returns c =
    let a = c.args in
    let l = c.loop-i in
    positions-end a.part.now a.at a.listed a.v a.n l.low l.i _ c.loop-i-test.false l.invariant
