-- `head::check_head` meets its contract: each return is the row that decides once those before it have passed. Assumes nothing.
use mathlib.Core.Path.{◌∙◌}
use native.Mathlib.Omega.{arith}
use Rattle.checks.proofs.Refusals.{no1, no2, no3, no4, no5_low, no5_high, no6, head_passes}
use Rattle.checks.proofs.head.check_head.Goals as goal
use Rattle.checks.proofs.head.check_head.Goals.{then-s-lt-MIN_S-via-then-s-lt-MIN_S, then-s-lt-MIN_S-via-else-s-lt-MIN_S+then-s-gt-MAX_S}

pub returns-then-page-lt8 : goal.returns-then-page-lt8
returns-then-page-lt8 c = c.refuses.ensures ∙ no1 c.args.page.now c.if-page-lt8.true

pub returns-then-page-ne1 : goal.returns-then-page-ne1
returns-then-page-ne1 c = c.refuses-then-page-ne1.ensures ∙ no2 c.args.page.now c.if-page-lt8.false c.if-page-ne1.true

pub returns-then-page-ne0 : goal.returns-then-page-ne0
returns-then-page-ne0 c = c.refuses-then-page-ne0.ensures ∙ no3 c.args.page.now c.if-page-lt8.false c.if-page-ne1.false c.if-page-ne0.true

pub returns-then-page-ne0-2 : goal.returns-then-page-ne0-2
returns-then-page-ne0-2 c = c.refuses-then-page-ne0-2.ensures ∙ no4 c.args.page.now c.if-page-lt8.false c.if-page-ne1.false c.if-page-ne0.false c.if-page-ne0-2.true

pub returns-then-s-lt-MIN_S : goal.returns-then-s-lt-MIN_S
returns-then-s-lt-MIN_S c =
    c.refuses-then-s-lt-MIN_S.ensures
    ∙ elim c.then-s-lt-MIN_S.branch [
      | then-s-lt-MIN_S-via-then-s-lt-MIN_S w ↦ no5_low c.args.page.now c.if-page-lt8.false c.if-page-ne1.false c.if-page-ne0.false c.if-page-ne0-2.false (omega arith)
      | then-s-lt-MIN_S-via-else-s-lt-MIN_S+then-s-gt-MAX_S w ↦ no5_high c.args.page.now c.if-page-lt8.false c.if-page-ne1.false c.if-page-ne0.false c.if-page-ne0-2.false (omega arith) (omega arith)
    ]

pub returns-then-n-gt-MAX_VALUES : goal.returns-then-n-gt-MAX_VALUES
returns-then-n-gt-MAX_VALUES c = c.refuses-then-n-gt-MAX_VALUES.ensures ∙ no6 c.args.page.now c.if-page-lt8.false c.if-page-ne1.false c.if-page-ne0.false c.if-page-ne0-2.false (omega arith) (omega arith) (omega arith)

pub returns : goal.returns
returns c = head_passes c.args.page.now c.if-page-lt8.false c.if-page-ne1.false c.if-page-ne0.false c.if-page-ne0-2.false (omega arith) (omega arith) (omega arith)
