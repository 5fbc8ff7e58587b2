-- `try_choose` meets its contract. Assumes nothing.
use mathlib.Core.Path.{refl, sym}
use native.Mathlib.Omega.{arith}
use lib.ListN.{length}
use Rattle.bits.proofs.WordLists.{length-numbers}
use Rattle.rules.specs.Coded.{format_of, as_pair}
use Rattle.chooser.proofs.Rows.{no_values, too_many, pair_found}
use Rattle.chooser.proofs.try_choose.Goals as goal
use Rattle.chooser.proofs.try_choose.Goals.{then-n-lt1-via-then-n-lt1, then-n-lt1-via-else-n-lt1+then-size_of-n}

pub returns-then-n-lt1 : goal.returns-then-n-lt1
returns-then-n-lt1 g c =
    let fmt = format_of g.V.Value.KIND in
    let vs = g.V.Word.as_numbers c.args.values.now in
    let n = length-numbers g.met.V.Word.laws c.args.values.now in
    elim c.then-n-lt1.branch [
      | then-n-lt1-via-then-n-lt1 w ↦ no_values fmt vs _ (omega (arith, n, w.if-n-lt1.true)) refl
      | then-n-lt1-via-else-n-lt1+then-size_of-n w ↦ too_many fmt vs _ (omega (arith, n, w.if-n-lt1.false)) (omega (arith, n, w.size_of.ensures.0, w.if-size_of-n.true)) refl
    ]

pub returns : goal.returns
returns g c =
    let fmt = format_of g.V.Value.KIND in
    let vs = g.V.Word.as_numbers c.args.values.now in
    let n = length-numbers g.met.V.Word.laws c.args.values.now in
    pair_found fmt vs _ (omega (arith, n, c.if-n-lt1.false)) (omega (arith, n, c.size_of.ensures.0, c.if-size_of-n.false)) (as_pair c.search.result) c.search.ensures (length c.args.values.now) (sym n) refl
