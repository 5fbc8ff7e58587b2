-- `scan::stand_in` meets its contract. Assumes nothing.
use Rattle.std.proofs.Common.{rules, sym, ap, ◌∙◌, w64}
use mir.ValLaws.{to_z-of_z}
use Rattle.rules.specs.Coded.{format_of, as_pair}
use Rattle.decimal.specs.Turn.{as_try}
use Rattle.encode.proofs.Steps.{stand-none, stand-rest, stand-first}
use Rattle.encode.proofs.scan.stand_in.Goals as goal

pub loop-value-preserved : goal.loop-value-preserved
loop-value-preserved g c =
    stand-rest g.met.V.Word.laws (format_of g.V.Value.KIND) (as_pair c.args.scale.now.pair) _ _ _ c.in-Some.ensures.cases.0 _ c.loop-value.invariant (ap as_try (sym c.in_default-whole.is) ∙ c.whole.ensures)

pub returns-in_default : goal.returns-in_default
returns-in_default g c =
    sym (stand-none g.met.V.Word.laws (format_of g.V.Value.KIND) (as_pair c.args.scale.now.pair) _ c.in_default.ensures.cases _ c.loop-value.invariant)

pub returns-in-Some-whole : goal.returns-in-Some-whole
returns-in-Some-whole g c =
    to_z-of_z w64 c.in-Some-whole.z (search rules)
    ∙ sym (stand-first g.met.V.Word.laws (format_of g.V.Value.KIND) (as_pair c.args.scale.now.pair) _ _ _ c.in-Some.ensures.cases.0 _ c.in-Some-whole.z c.loop-value.invariant (ap as_try (sym c.in-Some-whole.is) ∙ c.whole.ensures))
