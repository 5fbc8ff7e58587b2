-- `scan::Seen::of` meets its contract. Assumes nothing.
use mathlib.Core.Path.{ap, ◌∙◌}
use Rattle.rules.specs.Coded.{format_of, as_pair}
use Rattle.rules.specs.Vector.{tries}
use Rattle.encode.specs.Seen.{Seen, see_more}
use Rattle.encode.proofs.Record.{seen_first}
use Rattle.encode.proofs.scan.Seen.of.Goals as goal

pub returns : goal.returns
returns g c =
    let ts = tries (format_of g.V.Value.KIND) (as_pair c.args.scale.now.pair) (g.V.Word.as_numbers c.args.values.now) in
    c.with_more.ensures ∙ ap (λ (s : Seen). see_more s ts) c.new.ensures ∙ seen_first ts
