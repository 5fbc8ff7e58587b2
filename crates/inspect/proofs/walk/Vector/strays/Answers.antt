-- `walk::Vector::strays` meets its contract. Assumes nothing.
use Rattle.std.proofs.Common.{ℤ, ap₂, sym, ◌∙◌}
use mathlib.Core.Option.{Option}
use Rattle.std.proofs.Common.{ℕ}
use Rattle.rules.specs.Coded.{format_of, as_pair}
use Rattle.rules.specs.Examine.{strays}
use Rattle.inspect.specs.Looked.{raw_of}
use Rattle.inspect.proofs.Conditions.{unmarked_if}
use Rattle.inspect.proofs.walk.Vector.strays.Goals as goal

pub returns : goal.returns
returns g c =
    let k = c.args.self.now in
    let p = as_pair k.scale.pair in
    c.strays.ensures 0
    ∙ ap₂ (λ (z : ℤ) (m : Option ℕ). strays (format_of g.V.Value.KIND) p z m) (c.word_at.ensures p k.lists.listed k.lists.bytes.now) (unmarked_if 0 (raw_of k).exceptions c.args.index (sym c.is_some.ensures ∙ c.if-is_some.false))
