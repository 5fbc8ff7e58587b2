-- `walk::Lists::listed_at` meets its contract. Assumes nothing.
use Rattle.std.proofs.Common.{Bool, [], ap, ◌∙◌}
use Rattle.std.specs.Bool.{then_some}
use Rattle.inspect.proofs.Steps.{some_pair}
use Rattle.inspect.proofs.Scans.{lists-room}
use Rattle.inspect.proofs.walk.Lists.listed_at.Goals as goal

pub is_next-requires : goal.is_next-requires
is_next-requires g c = let k = c.args.self.now in lists-room _ k.count _ [] k.bytes.now (k.laid some_pair 0 0)

pub returns : goal.returns
returns g c = c.then_some.ensures ∙ ap (λ (b : Bool). then_some b c.args.j) c.is_next.ensures
