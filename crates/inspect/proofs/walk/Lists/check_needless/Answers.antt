-- `walk::Lists::check_needless` meets its contract. Assumes nothing.
use Rattle.std.proofs.Common.{◌≡◌, pos, rules, ◌∙◌}
use Rattle.rules.specs.Coded.{format_of, as_pair}
use Rattle.rules.specs.Examine.{needless}
use Rattle.inspect.specs.Seen.{mark_at}
use Rattle.inspect.specs.Looked.{of_lists, values_in, whole_at}
use Rattle.inspect.proofs.Conditions.{needless_any}
use Rattle.inspect.proofs.walk.Lists.check_needless.Goals as goal

pub returns : goal.returns
returns g c p frame width packed =
    let fmt = format_of g.V.Value.KIND in
    let q = as_pair c.args.scale.now.pair in
    let r = of_lists c.args.self.now p frame width packed in
    c.check_each.ensures p frame width packed (needless fmt q) (λ i index b more inside found.
    let mark = mark_at (values_in c.args.self.now) index in
    let is : b ≡ needless fmt q (pos 0) mark = search (rules, inside, found) in
    is ∙ needless_any fmt q (pos 0) (whole_at fmt r i) mark)
