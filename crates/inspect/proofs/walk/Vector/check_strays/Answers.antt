-- `walk::Vector::check_strays` meets its contract: the two parts are of one vector. Assumes nothing.
use Rattle.std.proofs.Common.{◌≡◌, ℕ, ◌<◌, ap, sym, subst, rules, ◌∙◌}
use Rattle.rules.specs.Coded.{format_of, as_pair}
use Rattle.rules.specs.Vector.{Raw}
use Rattle.rules.specs.Verdict.{verdict}
use Rattle.rules.specs.Examine.{strays}
use Rattle.inspect.specs.Seen.{mark_at, position_rows}
use Rattle.inspect.specs.Looked.{raw_of, whole_at}
use Rattle.inspect.proofs.Parts.{one-vector}
use Rattle.inspect.proofs.walk.Vector.check_strays.Goals as goal

pub returns : goal.returns
returns g c =
    let k = c.args.self.now in
    let r = raw_of k in
    let fmt = format_of g.V.Value.KIND in
    let p = as_pair k.scale.pair in
    let one = one-vector k.fields k.lists p k.one_count in
    c.check_each.ensures p (g.V.Word.as_number k.fields.frame) k.fields.width k.fields.packed.now (strays fmt p) (λ i index b more inside found.
    let here : i < k.fields.count = subst (λ (n : ℕ). i < n) (sym k.one_count) more in
    let is : b ≡ strays fmt p (whole_at fmt r i) (mark_at r.exceptions index) = search (rules, here, inside, found) in
    is ∙ ap (λ (r : Raw). strays fmt p (whole_at fmt r i) (mark_at r.exceptions index)) (sym one))
    ∙ ap (λ (r : Raw). verdict (position_rows fmt 21 k.number (strays fmt p) r)) one
