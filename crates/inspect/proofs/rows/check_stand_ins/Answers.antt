-- `rows::check_stand_ins` meets its contract: the two parts are of one vector. Assumes nothing.
use Rattle.std.proofs.Common.{◌≡◌, ℕ, ◌<◌, ℤ, ap, sym, subst, rules, ◌∙◌}
use Rattle.rules.specs.Coded.{format_of}
use Rattle.rules.specs.Vector.{Raw}
use Rattle.rules.specs.Verdict.{verdict}
use Rattle.rules.specs.Examine.{unfilled}
use Rattle.inspect.specs.Seen.{mark_at, position_rows}
use Rattle.inspect.specs.Looked.{of_both, whole_at}
use Rattle.inspect.proofs.Parts.{one-vector}
use Rattle.inspect.proofs.rows.check_stand_ins.Goals as goal

pub returns : goal.returns
returns g c p =
    let f = c.args.fields.now in
    let l = c.args.lists.now in
    let r = of_both f l p in
    let fmt = format_of g.V.Value.KIND in
    let d = c.stand_in-stand_in.result in
    let one = one-vector f l p c.requires in
    c.check_each.ensures p (g.V.Word.as_number f.frame) f.width f.packed.now (unfilled d) (λ i index b more inside found.
    let here : i < f.count = subst (λ (n : ℕ). i < n) (sym c.requires) more in
    let is : b ≡ unfilled d (whole_at fmt r i) (mark_at r.exceptions index) = search (rules, here, inside, found) in
    is ∙ ap (λ (r : Raw). unfilled d (whole_at fmt r i) (mark_at r.exceptions index)) (sym one))
    ∙ ap (λ (r : Raw). verdict (position_rows fmt 23 c.args.number (unfilled d) r)) one
    ∙ ap (λ (z : ℤ). verdict (position_rows fmt 23 c.args.number (unfilled z) r)) (c.stand_in-stand_in.ensures p)
