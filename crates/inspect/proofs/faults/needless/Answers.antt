-- `faults::needless` meets its contract: exactly the values without a whole number are exceptions. Assumes nothing.
use Rattle.std.proofs.Common.{ℕ, ◌+◌, ◌*◌, Bool, drop, get_or, sym, refl, ap, ◌∙◌}
use Rattle.digits.specs.Digits.{numbers}
use Rattle.rules.specs.Coded.{format_of, as_pair}
use Rattle.rules.specs.Examine.{needless}
use Rattle.inspect.specs.Seen.{mark_of}
use Rattle.inspect.proofs.Conditions.{whole_kept, value-is}
use Rattle.inspect.proofs.faults.needless.Goals as goal

pub returns : goal.returns
returns g c z =
    let a = c.args in
    let wide = g.V.Word.BYTES in
    let listed = c.if-not-listed.false in
    let x : ℕ = get_or (numbers wide a.many (drop (a.many * 2) a.lists.now)) a.j 0 in
    c.is_some.ensures
    ∙ whole_kept _ _ (g.V.Word.as_number c.read-value.result) x (value-is wide wide a.many a.j a.lists.now _ _ refl (c.requires.2 listed) (ap (λ (n : ℕ). 2 * a.many + n * a.j) c.BYTES.ensures) c.read-value.ensures) c.whole.result c.whole.ensures
    ∙ ap (λ (b : Bool). needless (format_of g.V.Value.KIND) (as_pair a.scale.now.pair) z (mark_of b x)) (sym listed)
