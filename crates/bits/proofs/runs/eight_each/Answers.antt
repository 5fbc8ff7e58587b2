-- `runs::eight_each` meets its contract: 57 bits are right, so a field is. Assumes nothing.
use Rattle.std.proofs.Common.{◌≡◌, ◌∙◌, sym, ap, ◌%◌, ◌^◌, ◌/◌, ◌*◌, ℕ, rules}
use Rattle.digits.specs.Digits.{number}
use Rattle.digits.proofs.Windows.{mod_low}
use Rattle.bits.proofs.runs.eight_each.Goals as goal

pub returns : goal.returns
returns g c =
    let a = c.args in
    let w = a.width in
    c.each.ensures a.packed.now (λ i r h given.
    let bits = number a.packed.now / 2 ^ (w * i) in
    let known : r % 2 ^ 57 ≡ bits % 2 ^ 57 = search rules in
    sym (mod_low r 57 w c.requires.0) ∙ ap (λ (y : ℕ). y % 2 ^ w) known ∙ mod_low bits 57 w c.requires.0)
