-- `runs::nine_each` meets its contract: all 64 bits are right, so a field is. Assumes nothing.
use Rattle.std.proofs.Common.{◌≡◌, ◌∙◌, ap, ◌%◌, ◌^◌, ◌/◌, ◌*◌, ℕ, rules}
use Rattle.digits.specs.Digits.{number}
use Rattle.digits.proofs.Windows.{mod_low}
use Rattle.bits.proofs.runs.nine_each.Goals as goal

pub returns : goal.returns
returns g c =
    let a = c.args in
    let w = a.width in
    c.each.ensures a.packed.now (λ i r h given.
    let bits = number a.packed.now / 2 ^ (w * i) in
    let known : r ≡ bits % 2 ^ 64 = search rules in
    ap (λ (y : ℕ). y % 2 ^ w) known ∙ mod_low bits 64 w c.requires.0)
