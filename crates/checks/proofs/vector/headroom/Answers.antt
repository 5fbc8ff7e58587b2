-- `vector::headroom` meets its contract: of a frame below the half of the words, and of one above. Assumes nothing.
use mathlib.Core.Path.{sym, ap, ◌∙◌}
use Prim.Native.Nat.{ℕ, ◌+◌, ◌-◌}
use native.Mathlib.Omega.{arith}
use lib.Dec.{ltb}
use Rattle.rules.specs.Kind.{word}
use Rattle.rules.proofs.Fields.{double}
use Rattle.rules.specs.Coded.{format_of}
use Rattle.checks.proofs.Sums.{room-low, room-high}
use Rattle.checks.proofs.vector.headroom.Goals as goal

pub overflow_sub-result-else-frame-half-3 : goal.overflow_sub-result-else-frame-half-3
overflow_sub-result-else-frame-half-3 c = omega (arith, c.half_range-half.ensures, double (word (format_of c.args.kind)))

pub overflow_add-result : goal.overflow_add-result
overflow_add-result c = omega (arith, c.half_range-half.ensures)

pub returns-then-frame-half : goal.returns-then-frame-half
returns-then-frame-half c = λ d.
    let h = c.half_range-half.ensures.0 in
    let a = c.args in
    room-low (word (format_of a.kind)) a.frame d (omega (arith, h)) ∙ ap (λ (x : ℕ). ltb (x - 1 - a.frame) d) (sym h)

pub returns-else-frame-half : goal.returns-else-frame-half
returns-else-frame-half c = λ d.
    let h = c.half_range-half.ensures.0 in
    let a = c.args in
    room-high (word (format_of a.kind)) a.frame d (omega (arith, h)) (omega arith) ∙ ap (λ (x : ℕ). ltb (x - 1 - (a.frame - x) + x) d) (sym h)
