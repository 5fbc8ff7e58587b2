-- `walk::Fields::unfilled` meets its contract. Assumes nothing.
use Rattle.std.proofs.Common.{ℤ, true, sym, ap, ◌∙◌, w64, to_z, of_z, to_z-of_z}
use Rattle.rules.specs.Coded.{format_of}
use Rattle.rules.specs.Examine.{unfilled}
use Rattle.inspect.specs.Seen.{mark_of}
use Rattle.inspect.specs.Looked.{of_fields, whole_at}
use Rattle.inspect.proofs.Conditions.{marked_if}
use Rattle.inspect.proofs.walk.Fields.unfilled.Goals as goal

pub returns-then-is_some : goal.returns-then-is_some
returns-then-is_some g c p listed lists xs =
    let d = c.args.stand_in in
    let z : ℤ = whole_at (format_of g.V.Value.KIND) (of_fields c.args.self.now p listed lists) c.args.i in
    c.unfilled.ensures 0 ∙ ap (λ (z : ℤ). unfilled (to_z w64 (of_z w64 d)) z (mark_of true 0)) (c.word_at.ensures p listed lists) ∙ ap (λ (d : ℤ). unfilled d z (mark_of true 0)) (to_z-of_z {w = w64} {z = d} c.ranges.stand_in) ∙ marked_if d z 0 xs c.args.index (sym c.is_some.ensures ∙ c.if-is_some.true)
