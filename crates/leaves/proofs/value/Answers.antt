-- A whole number that is found is held: it fits the kind's word, and so 64 bits too.
use Rattle.std.proofs.Common.{ℤ, sym, ap, subst, ◌∙◌, arith, to_z, of_z, w64}
use Rattle.std.specs.Float.{Format, binary32, binary64}
use mir.Val.{SFits}
use mir.ValLaws.{to_z-of_z}
use Rattle.leaves.proofs.value.Goals as goal
use Rattle.decimal.specs.Turn.{as_try}
use Rattle.rules.specs.Kind.{word}
use Rattle.rules.specs.Coded.{format_of, as_pair}
use Rattle.rules.proofs.Tries.{Held, tried-some}

wide : (fmt : Format) (z : ℤ) → Held fmt z → SFits w64 z
wide binary32 z h = record { sfits = omega (arith, h) }
wide binary64 z h = record { sfits = h }

again : (fmt : Format) (z : ℤ) → Held fmt z → SFits (word fmt) (to_z w64 (of_z w64 z))
again fmt z h = record { sfits = subst (Held fmt) (sym (to_z-of_z w64 z (wide fmt z h))) h }

pub from_signed-requires : goal.from_signed-requires
from_signed-requires g c =
    again (format_of g.V.Value.KIND) c.in-Some.z (tried-some (format_of g.V.Value.KIND) (as_pair c.scale_of-scale.result.pair) (g.V.Word.as_number c.args.v) _ (sym c.whole.ensures ∙ ap as_try c.in-Some.is)).1
