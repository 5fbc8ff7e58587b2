-- `whole::whole` meets its contract: each test is one of the exception rule, and what passes them all is the whole number. Assumes nothing.
use Rattle.std.proofs.Common.{◌∙◌, sym}
use Rattle.rules.specs.Coded.{format_of}
use Rattle.decimal.proofs.Exceptions.{failed, word_under, no_nan, by_large, by_scaled, by_rounded, by_back, number_held, kept}
use Rattle.decimal.proofs.whole.whole.Goals as goal

pub returns-then-not-is_finite : goal.returns-then-not-is_finite
returns-then-not-is_finite g c = by_large (format_of g.V.Value.KIND) _ _ (failed _ _ _ c.is_finite.ensures.1 c.if-not-is_finite.true)

pub scaled-bits-requires : goal.scaled-bits-requires
scaled-bits-requires g c = no_nan (format_of g.V.Value.KIND) _ (c.is_finite.ensures.0 c.if-not-is_finite.false)

pub returns-then-not-is_within_limit : goal.returns-then-not-is_within_limit
returns-then-not-is_within_limit g c = by_scaled (format_of g.V.Value.KIND) _ _ _ c.scaled-bits.ensures (failed _ _ _ c.is_within_limit.ensures.1 c.if-not-is_within_limit.true)

pub returns-then-not-is_within_limit-2 : goal.returns-then-not-is_within_limit-2
returns-then-not-is_within_limit-2 g c =
    by_rounded (format_of g.V.Value.KIND) _ _ _ c.scaled-bits.ensures _ c.rounded-rounded.ensures (failed _ _ _ c.is_within_limit-2.ensures.1 c.if-not-is_within_limit-2.true)

pub from_signed-requires : goal.from_signed-requires
from_signed-requires g c =
    number_held (format_of g.V.Value.KIND) _ _ _ c.scaled-bits.ensures _ c.rounded-rounded.ensures
    (c.is_within_limit-2.ensures.0 c.if-not-is_within_limit-2.false) _ (record { sfits = c.truncated-number.type_inv }) c.truncated-number.ensures

pub returns-then-number : goal.returns-then-number
returns-then-number g c =
    by_back (format_of g.V.Value.KIND) _ _ _ c.scaled-bits.ensures _ c.rounded-rounded.ensures
    (c.is_within_limit-2.ensures.0 c.if-not-is_within_limit-2.false) _ (record { sfits = c.truncated-number.type_inv }) c.truncated-number.ensures
    _ _ c.from_signed.ensures c.back.ensures (λ e. c.if-number.true (c.number.ensures.is ∙ e ∙ sym c.number-2.ensures.is))

pub returns : goal.returns
returns g c =
    let n = c.number-2.ensures in
    kept (format_of g.V.Value.KIND) _ _ _ c.scaled-bits.ensures _ c.rounded-rounded.ensures
    (c.is_within_limit-2.ensures.0 c.if-not-is_within_limit-2.false) _ (record { sfits = c.truncated-number.type_inv }) c.truncated-number.ensures
    _ _ c.from_signed.ensures c.back.ensures
    c.args.scale.now.powers.allowed (word_under (format_of g.V.Value.KIND) _ _ g.met.V.Value.as_wide (rw (sym n.is) n.fits))
    (c.is_finite.ensures.0 c.if-not-is_finite.false) (c.is_within_limit.ensures.0 c.if-not-is_within_limit.false)
    (sym c.number.ensures.is ∙ c.if-number.false ∙ n.is)
