-- `walk::Fields::check_frame` meets its contract. Assumes nothing.
use Rattle.std.proofs.Common.{[], ap, ◌∙◌}
use lib.Ieee.{size}
use Rattle.inspect.proofs.Steps.{some_pair, largest_fits}
use Rattle.inspect.proofs.Conditions.{no24_frame, no24_width, passes24}
use Rattle.inspect.proofs.walk.Fields.check_frame.Goals as goal

pub returns-then-signed-smallest : goal.returns-then-signed-smallest
returns-then-signed-smallest g c p listed lists =
    let k = c.args.self.now in
    let s = c.smallest in
    c.refuses.ensures ∙ no24_frame _ c.args.number k.count _ k.packed.now (k.laid p listed) lists c.signed.result s.result c.signed.type_inv s.type_inv c.signed.ensures (s.ensures p listed lists) c.if-signed-smallest.true

pub from_number-largest-requires : goal.from_number-largest-requires
from_number-largest-requires g c =
    let k = c.args.self.now in
    largest_fits _ k.count _ k.packed.now (k.laid some_pair 0) [] _ g.V.Word.BYTES (c.largest.ensures some_pair 0 []) g.met.V.Value.as_wide

pub returns-then-self-from : goal.returns-then-self-from
returns-then-self-from g c p listed lists =
    let k = c.args.self.now in
    let s = c.smallest in
    c.refuses-then-self-from.ensures
    ∙ no24_width _ c.args.number k.count _ k.packed.now (k.laid p listed) lists c.signed.result s.result c.signed.type_inv s.type_inv c.signed.ensures (s.ensures p listed lists) c.if-signed-smallest.false
    c.from.result (c.from.ensures ∙ c.width.ensures.is ∙ ap size (c.from_number-largest.ensures ∙ c.largest.ensures p listed lists)) c.if-self-from.true

pub returns : goal.returns
returns g c p listed lists =
    let k = c.args.self.now in
    let s = c.smallest in
    passes24 _ c.args.number k.count _ k.packed.now (k.laid p listed) lists c.signed.result s.result c.signed.type_inv s.type_inv c.signed.ensures (s.ensures p listed lists) c.if-signed-smallest.false
    c.from.result (c.from.ensures ∙ c.width.ensures.is ∙ ap size (c.from_number-largest.ensures ∙ c.largest.ensures p listed lists)) c.if-self-from.false
