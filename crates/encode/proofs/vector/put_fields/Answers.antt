-- `vector::put_fields` meets its contract. Assumes nothing.
use Rattle.std.proofs.Common.{rules, ◌≡◌, ◌∙◌, ap, sym, arith, get_or}
use Rattle.bits.proofs.WordLists.{length-numbers}
use Rattle.digits.specs.Digits.{packed_size}
use Rattle.rules.specs.Coded.{format_of, as_pair}
use Rattle.encode.specs.Vectors.{fields_in}
use Rattle.encode.specs.Seen.{as_seen}
use Rattle.encode.proofs.Steps.{word_at, words-end}
use Rattle.encode.proofs.Packed.{field_asks, field_gives, fields-start, start_small, put_asks, put_gives, fields-end}
use Rattle.encode.proofs.Whole.{stand-is, smallest-is}
use Rattle.encode.proofs.vector.put_fields.Goals as goal

pub loop-value-init : goal.loop-value-init
loop-value-init g c =
    let P = c.requires in
    let n = length-numbers g.met.V.Word.laws c.args.values.now in
    fields-start (format_of g.V.Value.KIND) _ _ c.args.width P.fits _ _ (P.room ∙ ap (λ k. packed_size k c.args.width) (sym n)) c.clear.ensures

pub field-requires : goal.field-requires
field-requires g c =
    let fmt = format_of g.V.Value.KIND in
    let s = c.args.seen in
    let P = c.requires in
    let o = c.unwrap_or-number in
    let a = word_at g.met.V.Word.laws c.args.values.now c.loop-value.value-index c.value-item.result c.loop-value-test.true c.value-item.is in
    field_asks fmt _ _ c.loop-value.value-index _ a s.stand_in s.smallest o.result c.whole.result (stand-is fmt _ _ (as_seen s) P.scanned) (smallest-is fmt _ _ (as_seen s) P.scanned) c.whole.ensures o.ensures
    (search rules) (search rules) (record { sfits = o.type_inv })

pub put-requires : goal.put-requires
put-requires g c =
    let fmt = format_of g.V.Value.KIND in
    let l = c.loop-value in
    let s = c.args.seen in
    let P = c.requires in
    let o = c.unwrap_or-number in
    let a = word_at g.met.V.Word.laws c.args.values.now l.value-index c.value-item.result c.loop-value-test.true c.value-item.is in
    -- the field that a turn gets is the rules'
    let field : c.field.result ≡ get_or (fields_in fmt (as_pair c.args.scale.now.pair) (g.V.Word.as_numbers c.args.values.now)) l.value-index 0 =
    field_gives fmt _ _ l.value-index _ a s.stand_in s.smallest o.result c.whole.result (stand-is fmt _ _ (as_seen s) P.scanned) (smallest-is fmt _ _ (as_seen s) P.scanned) c.whole.ensures o.ensures
    (search rules) (search rules) (record { sfits = o.type_inv }) c.field.result c.field.ensures in
    put_asks fmt _ _ c.args.width P.fits l.value-index l.start l.out l.invariant a.inside c.field.result field

pub overflow_add-start : goal.overflow_add-start
overflow_add-start g c =
    let l = c.loop-value in
    let P = c.requires in
    let n = length-numbers g.met.V.Word.laws c.args.values.now in
    let a = word_at g.met.V.Word.laws c.args.values.now l.value-index c.value-item.result c.loop-value-test.true c.value-item.is in
    let h = start_small (format_of g.V.Value.KIND) _ _ c.args.width P.fits l.value-index l.start l.out l.invariant a.inside (omega (arith, n, P.short)) in
    omega (arith, h)

pub loop-value-preserved : goal.loop-value-preserved
loop-value-preserved g c =
    let fmt = format_of g.V.Value.KIND in
    let l = c.loop-value in
    let s = c.args.seen in
    let P = c.requires in
    let o = c.unwrap_or-number in
    let a = word_at g.met.V.Word.laws c.args.values.now l.value-index c.value-item.result c.loop-value-test.true c.value-item.is in
    let field : c.field.result ≡ get_or (fields_in fmt (as_pair c.args.scale.now.pair) (g.V.Word.as_numbers c.args.values.now)) l.value-index 0 =
    field_gives fmt _ _ l.value-index _ a s.stand_in s.smallest o.result c.whole.result (stand-is fmt _ _ (as_seen s) P.scanned) (smallest-is fmt _ _ (as_seen s) P.scanned) c.whole.ensures o.ensures
    (search rules) (search rules) (record { sfits = o.type_inv }) c.field.result c.field.ensures in
    put_gives fmt _ _ c.args.width P.fits l.value-index l.start l.out l.invariant a.inside c.field.result field _ (λ i. (c.type_inv.out i).fits) c.put.auto.out c.put.ensures

pub returns : goal.returns
returns g c =
    let l = c.loop-value in
    fields-end (format_of g.V.Value.KIND) _ _ c.args.width c.requires.fits l.value-index l.start l.out l.invariant (words-end g.met.V.Word.laws c.args.values.now l.value-index c.loop-value-test.false)
