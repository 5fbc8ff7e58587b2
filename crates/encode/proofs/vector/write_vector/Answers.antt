-- `vector::write_vector` meets its contract: metadata, fields and lists are put one behind the other. Assumes nothing.
use Rattle.std.proofs.Common.{rules, ◌≡◌, refl, sym, ap, ap₂, ◌∙◌, arith, ◌+◌, ◌-◌, ◌++◌, w64, ℕ, SFits, subst}
use borrow.Rule.Slice.PartMut.{put_mid}
use mir.Val.{of_z}
use mir.ValLaws.{to_z-of_z}
use Rattle.bits.proofs.WordLists.{length-numbers}
use Rattle.digits.specs.Digits.{packed_size}
use Rattle.digits.specs.Lists.{over}
use Rattle.rules.specs.Kind.{word}
use Rattle.rules.specs.Coded.{format_of, as_pair}
use Rattle.encode.specs.Seen.{as_seen, Kept}
use Rattle.encode.proofs.Whole.{kept_is, listed-is, width_is, vector-long, smallest-held, meta_part, packed_part, meta_room, meta_put, packed-end, packed-room, packed-put, lists-end, vector-put}
use Rattle.encode.proofs.vector.write_vector.Goals as goal
use Rattle.encode.proofs.vector.write_vector.Goals.{After-from_signed-frame, After-put_meta, After-put_fields}

-- what the record keeps
kept : (g : _) (c : After-from_signed-frame g) → Kept (format_of g.V.Value.KIND) (as_seen c.args.seen)
kept g c =
    let n = length-numbers g.met.V.Word.laws c.args.values.now in
    kept_is (format_of g.V.Value.KIND) _ _ (as_seen c.args.seen) c.requires.scanned (omega (arith, n, c.requires.short))

-- the metadata stands in front
meta-there : (g : _) (c : After-put_meta g)
    → c.put_meta.new.out ≡ over (meta_part (format_of g.V.Value.KIND) (as_pair c.args.scale.now.pair) (g.V.Word.as_numbers c.args.values.now) (as_seen c.args.seen) c.requires.scanned) c.args.out.now
meta-there g c =
    let fmt = format_of g.V.Value.KIND in
    let s = as_seen c.args.seen in
    let f = c.from_signed-frame in
    let w = c.width-width in
    let word' = f.ensures ∙ ap (of_z (word fmt)) (to_z-of_z w64 s.smallest (search rules)) in
    meta_put fmt _ _ s c.requires.scanned c.args.out.now c.requires.room s.listed _ w.result c.put_meta.new.out refl word' w.ensures.0 c.put_meta.ensures

-- and behind it the packed fields
packed-there : (g : _) (c : After-put_fields g)
    → c.put_meta.new.out ≡ over (meta_part (format_of g.V.Value.KIND) (as_pair c.args.scale.now.pair) (g.V.Word.as_numbers c.args.values.now) (as_seen c.args.seen) c.requires.scanned) c.args.out.now
    → let fmt = format_of g.V.Value.KIND in
    let p = as_pair c.args.scale.now.pair in
    let vs = g.V.Word.as_numbers c.args.values.now in
    let s = as_seen c.args.seen in
    let front = 5 + c.BYTES-front.result in
    put_mid front (c.packed_end-at.result - front) c.put_meta.new.out c.put_fields.new.out ≡ over (meta_part fmt p vs s c.requires.scanned ++ packed_part fmt p vs s c.requires.scanned) c.args.out.now
packed-there g c meta =
    let fmt = format_of g.V.Value.KIND in
    let e = c.packed_end-at in
    let w = c.width-width in
    let front = ap (λ (k : ℕ). 5 + k) (c.BYTES-front.ensures ∙ g.met.V.Value.as_wide) in
    packed-put fmt _ _ (as_seen c.args.seen) c.requires.scanned c.args.out.now c.requires.room e.result e.ensures.0 c.put_meta.new.out meta _ front c.put_fields.new.out w.result w.ensures.0 c.put_fields.ensures

pub from_signed-frame-requires : goal.from_signed-frame-requires
from_signed-frame-requires g c =
    let fmt = format_of g.V.Value.KIND in
    let s = as_seen c.args.seen in
    subst (SFits (word fmt)) (sym (to_z-of_z w64 s.smallest (search rules))) (smallest-held fmt _ _ s c.requires.scanned)

pub width-width-requires : goal.width-width-requires
width-width-requires g c = kept g (goal.at.width-width-requires g c).After-from_signed-frame

pub overflow_cast-seen : goal.overflow_cast-seen
overflow_cast-seen g c = let k = kept g (goal.at.overflow_cast-seen g c).After-from_signed-frame in omega (arith, k.few, k.short)

pub put_meta-requires : goal.put_meta-requires
put_meta-requires g c = meta_room (format_of g.V.Value.KIND) _ _ _ c.requires.scanned _ c.requires.room

pub packed_end-at-requires : goal.packed_end-at-requires
packed_end-at-requires g c = kept g (goal.at.packed_end-at-requires g c).After-from_signed-frame

pub slice_bounds-put_fields-end : goal.slice_bounds-put_fields-end
slice_bounds-put_fields-end g c =
    let e = c.packed_end-at in
    let meta = meta-there g (goal.at.slice_bounds-put_fields-end g c).After-put_meta in
    packed-end (format_of g.V.Value.KIND) _ _ (as_seen c.args.seen) c.requires.scanned c.args.out.now c.requires.room e.result e.ensures.0 c.put_meta.new.out meta

pub put_fields-requires-clause-fits : goal.put_fields-requires-clause-fits
put_fields-requires-clause-fits g c = c.width-width.ensures.0 ∙ width_is (format_of g.V.Value.KIND) _ _ (as_seen c.args.seen) c.requires.scanned

pub put_fields-requires-clause-room : goal.put_fields-requires-clause-room
put_fields-requires-clause-room g c =
    let e = c.packed_end-at in
    let n = length-numbers g.met.V.Word.laws c.args.values.now in
    let front = ap (λ (k : ℕ). 5 + k) (c.BYTES-front.ensures ∙ g.met.V.Value.as_wide) in
    let meta = meta-there g (goal.at.put_fields-requires-clause-room g c).After-put_meta in
    packed-room (format_of g.V.Value.KIND) _ _ (as_seen c.args.seen) c.requires.scanned c.args.out.now c.requires.room e.result e.ensures.0 c.put_meta.new.out meta _ front
    ∙ ap₂ packed_size n (sym c.width-width.ensures.0)

pub vector_size-end-requires : goal.vector_size-end-requires
vector_size-end-requires g c = kept g (goal.at.vector_size-end-requires g c).After-from_signed-frame

pub slice_bounds-put_exceptions-end : goal.slice_bounds-put_exceptions-end
slice_bounds-put_exceptions-end g c =
    let e = c.packed_end-at in
    let z = c.vector_size-end in
    let at = goal.at.slice_bounds-put_exceptions-end g c in
    lists-end (format_of g.V.Value.KIND) _ _ (as_seen c.args.seen) c.requires.scanned c.args.out.now c.requires.room e.result e.ensures.0 z.result z.ensures _ (packed-there g at.After-put_fields (meta-there g at.After-put_meta))

pub put_exceptions-requires-clause-counted : goal.put_exceptions-requires-clause-counted
put_exceptions-requires-clause-counted g c = listed-is (format_of g.V.Value.KIND) _ _ (as_seen c.args.seen) c.requires.scanned

pub returns-clause-size : goal.returns-clause-size
returns-clause-size g c = c.vector_size-end.ensures ∙ vector-long (format_of g.V.Value.KIND) _ _ (as_seen c.args.seen) c.requires.scanned

pub returns-clause-bytes : goal.returns-clause-bytes
returns-clause-bytes g c =
    let e = c.packed_end-at in
    let z = c.vector_size-end in
    let u = c.put_exceptions in
    let at = goal.at.returns-clause-bytes g c in
    let packed = packed-there g at.After-put_fields (meta-there g at.After-put_meta) in
    vector-put (format_of g.V.Value.KIND) _ _ (as_seen c.args.seen) c.requires.scanned c.args.out.now c.requires.room e.result e.ensures.0 z.result z.ensures _ packed g.V.Word.BYTES g.met.V.Value.as_wide u.new.out u.ensures
