-- `rows::stand_in` meets its contract: `Seeking` says that every position so far is listed. Assumes nothing.
use Rattle.std.proofs.Common.{ℕ, [], arith, sym, subst, ◌∙◌, w64, to_z-of_z}
use Rattle.inspect.specs.Seen.{described, ListsLaid}
use Rattle.inspect.specs.Looked.{of_both}
use Rattle.inspect.proofs.Steps.{some_pair}
use Rattle.inspect.proofs.Scans.{seen_start, lists-room, seek_start, seek_end, seek_found, seek_next}
use Rattle.inspect.proofs.rows.stand_in.Goals as goal

pub loop-i-init : goal.loop-i-init
loop-i-init g c =
    let f = c.args.fields.now in
    let l = c.args.lists.now in
    let frame = g.V.Word.as_number f.frame in
    (omega arith, λ p. seek_start _ (of_both f l p) (seen_start _ f.count _ f.packed.now l.bytes.now (subst (λ (n : ℕ). ListsLaid _ n (described p l.listed frame f.width) l.bytes.now) (sym c.requires) (l.laid p frame f.width))))

pub is_next-requires : goal.is_next-requires
is_next-requires g c = let l = c.args.lists.now in lists-room _ l.count _ [] l.bytes.now (l.laid some_pair 0 0)

pub loop-i-preserved : goal.loop-i-preserved
loop-i-preserved g c = let i = c.loop-i.i in (omega arith, λ p. seek_next _ (of_both c.args.fields.now c.args.lists.now p) i (c.loop-i.invariant.1 p) c.if-fields-i.false c.is_next.result c.is_next.ensures c.if-not-is_next.false)

pub returns-then-fields-i : goal.returns-then-fields-i
returns-then-fields-i g c p = seek_end _ (of_both c.args.fields.now c.args.lists.now p) c.loop-i.i (c.loop-i.invariant.1 p) c.if-fields-i.true

pub returns-then-not-is_next : goal.returns-then-not-is_next
returns-then-not-is_next g c p =
    let l = c.args.lists.now in
    let s = c.signed-stand_in in
    to_z-of_z {w = w64} {z = s.result} (record { sfits = s.type_inv }) ∙ s.ensures ∙ c.word_at.ensures p l.listed l.bytes.now
    ∙ seek_found _ (of_both c.args.fields.now l p) c.loop-i.i (c.loop-i.invariant.1 p) c.if-fields-i.false c.is_next.result c.is_next.ensures c.if-not-is_next.true
