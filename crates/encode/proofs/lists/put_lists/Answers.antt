-- `lists::put_lists` meets its contract. Assumes nothing.
use Rattle.rules.specs.Coded.{format_of}
use Rattle.encode.proofs.Steps.{word_at, words-end}
use Rattle.encode.proofs.Listed.{listed-is, positions-next, positions-none, patterns-next, patterns-none, listing_start, listing_room, listing_next, listing_end}
use Rattle.encode.proofs.lists.put_lists.Goals as goal

pub loop-position-init : goal.loop-position-init
loop-position-init g c = (listing_start _ _ c.requires.room, listing_start _ _ c.requires.patterns_room)

pub put_entry-at-requires : goal.put_entry-at-requires
put_entry-at-requires g c =
    let l = c.loop-position in
    let x = c.index-values-position in
    let a = word_at g.met.V.Word.laws c.args.values.now l.position x.result c.loop-position-test.true x.is in
    let e = listed-is (format_of g.V.Value.KIND) _ _ c.whole.result c.is_none-listed.result c.whole.ensures c.is_none-listed.ensures in
    listing_room l.invariant.0 _ (positions-next (format_of g.V.Value.KIND) _ _ l.position _ a _ e)

pub put_entry-to-requires : goal.put_entry-to-requires
put_entry-to-requires g c =
    let l = c.loop-position in
    let x = c.index-values-position in
    let a = word_at g.met.V.Word.laws c.args.values.now l.position x.result c.loop-position-test.true x.is in
    let e = listed-is (format_of g.V.Value.KIND) _ _ c.whole.result c.is_none-listed.result c.whole.ensures c.is_none-listed.ensures in
    listing_room l.invariant.1 _ (patterns-next (format_of g.V.Value.KIND) _ _ l.position _ a _ e g.V.Word.BYTES)

pub loop-position-preserved : goal.loop-position-preserved
loop-position-preserved g c =
    let l = c.loop-position in
    let x = c.index-values-position in
    let u = c.put_entry-at in
    let v = c.put_entry-to in
    let a = word_at g.met.V.Word.laws c.args.values.now l.position x.result c.loop-position-test.true x.is in
    let e = listed-is (format_of g.V.Value.KIND) _ _ c.whole.result c.is_none-listed.result c.whole.ensures c.is_none-listed.ensures in (
      listing_next l.invariant.0 _ (positions-next (format_of g.V.Value.KIND) _ _ l.position _ a _ e) u.new.out u.result u.ensures.reach u.ensures.put,
      listing_next l.invariant.1 _ (patterns-next (format_of g.V.Value.KIND) _ _ l.position _ a _ e g.V.Word.BYTES) v.new.out v.result v.ensures.reach v.ensures.put,
    )

pub returns-clause-positions : goal.returns-clause-positions
returns-clause-positions g c =
    let l = c.loop-position in
    listing_end l.invariant.0 (positions-none (format_of g.V.Value.KIND) _ _ l.position (words-end g.met.V.Word.laws c.args.values.now l.position c.loop-position-test.false))

pub returns-clause-patterns : goal.returns-clause-patterns
returns-clause-patterns g c =
    let l = c.loop-position in
    listing_end l.invariant.1 (patterns-none (format_of g.V.Value.KIND) _ _ l.position (words-end g.met.V.Word.laws c.args.values.now l.position c.loop-position-test.false) g.V.Word.BYTES)
