-- `scan::Seen::with_more` meets its contract. Assumes nothing.
use mathlib.Core.Path.{refl, ◌≡◌, sym, ap, ◌∙◌}
use Prim.Native.Nat.{◌+◌}
use native.Mathlib.Omega.{arith}
use lib.ListN.{drop}
use Rattle.rules.specs.Coded.{format_of, as_pair}
use Rattle.rules.specs.Decimal.{tried}
use Rattle.rules.specs.Vector.{tries, the_stand_in}
use Rattle.encode.specs.Seen.{Seen, as_seen, see, see_all}
use Rattle.encode.proofs.OneMore.{see-counts, begun-counts}
use Rattle.encode.proofs.Steps.{word_at, words-end, see-next, see-end}
use Rattle.encode.proofs.scan.Seen.with_more.Goals as goal

pub loop-value-init : goal.loop-value-init
loop-value-init g c =
    let s = c.args.self in
    let P = c.requires in
    let b = c.begun-seen in
    let k = begun-counts (as_seen s) (the_stand_in (tries (format_of g.V.Value.KIND) (as_pair c.args.scale.now.pair) (g.V.Word.as_numbers c.args.values.now))) in
    let n : b.result.count ≡ s.count = ap (λ (x : Seen). x.count) b.ensures ∙ k.0 in
    let m : b.result.listed ≡ s.listed = ap (λ (x : Seen). x.listed) b.ensures ∙ k.1 in
    (omega (arith, n, m, P.0), omega (arith, n, P.1), refl)

pub with-seen-requires : goal.with-seen-requires
with-seen-requires g c =
    let l = c.loop-value in
    (l.invariant.0, omega (arith, l.invariant.1, c.loop-value-test.true))

pub loop-value-preserved : goal.loop-value-preserved
loop-value-preserved g c =
    let l = c.loop-value in
    let fmt = format_of g.V.Value.KIND in
    let q = as_pair c.args.scale.now.pair in
    let vs = g.V.Word.as_numbers c.args.values.now in
    let v = g.V.Word.as_number c.value-item.result in
    let a = word_at g.met.V.Word.laws c.args.values.now l.value-index c.value-item.result c.loop-value-test.true c.value-item.is in
    let e : as_seen c.with-seen.result ≡ see (as_seen l.seen) (tried fmt q v) = c.with-seen.ensures ∙ ap (see (as_seen l.seen)) c.whole.ensures in
    let k = see-counts (as_seen l.seen) (tried fmt q v) in
    let n : c.with-seen.result.count ≡ l.seen.count + 1 = ap (λ (x : Seen). x.count) e ∙ k.0 in
    let m : c.with-seen.result.listed ≡ (see (as_seen l.seen) (tried fmt q v)).listed = ap (λ (x : Seen). x.listed) e in (
      omega (arith, n, m, k.1, l.invariant.0),
      omega (arith, n, l.invariant.1),
      ap (λ (x : Seen). see_all x (tries fmt q (drop (l.value-index + 1) vs))) e ∙ see-next fmt q vs l.value-index v a (as_seen l.seen) ∙ l.invariant.2,
    )

pub returns : goal.returns
returns g c =
    let l = c.loop-value in
    let fmt = format_of g.V.Value.KIND in
    let q = as_pair c.args.scale.now.pair in
    let vs = g.V.Word.as_numbers c.args.values.now in
    sym (see-end fmt q vs l.value-index (as_seen l.seen) (words-end g.met.V.Word.laws c.args.values.now l.value-index c.loop-value-test.false))
    ∙ l.invariant.2 ∙ ap (λ (x : Seen). see_all x (tries fmt q vs)) c.begun-seen.ensures
