-- `trial::trial` meets its contract. Assumes nothing.
use mathlib.Core.Path.{◌≡◌, sym, ap, ◌∙◌, subst}
use Prim.Native.Nat.{◌<◌}
use native.Mathlib.Omega.{arith}
use lib.ListN.{length, get_or}
use Rattle.bits.proofs.WordLists.{length-numbers, get-numbers}
use Rattle.rules.specs.Coded.{format_of, as_pair}
use Rattle.rules.specs.Decimal.{tried}
use Rattle.decimal.specs.Turn.{as_try}
use Rattle.encode.specs.Seen.{as_seen}
use Rattle.chooser.proofs.Looking.{Looked, look_start, look_count, look_kept, look_next, look_left, look_end}
use Rattle.chooser.proofs.trial.trial.Goals as goal

pub loop-value-init : goal.loop-value-init
loop-value-init g c =
    let fmt = format_of g.V.Value.KIND in
    let a = c.args in
    let vs = g.V.Word.as_numbers a.values.now in
    subst (Looked fmt (as_pair a.scale.now.pair) vs 0) (sym c.new-seen.ensures) (look_start fmt (as_pair a.scale.now.pair) vs)

pub at_least-requires : goal.at_least-requires
at_least-requires g c =
    let l = c.loop-value in
    let n = length-numbers g.met.V.Word.laws c.args.values.now in
    let k = look_count _ _ _ _ _ l.invariant in
    (look_kept _ _ _ _ _ l.invariant (omega (arith, n, c.requires)), omega (arith, k, n, l.invariant.within), c.requires)

pub returns-then-best-at_least : goal.returns-then-best-at_least
returns-then-best-at_least g c =
    let l = c.loop-value in
    let n = length-numbers g.met.V.Word.laws c.args.values.now in
    look_left _ _ _ _ _ l.invariant c.args.best c.at_least.result (rw n c.at_least.ensures) (omega (arith, c.if-best-at_least.true))

pub with_next-seen-requires : goal.with_next-seen-requires
with_next-seen-requires g c =
    let n = length-numbers g.met.V.Word.laws c.args.values.now in
    let k = look_kept _ _ _ _ _ c.loop-value.invariant (omega (arith, n, c.requires)) in
    (k.few, k.short)

pub loop-value-preserved : goal.loop-value-preserved
loop-value-preserved g c =
    let fmt = format_of g.V.Value.KIND in
    let l = c.loop-value in
    let a = c.args in
    let p = as_pair a.scale.now.pair in
    let vs = g.V.Word.as_numbers a.values.now in
    let n = length-numbers g.met.V.Word.laws a.values.now in
    let more : l.value-index < length a.values.now = omega (arith, c.loop-value-test.true) in
    let value : g.V.Word.as_number c.value-item.result ≡ get_or vs l.value-index 0 = ap g.V.Word.as_number c.value-item.is ∙ sym (get-numbers g.met.V.Word.laws a.values.now l.value-index c.value-item.result 0 more) in
    look_next fmt p vs l.value-index (as_seen l.seen) l.invariant (omega (arith, n, more)) (as_try c.whole.result) (as_seen c.with_next-seen.result) (c.whole.ensures ∙ ap (tried fmt p) value) c.with_next-seen.ensures

pub vector_size-requires : goal.vector_size-requires
vector_size-requires g c =
    let n = length-numbers g.met.V.Word.laws c.args.values.now in
    look_kept _ _ _ _ _ c.loop-value.invariant (omega (arith, n, c.requires))

pub returns : goal.returns
returns g c =
    let n = length-numbers g.met.V.Word.laws c.args.values.now in
    look_end _ _ _ _ _ c.loop-value.invariant (omega (arith, n, c.loop-value-test.false)) c.args.best c.vector_size.result c.vector_size.ensures
