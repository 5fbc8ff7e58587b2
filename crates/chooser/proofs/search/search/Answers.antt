-- `search::search` meets its contract. Assumes nothing.
use mathlib.Core.Path.{◌≡◌, ap, ◌∙◌}
use native.Mathlib.Omega.{arith}
use Rattle.bits.proofs.WordLists.{length-numbers}
use Rattle.rules.specs.Kind.{max_exponent}
use Rattle.rules.specs.Coded.{format_of, as_pair}
use Rattle.rules.specs.declared.Kind.{Kind}
use Rattle.encode.specs.Seen.{as_seen}
use Rattle.encode.proofs.Whole.{kept_is}
use Rattle.chooser.proofs.Order.{ahead_start, ahead_next, ahead_row, ahead_end}
use Rattle.chooser.proofs.search.search.Goals as goal

pub vector_size-requires : goal.vector_size-requires
vector_size-requires g c =
    let vs = g.V.Word.as_numbers c.args.values.now in
    let n = length-numbers g.met.V.Word.laws c.args.values.now in
    kept_is (format_of g.V.Value.KIND) (as_pair c.scale_of.result.pair) vs (as_seen c.of-seen.result) c.of-seen.ensures (omega (arith, n, c.requires))

pub loop-e-init : goal.loop-e-init
loop-e-init g c =
    let vs = g.V.Word.as_numbers c.args.values.now in
    ahead_start (format_of g.V.Value.KIND) vs c.scale_of.result.pair c.scale_of.ensures (as_seen c.of-seen.result) c.of-seen.ensures c.vector_size.result c.vector_size.ensures

pub loop-f-preserved : goal.loop-f-preserved
loop-f-preserved g c =
    let vs = g.V.Word.as_numbers c.args.values.now in
    let most : c.largest_exponent-e-end.result ≡ max_exponent (format_of g.V.Value.KIND) = c.largest_exponent-e-end.ensures.0 ∙ ap (λ (k : Kind). max_exponent (format_of k)) c.KIND.ensures in
    let l = c.loop-f in
    ahead_next (format_of g.V.Value.KIND) vs l.best c.loop-e.e (omega (arith, c.loop-e-test.true, most)) l.f (omega (arith, c.loop-f-test.true)) l.invariant c.scale_of-in-loop-f.result.pair c.scale_of-in-loop-f.ensures c.trial-size.result c.trial-size.ensures c.better-best.result c.better-best.ensures

pub loop-e-preserved : goal.loop-e-preserved
loop-e-preserved g c =
    let vs = g.V.Word.as_numbers c.args.values.now in
    let most : c.largest_exponent-e-end.result ≡ max_exponent (format_of g.V.Value.KIND) = c.largest_exponent-e-end.ensures.0 ∙ ap (λ (k : Kind). max_exponent (format_of k)) c.KIND.ensures in
    let l = c.loop-f in
    ahead_row (format_of g.V.Value.KIND) vs l.best c.loop-e.e (omega (arith, c.loop-e-test.true, most)) l.f (omega (arith, c.loop-f-test.false, l.auto.f-end)) l.invariant

pub returns : goal.returns
returns g c =
    let vs = g.V.Word.as_numbers c.args.values.now in
    let most : c.largest_exponent-e-end.result ≡ max_exponent (format_of g.V.Value.KIND) = c.largest_exponent-e-end.ensures.0 ∙ ap (λ (k : Kind). max_exponent (format_of k)) c.KIND.ensures in
    let l = c.loop-e in
    ahead_end (format_of g.V.Value.KIND) vs l.best l.e (omega (arith, c.loop-e-test.false, most)) 0 l.invariant
