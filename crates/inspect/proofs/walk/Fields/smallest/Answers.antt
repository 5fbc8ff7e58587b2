-- `walk::Fields::smallest` meets its contract: the chain gives the whole numbers. Assumes nothing.
use Rattle.std.proofs.Common.{arith, unwrap_or, sym, ap, ◌∙◌, get_or, pos, w64, to_z-of_z, rules, tests}
use Rattle.std.specs.Ordering.{int_cmp, min_by_ordering}
use Rattle.std.proofs.lemmas.Iterator.{YieldsList-from_range, YieldsList-from_map}
use Rattle.std.proofs.lemmas.Iterator.Adapters.{option_map_id}
use Rattle.std.proofs.lemmas.Iterator.Consumers.{reduce_by_from_yields_List}
use Rattle.rules.specs.Coded.{format_of}
use Rattle.rules.specs.Vector.{lesser, wholes}
use Rattle.inspect.specs.Looked.{of_fields}
use Rattle.inspect.proofs.Scans.{lesser-picked, smallest-found}
use Rattle.inspect.proofs.walk.Fields.smallest.Goals as goal

pub returns : goal.returns
returns g c p listed lists =
    let r = of_fields c.args.self.now p listed lists in
    let zs = wholes (format_of g.V.Value.KIND) r in
    to_z-of_z {w = w64} {z = c.unwrap_or.result} (record { sfits = c.unwrap_or.type_inv }) ∙ c.unwrap_or.ensures
    ∙ ap (λ o. unwrap_or o (pos 0)) (sym (option_map_id _) ∙ reduce_by_from_yields_List {v = λ z. z} (λ p z. min_by_ordering (int_cmp p z) p z) lesser _ _ lesser-picked c.min.ensures.ran (YieldsList-from_map _ (λ i. get_or zs i (pos 0)) (YieldsList-from_range 0 r.count r.count c.map.ensures.source (omega arith)) c.map.ensures.closure (λ i z q k. search (rules, tests))))
    ∙ smallest-found (format_of g.V.Value.KIND) r
