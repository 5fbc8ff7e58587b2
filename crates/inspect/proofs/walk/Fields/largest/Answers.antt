-- `walk::Fields::largest` meets its contract: the chain gives the fields. Assumes nothing.
use Rattle.std.proofs.Common.{arith, unwrap_or, sym, ap, ◌∙◌, get_or, rules, tests}
use Rattle.std.proofs.lemmas.Iterator.{YieldsList-from_range, YieldsList-from_map}
use Rattle.std.proofs.lemmas.Iterator.Adapters.{option_map_id}
use Rattle.std.proofs.lemmas.Iterator.Consumers.{max_from_yields_List}
use Rattle.rules.specs.Vector.{fields}
use Rattle.inspect.specs.Looked.{of_fields}
use Rattle.inspect.proofs.Scans.{largest-found}
use Rattle.inspect.proofs.walk.Fields.largest.Goals as goal

pub returns : goal.returns
returns g c p listed lists =
    let r = of_fields c.args.self.now p listed lists in
    c.unwrap_or.ensures
    ∙ ap (λ o. unwrap_or o 0) (sym (option_map_id _) ∙ max_from_yields_List _ _ c.max.ensures.ran (YieldsList-from_map _ (λ i. get_or (fields r) i 0) (YieldsList-from_range 0 r.count r.count c.map.ensures.source (omega arith)) c.map.ensures.closure (λ i b q k. search (rules, tests))))
    ∙ largest-found r
