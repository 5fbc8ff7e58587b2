-- `scan::Seen::with_next` meets its contract. Assumes nothing.
use Rattle.std.proofs.Common.{refl, ◌≡◌, [], ◌∷◌, sym, ap, ◌∙◌, rules, w64, pos, to_z, of_z}
use mathlib.Core.Option.{none, some}
use mir.ValLaws.{to_z-of_z}
use Rattle.decimal.specs.Turn.{as_try}
use Rattle.encode.specs.Seen.{as_seen, see, see_more}
use Rattle.encode.proofs.OneMore.{see-begun}
use Rattle.encode.proofs.scan.Seen.with_next.Goals as goal

pub returns-in-None : goal.returns-in-None
returns-in-None c =
    let s = as_seen c.args.self in
    c.with.ensures ∙ see-begun s (as_seen c.begun_with.result) none (pos 0) refl c.begun_with.ensures ∙ ap (λ t. see_more s (as_try t ∷ [])) (sym c.in-None.is)

pub returns-in-Some : goal.returns-in-Some
returns-in-Some c =
    let s = as_seen c.args.self in
    let b = as_seen c.begun_with-in-Some.result in
    let z = c.in-Some.z in
    let held : to_z w64 (of_z w64 z) ≡ z = to_z-of_z w64 z (search rules) in
    c.with-in-Some.ensures ∙ ap (λ y. see b (some y)) held ∙ see-begun s b (some z) _ held c.begun_with-in-Some.ensures ∙ ap (λ t. see_more s (as_try t ∷ [])) (sym c.in-Some.is)
