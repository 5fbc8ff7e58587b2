-- `scan::Seen::with` meets its contract. Assumes nothing.
use Rattle.std.proofs.Common.{rules, ◌≡◌, sym, ap, ap₂, ◌∙◌, w64, to_z, of_z}
use mir.ValLaws.{to_z-of_z}
use Rattle.std.specs.Int.{int_min, int_max}
use Rattle.decimal.specs.Turn.{as_try}
use Rattle.encode.specs.Seen.{as_seen, see}
use Rattle.encode.proofs.OneMore.{see-whole}
use Rattle.encode.proofs.scan.Seen.with.Goals as goal

pub returns-in-Some : goal.returns-in-Some
returns-in-Some c =
    let s = c.args.self in
    let z = c.in-Some.z in
    let held : to_z w64 (of_z w64 z) ≡ z = to_z-of_z w64 z (search rules) in
    let stand : to_z w64 (of_z w64 s.stand_in) ≡ s.stand_in = to_z-of_z w64 s.stand_in (search rules) in
    let smallest : to_z w64 (of_z w64 s.smallest) ≡ s.smallest = to_z-of_z w64 s.smallest (search rules) in
    let largest : to_z w64 (of_z w64 s.largest) ≡ s.largest = to_z-of_z w64 s.largest (search rules) in
    see-whole (as_seen s) z _ _ _ stand
    (to_z-of_z w64 _ (record { sfits = c.min.type_inv }) ∙ c.min.ensures.value ∙ ap₂ int_min smallest held)
    (to_z-of_z w64 _ (record { sfits = c.max.type_inv }) ∙ c.max.ensures.value ∙ ap₂ int_max largest held)
    ∙ ap (λ t. see (as_seen s) (as_try t)) (sym c.in-Some.is)
