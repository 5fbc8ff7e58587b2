-- One pair's trial: the record of the values looked at so far, value by value. Assumes nothing.
use mathlib.Core.Path.{◌≡◌, refl, sym, ap, ◌∙◌, subst}
use mathlib.Core.List.{List, [], ◌∷◌, ◌++◌}
use mathlib.Core.Option.{Option}
use Prim.Native.Nat.{ℕ, ◌+◌, ◌≤◌, ◌<◌, min}
use native.Mathlib.Nat.{le_trans, le_of_eq}
use native.Mathlib.Numerals.{add-one}
use native.Mathlib.Omega.{arith}
use lib.ListN.{length, take, drop, get_or, length-map, length-take, take-append-drop}
use borrow.Table.Elements.{map_app}
use lib.Seq.{take-suc, take_all}
use lib.IntN.{ℤ}
use lib.Ieee.{Format}
use Rattle.rules.specs.Decimal.{Pair, tried}
use Rattle.rules.specs.Vector.{tries, the_stand_in, least, places}
use Rattle.rules.specs.Choose.{size_with}
use Rattle.encode.specs.Vectors.{Short}
use Rattle.encode.specs.Seen.{Seen, nothing, most, seen_of, see_more, Kept, size_seen}
use Rattle.encode.proofs.Record.{seen_more, seen-kept, seen_size}
use Rattle.chooser.specs.Trial.{rest_free}
use Rattle.chooser.proofs.Floor.{floor_below}

-- s is the record of the first i values
pub record Looked (fmt : Format) (p : Pair) (vs : List ℕ) (i : ℕ) (s : Seen) : Type 0 where
  pub within : i ≤ length vs
  pub record_is : s ≡ seen_of (tries fmt p (take i vs))

module _ (fmt : Format) (p : Pair) (vs : List ℕ) where
  abbrev ahead : ℕ → List (Option ℤ)
  ahead i = tries fmt p (take i vs)

  pub look_start : Looked fmt p vs 0 nothing
  unfolding seen_of places the_stand_in least most
  look_start = record { within = omega arith; record_is = refl }

  module _ (i : ℕ) (s : Seen) (l : Looked fmt p vs i s) where
    pub look_count : s.count ≡ i
    unfolding seen_of
    look_count = ap (λ (x : Seen). x.count) l.record_is ∙ length-map (take i vs) (tried fmt p) ∙ length-take i vs ∙ omega (arith, l.within)

    pub look_kept : Short (length vs) → Kept fmt s
    look_kept h = subst (Kept fmt) (sym l.record_is) (seen-kept fmt p (take i vs) (rw length-take (omega (arith, h))))

    pub look_next : i < length vs → (t : Option ℤ) (r : Seen) → t ≡ tried fmt p (get_or vs i 0) → r ≡ see_more s (t ∷ []) → Looked fmt p vs (i + 1) r
    look_next h t r et er = record {
      within = omega arith;
      record_is =
          er ∙ ap (λ (x : Seen). see_more x (t ∷ [])) l.record_is ∙ seen_more (ahead i) (t ∷ [])
          ∙ ap (λ (u : Option ℤ). seen_of (ahead i ++ (u ∷ []))) et
          ∙ ap seen_of (sym (map_app (tried fmt p) (take i vs) (get_or vs i 0 ∷ [])))
          ∙ ap (λ (l : List ℕ). seen_of (tries fmt p l)) (sym (take-suc vs i 0 h) ∙ ap (λ (n : ℕ). take n vs) (sym (add-one i)));
    }

    -- left early: no fewer bytes than the floor
    pub look_left : (best floor : ℕ) → floor ≤ size_seen fmt (rest_free (length vs) s) → best ≤ floor → min best best ≡ min best (size_with fmt vs p)
    look_left best floor h k =
        let back : tries fmt p (take i vs) ++ tries fmt p (drop i vs) ≡ tries fmt p vs = sym (map_app (tried fmt p) (take i vs) (drop i vs)) ∙ ap (tries fmt p) (take-append-drop i vs) in
        let long : length (tries fmt p (take i vs) ++ tries fmt p (drop i vs)) ≡ length vs = ap length back ∙ length-map vs (tried fmt p) in
        let below = floor_below (tries fmt p (take i vs)) (tries fmt p (drop i vs)) fmt in
        let lower : size_seen fmt (rest_free (length vs) s) ≡ size_seen fmt (rest_free (length (tries fmt p (take i vs) ++ tries fmt p (drop i vs))) (seen_of (tries fmt p (take i vs)))) = cc in
        let upper : size_seen fmt (seen_of (tries fmt p (take i vs) ++ tries fmt p (drop i vs))) ≡ size_with fmt vs p = ap (λ (ts : List (Option ℤ)). size_seen fmt (seen_of ts)) back ∙ seen_size fmt p vs in
        omega (arith, h, k, le_trans (le_of_eq lower) (le_trans below (le_of_eq upper)))

    -- looked at in full
    pub look_end : length vs ≤ i → (best r : ℕ) → r ≡ size_seen fmt s → min best r ≡ min best (size_with fmt vs p)
    look_end h best r e = ap (min best) (e ∙ ap (size_seen fmt) l.record_is ∙ ap (λ (k : List ℕ). size_seen fmt (seen_of (tries fmt p k))) (take_all i vs h) ∙ seen_size fmt p vs)
