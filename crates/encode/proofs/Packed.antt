-- The packed fields of a vector, put one after the other. Assumes nothing.
use mathlib.Core.Path.{◌≡◌, sym, ap, ap₂, ◌∙◌, subst}
use mathlib.Core.List.{List, [], ◌∷◌}
use mathlib.Core.Option.{Option, none}
use Prim.Native.Nat.{ℕ, zero, suc, ◌+◌, ◌*◌, ◌^◌, ◌≤◌, ◌<◌}
use native.Mathlib.Nat.{not-suc-le-zero, le_of_suc-le-suc, le_trans}
use native.Mathlib.Omega.{arith}
use lib.ListN.{length, get_or, length-map, replicate}
use lib.Dec.{T}
use lib.IntN.{ℤ, pos, nat_abs, ◌-ℤ◌}
use lib.Signed.{le_z, ◌≤ℤ◌}
use lib.Pow.{pow_pos}
use lib.Ieee.{Format, size}
use Rattle.std.specs.Prelude as std
use Rattle.std.specs.Option.{unwrap_or}
use mir.Syntax.{w64}
use mir.Val.{to_z, of_z, SFits}
use mir.ValLaws.{to_z-of_z}
use Rattle.std.proofs.lemmas.List.{get_or-map}
use Rattle.digits.specs.Digits.{number, Below, pack, packed_size}
use Rattle.digits.specs.Lists.{Each}
use Rattle.digits.proofs.Lists.{each_below}
use Rattle.digits.proofs.Fields.{Packing, packing_start, packing_free, packing_room, packing_next, packing_end, start_fits}
use Rattle.rules.specs.Kind.{word_bits}
use Rattle.rules.specs.Decimal.{Pair, tried}
use Rattle.rules.specs.Vector.{tries, the_stand_in, filled, or_else, least, fields_of, width_of}
use Rattle.rules.proofs.Order.{AtMost, least-below, width-holds, width-fewest}
use Rattle.rules.proofs.Vectors.{length_fields}
use Rattle.rules.proofs.Encoded.{small_word, length-filled, fields-below}
use Rattle.decimal.specs.Turn.{as_try}
use Rattle.encode.specs.Vectors.{Short, fields_in}
use Rattle.encode.proofs.OneMore.{or_stand-in}
use Rattle.encode.proofs.Steps.{NumberAt}

each_get : {A : Type 0} (P : A → Type 0) (xs : List A) (i : ℕ) (d : A) → Each P xs → i < length xs → P (get_or xs i d)
each_get P [] i d e h = absurd (not-suc-le-zero h)
each_get P (x ∷ xs) zero d e h = e.0
each_get P (x ∷ xs) (suc i) d e h = each_get P xs i d e.1 (le_of_suc-le-suc h)

module _ (fmt : Format) (p : Pair) (vs : List ℕ) where
  abbrev ts : List (Option ℤ)
  ts = tries fmt p vs

  abbrev zs : List ℤ
  zs = filled ts

  abbrev fs : List ℕ
  fs = fields_in fmt p vs

  pub long-fields : length fs ≡ length vs
  long-fields = length_fields zs ∙ length-filled fmt p vs

  pub width_small : width_of fs ≤ 64
  width_small = le_trans (width-fewest fs (word_bits fmt) (fields-below fmt p vs)) (small_word fmt)

  -- ---- the whole number at place i, and its field

  module _ (i v : ℕ) (a : NumberAt vs i v) where
    number_at : get_or zs i (pos 0) ≡ or_else (the_stand_in ts) (tried fmt p v)
    number_at =
        let n : length ts ≡ length vs = length-map vs (tried fmt p) in
        let h = a.inside in
        get_or-map (or_else (the_stand_in ts)) ts i none (pos 0) (omega (arith, n)) ∙ ap (or_else (the_stand_in ts)) (get_or-map (tried fmt p) vs i 0 none h ∙ ap (tried fmt p) a.is)

    field_at : get_or fs i 0 ≡ nat_abs (or_else (the_stand_in ts) (tried fmt p v) -ℤ least zs)
    unfolding fields_of
    field_at =
        let n = length-filled fmt p vs in
        let h = a.inside in
        get_or-map (λ (z : ℤ). nat_abs (z -ℤ least zs)) zs i (pos 0) 0 (omega (arith, n)) ∙ ap (λ (z : ℤ). nat_abs (z -ℤ least zs)) number_at

    above_least : AtMost (least zs) (or_else (the_stand_in ts) (tried fmt p v))
    above_least =
        let n = length-filled fmt p vs in
        let h = a.inside in
        subst (AtMost (least zs)) number_at (each_get (AtMost (least zs)) zs i (pos 0) (least-below zs) (omega (arith, n)))

    -- as the code has them: gone through words of 64 bits
    module _ (stand frame z : ℤ) (t : std.Option ℤ) (hs : stand ≡ the_stand_in ts) (hf : frame ≡ least zs) (ht : as_try t ≡ tried fmt p v)
        (hz : z ≡ unwrap_or t (to_z w64 (of_z w64 stand))) (fd : SFits w64 stand) (ff : SFits w64 frame) (fz : SFits w64 z) where
      frame_is : to_z w64 (of_z w64 frame) ≡ least zs
      frame_is = to_z-of_z w64 frame ff ∙ hf

      number_is : to_z w64 (of_z w64 z) ≡ or_else (the_stand_in ts) (tried fmt p v)
      number_is = to_z-of_z w64 z fz ∙ hz ∙ or_stand-in t (to_z w64 (of_z w64 stand)) ∙ ap₂ or_else (to_z-of_z w64 stand fd ∙ hs) ht

      pub field_asks : to_z w64 (of_z w64 frame) ≤ℤ to_z w64 (of_z w64 z)
      field_asks = record { le = subst T (sym (ap₂ le_z frame_is number_is)) above_least }

      pub field_gives : (r : ℕ) → r ≡ nat_abs (to_z w64 (of_z w64 z) -ℤ to_z w64 (of_z w64 frame)) → r ≡ get_or fs i 0
      field_gives r e = e ∙ ap₂ (λ (x y : ℤ). nat_abs (x -ℤ y)) number_is frame_is ∙ sym field_at

  -- ---- one field put after the other

  module _ (w : ℕ) (hw : w ≡ width_of fs) where
    below : Below (2 ^ w) fs
    below = subst (λ (k : ℕ). Below (2 ^ k) fs) (sym hw) (each_below (2 ^ width_of fs) fs (pow_pos (width_of fs)) (width-holds fs))

    pub fields-start : (out : List ℕ) (n : ℕ) → n ≡ packed_size (length vs) w → out ≡ replicate n 0 → Packing w fs 0 0 out
    fields-start out n e z = packing_start w fs out n (e ∙ ap (λ (k : ℕ). packed_size k w) (sym long-fields)) z

    module _ (i start : ℕ) (out : List ℕ) (s : Packing w fs i start out) where
      module _ (h : i < length vs) where
        inside : i < length fs
        inside = omega (arith, long-fields)

        pub start_small : Short (length vs) → start + w < 2 ^ 64
        start_small short = start_fits w i start s.from (length fs) inside (omega (arith, long-fields)) (subst (λ (k : ℕ). k ≤ 64) (sym hw) width_small)

        module _ (v : ℕ) (e : v ≡ get_or fs i 0) where
          pub put_asks : (start + size v ≤ 8 * length out) × (number out < 2 ^ start)
          put_asks = (packing_room w fs i start out s v inside e (subst (λ (x : ℕ). x < 2 ^ w) (sym e) (below i)), packing_free w fs i start out s below)

          pub put_gives : (out' : List ℕ) → Below 256 out' → length out' ≡ length out → number out' ≡ v * 2 ^ start + number out → Packing w fs (i + 1) (start + w) out'
          put_gives = packing_next w fs i start out s v inside e

      pub fields-end : length vs ≤ i → out ≡ pack w fs
      fields-end h = packing_end w fs i start out s (omega (arith, long-fields))
