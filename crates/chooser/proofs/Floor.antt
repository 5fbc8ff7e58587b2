-- What was seen of a vector's values is a floor under its size: exceptions stay exceptions, and the range of the whole numbers only grows.
-- Assumes nothing.
use mathlib.Core.Path.{◌≡◌, sym, ap, ap₂, ◌∙◌}
use mathlib.Core.List.{List, ◌++◌}
use mathlib.Core.Option.{Option}
use Prim.Native.Nat.{ℕ, suc, ◌+◌, ◌*◌, ◌/◌, ◌≤◌}
use native.Mathlib.Nat.{le_trans, le_of_eq, lt_of_le_of_lt, lt_of_not-le, mul-le-mul_left, mul-le-mul_right}
use native.Mathlib.Decide.{dec_le}
use native.Mathlib.Omega.{arith}
use lib.ListN.{length}
use lib.Dec.{T}
use lib.IntN.{ℤ, nat_abs, ◌-ℤ◌, +ℤ_invr}
use lib.Signed.{le_z}
use lib.Ieee.{Format, size}
use lib.Ieee.Digits.{size-lt, size-le}
use Rattle.rules.specs.Kind.{word_bytes, meta_bytes}
use Rattle.rules.specs.Vector.{the_stand_in, filled, least, places}
use Rattle.rules.proofs.Fields.{field_mono, field_lower}
use Rattle.rules.proofs.Order.{le_z-trans}
use Rattle.encode.specs.Seen.{seen_of, most, size_seen}
use Rattle.encode.proofs.Extremes.{lowest, highest, lowest_append, highest_append, lowest_is, highest_is, lowest_le, highest_ge, least-most}
use Rattle.encode.proofs.Record.{listed-append, some_so_far, none_so_far}
use Rattle.chooser.specs.Trial.{rest_free}

-- the largest field: how far the whole numbers reach
abbrev reach : List (Option ℤ) → ℕ
reach ts = nat_abs (most (filled ts) -ℤ least (filled ts))

module _ (ts us : List (Option ℤ)) where
  -- a value so far has a whole number: the others can only lower the smallest and raise the largest
  wider : the_stand_in (ts ++ us) ≡ the_stand_in ts → reach ts ≤ reach (ts ++ us)
  wider d =
      let lo : least (filled (ts ++ us)) ≡ lowest (least (filled ts)) us = sym (lowest_is (ts ++ us)) ∙ ap (λ (z : ℤ). lowest z (ts ++ us)) d ∙ lowest_append (the_stand_in ts) ts us ∙ ap (λ (z : ℤ). lowest z us) (lowest_is ts) in
      let hi : most (filled (ts ++ us)) ≡ highest (most (filled ts)) us = sym (highest_is (ts ++ us)) ∙ ap (λ (z : ℤ). highest z (ts ++ us)) d ∙ highest_append (the_stand_in ts) ts us ∙ ap (λ (z : ℤ). highest z us) (highest_is ts) in
      between (least (filled ts)) (most (filled ts)) (lowest (least (filled ts)) us) (highest (most (filled ts)) us) (least-most (filled ts)) (lowest_le (least (filled ts)) us) (highest_ge (most (filled ts)) us)
      ∙≤ sym (ap₂ (λ (x y : ℤ). nat_abs (x -ℤ y)) hi lo)
    where
      infixl 30 ◌∙≤◌
      ◌∙≤◌ : {a b c : ℕ} → a ≤ b → b ≡ c → a ≤ c
      h ∙≤ e = le_trans h (le_of_eq e)

      between : (m a n b : ℤ) → T (le_z m a) → T (le_z n m) → T (le_z a b) → nat_abs (a -ℤ m) ≤ nat_abs (b -ℤ n)
      between m a n b h k l = le_trans (field_mono m a b h l) (field_lower m n b k (le_z-trans m a b h l))

  -- only exceptions so far: they reach nowhere
  nowhere : length ts ≤ length (places 0 ts) → reach ts ≡ 0
  nowhere h =
      let same = (none_so_far 0 ts us h).1 (the_stand_in ts) in
      let lo : least (filled ts) ≡ the_stand_in ts = sym (lowest_is ts) ∙ same.0 in
      let hi : most (filled ts) ≡ the_stand_in ts = sym (highest_is ts) ∙ same.1 in
      ap₂ (λ (x y : ℤ). nat_abs (x -ℤ y)) hi lo ∙ ap nat_abs (+ℤ_invr (the_stand_in ts))

  reach_grows : reach ts ≤ reach (ts ++ us)
  reach_grows = elim (dec_le (suc (length (places 0 ts))) (length ts)) [
    | yes h ↦ wider (some_so_far 0 ts us h)
    | no h ↦ (let e = nowhere (omega (arith, lt_of_not-le h)) in omega (arith, e))
  ]

  pub floor_below : (fmt : Format) → size_seen fmt (rest_free (length (ts ++ us)) (seen_of ts)) ≤ size_seen fmt (seen_of (ts ++ us))
  unfolding seen_of
  floor_below fmt =
      let n : ℕ = length (ts ++ us) in
      let width : size (reach ts) ≤ size (reach (ts ++ us)) = size-le (reach ts) (size (reach (ts ++ us))) (lt_of_le_of_lt reach_grows (size-lt (reach (ts ++ us)))) in
      let packed = mul-le-mul_left n width in
      let more : length (places 0 ts) ≤ length (places 0 (ts ++ us)) = let e = listed-append 0 ts us in omega (arith, e) in
      let listed = mul-le-mul_right (2 + word_bytes fmt) more in
      sum (meta_bytes fmt) (n * size (reach ts)) (n * size (reach (ts ++ us))) _ _ packed listed
    where
      sum : (m a b x y : ℕ) → a ≤ b → x ≤ y → m + (a + 7) / 8 + x ≤ m + (b + 7) / 8 + y
      sum m a b x y h k = omega arith
