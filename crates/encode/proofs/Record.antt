-- The record of a vector in progress: piece after piece it is the record of all values so far, and it tells the vector's width and size.
-- Assumes nothing.
use mathlib.Core.Path.{◌≡◌, refl, sym, ap, ap₂, ◌∙◌, subst}
use mathlib.Core.Bool.{Bool, true, false, cond}
use mathlib.Core.List.{List, [], ◌∷◌, ◌++◌}
use mathlib.Core.Option.{Option, none, some}
use Prim.Native.Nat.{ℕ, suc, ◌+◌, ◌*◌, ◌^◌, ◌≤◌, ◌<◌}
use native.Mathlib.Nat.{add_assoc}
use lib.Pow.{pow_pos}
use native.Mathlib.Omega.{arith}
use lib.ListN.{length, length-append, length-map}
use lib.Dec.{ltb}
use borrow.Author.Tests.{ltb-true, ltb-false}
use lib.IntN.{ℤ}
use lib.Ieee.{Format, size}
use Rattle.digits.specs.Digits.{packed_size}
use Rattle.rules.specs.Kind.{meta_bytes, word_bits, word_bytes}
use Rattle.rules.specs.Decimal.{Pair, tried}
use Rattle.rules.specs.Vector.{tries, the_stand_in, filled, lesser, least, fields_of, width_of, places, encoded, raw_of}
use Rattle.rules.specs.Page.{size_of}
use Rattle.rules.proofs.Encoded.{places-few, length-filled, turned-below}
use Rattle.rules.proofs.Order.{greatest-lt}
use Rattle.rules.proofs.Tries.{tried-some}
use Rattle.encode.specs.Vectors.{Short, fields_in}
use Rattle.encode.specs.Seen.{Seen, nothing, greater, most, seen_of, see, see_all, see_more, Kept, width_seen, size_seen}
use Rattle.encode.proofs.Extremes.{lowest, highest, lowest_append, highest_append, lowest_is, highest_is, most-field, least-most}

-- how many positions there are does not depend on where they are counted from
listed-from : (i j : ℕ) (ts : List (Option ℤ)) → length (places i ts) ≡ length (places j ts)
unfolding places
listed-from i j [] = refl
listed-from i j (none ∷ ts) = ap suc (listed-from (suc i) (suc j) ts)
listed-from i j (some z ∷ ts) = listed-from (suc i) (suc j) ts

pub listed-append : (i : ℕ) (ts us : List (Option ℤ)) → length (places i (ts ++ us)) ≡ length (places i ts) + length (places 0 us)
unfolding places
listed-append i [] us = listed-from i 0 us ∙ omega arith
listed-append i (none ∷ ts) us = let h = listed-append (suc i) ts us in omega (arith, h)
listed-append i (some z ∷ ts) us = listed-append (suc i) ts us

-- the record with some values more, part by part
abbrev grown : Seen → List (Option ℤ) → Seen
grown s ts = record { count = s.count + length ts; listed = s.listed + length (places 0 ts); stand = s.stand; smallest = lowest s.smallest ts; largest = highest s.largest ts }

all_grown : (s : Seen) (ts : List (Option ℤ)) → see_all s ts ≡ grown s ts
unfolding see_all lowest highest places
all_grown s [] = λ i. record { count = none_more s.count i; listed = none_more s.listed i; stand = s.stand; smallest = s.smallest; largest = s.largest }
  where
    none_more : (n : ℕ) → n ≡ n + 0
    none_more n = omega arith
all_grown s (none ∷ ts) = all_grown (see s none) ts ∙ (λ i. record {
  count = one_more s.count (length ts) i;
  listed = (one_more s.listed (length (places 0 ts)) ∙ ap (λ (n : ℕ). s.listed + suc n) (listed-from 0 1 ts)) i;
  stand = s.stand;
  smallest = lowest s.smallest ts;
  largest = highest s.largest ts;
})
  where
    one_more : (a b : ℕ) → a + 1 + b ≡ a + suc b
    one_more a b = omega arith
all_grown s (some z ∷ ts) = all_grown (see s (some z)) ts ∙ (λ i. record {
  count = one_more s.count (length ts) i;
  listed = ap (λ (n : ℕ). s.listed + n) (listed-from 0 1 ts) i;
  stand = s.stand;
  smallest = lowest (lesser s.smallest z) ts;
  largest = highest (greater s.largest z) ts;
})
  where
    one_more : (a b : ℕ) → a + 1 + b ≡ a + suc b
    one_more a b = omega arith

-- ---- whether a value so far has a whole number

pub some_so_far : (i : ℕ) (ts us : List (Option ℤ)) → length (places i ts) < length ts → the_stand_in (ts ++ us) ≡ the_stand_in ts
unfolding places the_stand_in
some_so_far i [] us h = absurd (omega arith)
some_so_far i (none ∷ ts) us h = some_so_far (suc i) ts us (omega arith)
some_so_far i (some z ∷ ts) us h = refl

pub none_so_far : (i : ℕ) (ts us : List (Option ℤ)) → length ts ≤ length (places i ts) → (the_stand_in (ts ++ us) ≡ the_stand_in us) × ((z : ℤ) → (lowest z ts ≡ z) × (highest z ts ≡ z))
unfolding places the_stand_in lowest highest
none_so_far i [] us h = (refl, λ z. (refl, refl))
none_so_far i (none ∷ ts) us h = none_so_far (suc i) ts us (omega arith)
none_so_far i (some z ∷ ts) us h = absurd (omega (arith, places-few (suc i) ts, h))

-- some values more, where the record before them has the stand-in of all
grown_is : (s : Seen) (ts us : List (Option ℤ)) → s.count ≡ length ts → s.listed ≡ length (places 0 ts) → s.stand ≡ the_stand_in (ts ++ us)
    → s.smallest ≡ lowest (the_stand_in (ts ++ us)) ts → s.largest ≡ highest (the_stand_in (ts ++ us)) ts → see_all s us ≡ seen_of (ts ++ us)
unfolding seen_of
grown_is s ts us n l d lo hi =
    let count : s.count + length us ≡ length (ts ++ us) = ap (λ (k : ℕ). k + length us) n ∙ sym (length-append ts us) in
    let listed : s.listed + length (places 0 us) ≡ length (places 0 (ts ++ us)) = ap (λ (k : ℕ). k + length (places 0 us)) l ∙ sym (listed-append 0 ts us) in
    let smallest : lowest s.smallest us ≡ least (filled (ts ++ us)) = ap (λ (z : ℤ). lowest z us) lo ∙ sym (lowest_append (the_stand_in (ts ++ us)) ts us) ∙ lowest_is (ts ++ us) in
    let largest : highest s.largest us ≡ most (filled (ts ++ us)) = ap (λ (z : ℤ). highest z us) hi ∙ sym (highest_append (the_stand_in (ts ++ us)) ts us) ∙ highest_is (ts ++ us) in
    all_grown s us ∙ (λ i. record { count = count i; listed = listed i; stand = d i; smallest = smallest i; largest = largest i })

-- a piece more
pub seen_more : (ts us : List (Option ℤ)) → see_more (seen_of ts) us ≡ seen_of (ts ++ us)
unfolding seen_of
seen_more ts us = go (ltb (length (places 0 ts)) (length ts)) refl
  where
    s : Seen
    s = record { count = length ts; listed = length (places 0 ts); stand = the_stand_in us; smallest = the_stand_in us; largest = the_stand_in us }

    go : (b : Bool) → ltb (length (places 0 ts)) (length ts) ≡ b → see_more (seen_of ts) us ≡ seen_of (ts ++ us)
    go true e =
        let d : the_stand_in ts ≡ the_stand_in (ts ++ us) = sym (some_so_far 0 ts us (ltb-true (length (places 0 ts)) (length ts) e)) in
        ap (λ (b : Bool). see_all (cond b (seen_of ts) s) us) e
        ∙ grown_is (seen_of ts) ts us refl refl d (sym (lowest_is ts) ∙ ap (λ (z : ℤ). lowest z ts) d) (sym (highest_is ts) ∙ ap (λ (z : ℤ). highest z ts) d)
    go false e =
        let n = none_so_far 0 ts us (ltb-false (length (places 0 ts)) (length ts) e) in
        let d : the_stand_in us ≡ the_stand_in (ts ++ us) = sym n.0 in
        ap (λ (b : Bool). see_all (cond b (seen_of ts) s) us) e
        ∙ grown_is s ts us refl refl d (d ∙ sym (n.1 (the_stand_in (ts ++ us))).0) (d ∙ sym (n.1 (the_stand_in (ts ++ us))).1)

-- the first piece
pub seen_first : (us : List (Option ℤ)) → see_more nothing us ≡ seen_of us
unfolding seen_of places the_stand_in least most
seen_first us = seen_more [] us

-- ---- what it tells

module _ (fmt : Format) (p : Pair) (vs : List ℕ) where
  abbrev ts : List (Option ℤ)
  ts = tries fmt p vs

  long-tries : length ts ≡ length vs
  long-tries = length-map vs (tried fmt p)

  pub seen-kept : Short (length vs) → Kept fmt (seen_of ts)
  unfolding seen_of
  seen-kept h = record {
    short = let e = long-tries in omega (arith, e);
    few = places-few 0 ts;
    ordered = record { le = least-most (filled ts) };
    narrow = subst (λ (n : ℕ). n < 2 ^ word_bits fmt) (sym (most-field (filled ts))) (greatest-lt (2 ^ word_bits fmt) (fields_of (filled ts)) (pow_pos (word_bits fmt)) (turned-below fmt p (tried fmt p) (tried-some fmt p) vs));
  }

  pub seen-width : width_seen (seen_of ts) ≡ width_of (fields_in fmt p vs)
  unfolding seen_of width_of
  seen-width = ap size (most-field (filled ts))

  pub seen_size : size_seen fmt (seen_of ts) ≡ size_of fmt (encoded fmt p vs)
  unfolding seen_of encoded raw_of
  seen_size =
      let w : width_seen (seen_of ts) ≡ width_of (fields_of (filled ts)) = seen-width in
      let n : length ts ≡ length (filled ts) = long-tries ∙ sym (length-filled fmt p vs) in
      ap₂ (λ (k c : ℕ). meta_bytes fmt + packed_size c k + length (places 0 ts) * (2 + word_bytes fmt)) w n
      ∙ add_assoc (meta_bytes fmt) (packed_size (length (filled ts)) (width_of (fields_of (filled ts)))) (length (places 0 ts) * (2 + word_bytes fmt))
