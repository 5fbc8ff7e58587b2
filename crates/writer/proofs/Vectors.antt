-- A column's vectors, each with its pair, one after the other: what is left of them shrinks, by one vector a turn; and the parts of the page
-- that they make. Assumes nothing.
use mathlib.Core.Path.{◌≡◌, refl, sym, ap, ap₂, ◌∙◌, subst}
use mathlib.Core.List.{List, [], ◌∷◌, ◌++◌, append_assoc}
use Prim.Native.Nat.{ℕ, suc, ◌+◌, ◌-◌, ◌*◌, ◌/◌, ◌^◌, ◌≤◌, ◌<◌, min}
use native.Mathlib.Nat.{le_trans, lt_of_not-le, le-div_iff_mul-le}
use native.Mathlib.Decide.{dec_le}
use native.Mathlib.Omega.{arith}
use lib.ListN.{length, take, drop, length-append, length-drop, drop_of_length-le}
use lib.Seq.{drop-drop, take_all, take_at, drop_at}
use lib.Dec.{lit≤}
use lib.Pow.{pow_mono, pow_pos}
use lib.Ieee.{Format, binary32, binary64}
use Rattle.digits.specs.Digits.{les}
use Rattle.digits.specs.Lists.{Each}
use Rattle.digits.proofs.Rows.{length-les}
use Rattle.bits.specs.Words.{WordLaws}
use Rattle.bits.proofs.WordLists.{length-numbers, append-numbers}
use Rattle.rules.specs.Kind.{max_s, max_values, word_bytes, meta_bytes}
use Rattle.rules.specs.Decimal.{Pair}
use Rattle.rules.specs.Vector.{Raw, encoded}
use Rattle.rules.specs.Page.{header, vectors, starts, bodies, encoded_all, layout, page_of}
use Rattle.rules.specs.Write.{pairs_of, Allowed}
use Rattle.rules.proofs.Encoded as Encoded
use Rattle.rules.proofs.Encoded.{length-all, Covers, covers, all_cut, all_sound, total_bound}
use Rattle.rules.proofs.Pages.{total, length-starts, length-header}
use Rattle.rules.proofs.Settings.{pairs_next}
use Rattle.rules.specs.Coded.{as_pair}
use Rattle.rules.specs.declared.Pair as code
use Rattle.checks.proofs.Bounds.{few-vectors, small}
use Rattle.encode.specs.Vectors.{Short, bytes_of}
use Rattle.encode.proofs.Whole.{bytes_size}
use Rattle.writer.specs.Settled.{Settled}
use Rattle.writer.specs.Recorded.{pair_at}

-- ---- the numbers of a kind are small

ceil_is : (size n : ℕ) → Encoded.ceil size n ≡ (n + (size - 1)) / size
unfolding Encoded.ceil
ceil_is size n = refl

meta_small : (fmt : Format) → meta_bytes fmt ≤ 13
meta_small binary32 = lit≤ tt
meta_small binary64 = lit≤ tt

word_small : (fmt : Format) → word_bytes fmt ≤ 8
word_small binary32 = lit≤ tt
word_small binary64 = lit≤ tt

-- ---- the first k of a list, or all of it

take-cut : (k : ℕ) (l : List ℕ) → take (min k (length l)) l ≡ take k l
take-cut k l = elim (dec_le k (length l)) [
  | yes h ↦ (let e : min k (length l) ≡ k = omega arith in ap (λ (n : ℕ). take n l) e)
  | no h ↦ (let g = lt_of_not-le h in let e : min k (length l) ≡ length l = omega arith in ap (λ (n : ℕ). take n l) e ∙ take_all (length l) l (omega arith) ∙ sym (take_all k l (omega arith)))
]

drop-cut : (k : ℕ) (l : List ℕ) → drop (min k (length l)) l ≡ drop k l
drop-cut k l = elim (dec_le k (length l)) [
  | yes h ↦ (let e : min k (length l) ≡ k = omega arith in ap (λ (n : ℕ). drop n l) e)
  | no h ↦ (let g = lt_of_not-le h in let e : min k (length l) ≡ length l = omega arith in ap (λ (n : ℕ). drop n l) e ∙ drop_of_length-le l {i = length l} (omega arith) ∙ sym (drop_of_length-le l {i = k} (omega arith)))
]

-- ---- the next vector

-- xs are the values that are left: `part` is the next vector's, and `rest` are those behind it
pub record Next (size : ℕ) (xs part rest : List ℕ) : Type 0 where
  pub some : 0 < length xs
  pub is : xs ≡ part ++ rest
  pub long : length part ≡ min size (length xs)

module _ {size : ℕ} {xs part rest : List ℕ} (n : Next size xs part rest) where
  next-values : part ≡ take size xs
  next-values = sym (ap (take (min size (length xs))) n.is ∙ take_at part rest (min size (length xs)) n.long) ∙ take-cut size xs

  next-rest : rest ≡ drop size xs
  next-rest = sym (ap (drop (min size (length xs))) n.is ∙ drop_at part rest (min size (length xs)) n.long) ∙ drop-cut size xs

-- a chunk of the words is one of their numbers
module _ {A : Type 0} {as-number : A → ℕ} {as-numbers : List A → List ℕ} (laws : WordLaws as-number as-numbers) where
  pub next_numbers : (size k : ℕ) → k ≡ size → (xs part rest : List A) → (xs ≡ part ++ rest) × (length part ≡ min k (length xs)) × (0 < length xs) → Next size (as-numbers xs) (as-numbers part) (as-numbers rest)
  next_numbers size k ek xs part rest h = record {
    some = rw (length-numbers laws xs) h.2;
    is = ap as-numbers h.0 ∙ append-numbers laws part rest;
    long = length-numbers laws part ∙ h.1 ∙ ap₂ min ek (sym (length-numbers laws xs));
  }

-- the pair of a scale that was looked up for the pair r
pub pair_is : (q r : code.Pair) (bs : List ℕ) (j : ℕ) → q ≡ r → as_pair r ≡ pair_at bs j → as_pair q ≡ pair_at bs j
pair_is q r bs j e h = ap as_pair e ∙ h

-- ---- the vectors that are left: those of the pairs from number i on, and of the values xs

abbrev pub left : Format → ℕ → List ℕ → ℕ → List ℕ → List Raw
left fmt size bs i xs = encoded_all fmt size (pairs_of (drop (2 * i) bs)) xs

-- all of them, and what stands before them on the page: header and offsets
abbrev pub all : Format → ℕ → List ℕ → List ℕ → List Raw
all fmt size bs vs = left fmt size bs 0 vs

abbrev pub table : Format → ℕ → ℕ → List ℕ → List ℕ → List ℕ
table fmt size count bs vs = les 4 (starts fmt (4 * count) (all fmt size bs vs))

abbrev pub front : Format → ℕ → ℕ → ℕ → List ℕ → List ℕ → List ℕ
front fmt s size count bs vs = header s (length vs) ++ table fmt size count bs vs

-- their bytes, whatever the values are
bodies_total : (fmt : Format) (size : ℕ) (ps : List Pair) (vs : List ℕ) → length (bodies fmt (encoded_all fmt size ps vs)) ≡ total fmt (encoded_all fmt size ps vs)
unfolding bodies encoded_all
bodies_total fmt size [] vs = refl
bodies_total fmt size (p ∷ ps) vs =
    length-append (bytes_of fmt p (take size vs)) (bodies fmt (encoded_all fmt size ps (drop size vs)))
    ∙ ap₂ (λ (a b : ℕ). a + b) (bytes_size fmt p (take size vs)) (bodies_total fmt size ps (drop size vs))

-- ---- the settings of a page, with its size of a vector and its count of them

pub record Planned (fmt : Format) (s size count : ℕ) (bs vs : List ℕ) : Type 0 where
  pub settled : Settled fmt s bs vs
  pub size_is : size ≡ 2 ^ s
  pub count_is : count ≡ vectors s (length vs)

pub planned_by : {fmt : Format} {s size count : ℕ} {bs vs : List ℕ} → Settled fmt s bs vs → (n power : ℕ) → n ≡ length vs → power ≡ s → size ≡ 2 ^ power → count ≡ (n + (size - 1)) / size → Planned fmt s size count bs vs
planned_by {s = s} {size = size} t n power en ep es ec =
    let size_is : size ≡ 2 ^ s = es ∙ ap (λ (x : ℕ). 2 ^ x) ep in
    record { settled = t; size_is = size_is; count_is = ec ∙ ap₂ (λ (m z : ℕ). (m + (z - 1)) / z) en size_is }

-- how far the vectors have come, at vector i: xs are the values that are left
pub record Cut (fmt : Format) (size count : ℕ) (bs vs : List ℕ) (i : ℕ) (xs : List ℕ) : Type 0 where
  pub turns : i ≤ count
  pub here : xs ≡ drop (i * size) vs
  pub allowed : Each (Allowed fmt) (pairs_of (drop (2 * i) bs))

module _ {fmt : Format} {s size count : ℕ} {bs vs : List ℕ} (t : Planned fmt s size count bs vs) where
  small-size : size ≤ 2 ^ max_s
  small-size = subst (λ (x : ℕ). x ≤ 2 ^ max_s) (sym t.size_is) (pow_mono t.settled.inside.high)

  some-size : 0 < size
  some-size = subst (λ (x : ℕ). 0 < x) (sym t.size_is) (pow_pos s)

  counted : count ≡ (length vs + (size - 1)) / size
  counted = t.count_is ∙ ap (λ (z : ℕ). (length vs + (z - 1)) / z) (sym t.size_is)

  long-all : length (all fmt size bs vs) ≡ count
  long-all = length-all fmt size (pairs_of bs) vs ∙ t.settled.inside.one_each ∙ sym t.count_is

  pub long-table : length (table fmt size count bs vs) ≡ 4 * count
  long-table = length-les 4 (starts fmt (4 * count) (all fmt size bs vs)) ∙ omega (arith, length-starts fmt (4 * count) (all fmt size bs vs), long-all)

  pub page_is : front fmt s size count bs vs ++ bodies fmt (all fmt size bs vs) ≡ page_of fmt s (pairs_of bs) vs
  unfolding page_of layout
  page_is =
      append_assoc (header s (length vs)) (table fmt size count bs vs) (bodies fmt (all fmt size bs vs))
      ∙ ap (λ (k : ℕ). header s (length vs) ++ (table fmt size k bs vs ++ bodies fmt (all fmt size bs vs))) (sym long-all)
      ∙ ap (λ (z : ℕ). layout fmt s (length vs) (encoded_all fmt z (pairs_of bs) vs)) t.size_is

  pub page_long : 8 + 4 * count + length (bodies fmt (all fmt size bs vs)) ≡ length (page_of fmt s (pairs_of bs) vs)
  page_long =
      let h = length-header s (length vs) in
      let f = length-append (header s (length vs)) (table fmt size count bs vs) in
      let p = length-append (front fmt s size count bs vs) (bodies fmt (all fmt size bs vs)) in
      omega (arith, ap length page_is, p, f, h, long-table)

  -- a page's length is a machine number
  pub page_small : length (page_of fmt s (pairs_of bs) vs) < 2 ^ 32
  page_small =
      let i = t.settled.inside in
      let n = length vs in
      let covered : Covers size n (pairs_of bs) = covers size n (pairs_of bs) some-size (i.one_each ∙ sym t.count_is ∙ counted ∙ sym (ceil_is size n)) in
      let most = total_bound fmt size n (all fmt size bs vs) (all_cut fmt size (pairs_of bs) vs covered) (all_sound fmt size (pairs_of bs) vs i.allowed) in
      let few : count ≤ max_values = le_trans (subst (λ (k : ℕ). k ≤ n) (sym counted) (few-vectors n size some-size)) i.many in
      let fronts = small count (meta_bytes fmt) {c = max_values} {d = 13} few (meta_small fmt) in
      let words = small n (2 * word_bytes fmt + 2) {c = max_values} {d = 18} i.many (omega (arith, word_small fmt)) in
      let vectors_long : length (all fmt size bs vs) * meta_bytes fmt ≡ count * meta_bytes fmt = ap (λ (k : ℕ). k * meta_bytes fmt) long-all in
      omega (arith, page_long, bodies_total fmt size (pairs_of bs) vs, most, few, fronts, words, vectors_long)

  pub cut_start : Cut fmt size count bs vs 0 vs
  cut_start =
      let none : 0 ≡ 0 * size = omega arith in
      record { turns = omega arith; here = ap (λ (k : ℕ). drop k vs) none; allowed = t.settled.inside.allowed }

  module _ {i : ℕ} {xs : List ℕ} (c : Cut fmt size count bs vs i xs) where
    module _ {part rest : List ℕ} (n : Next size xs part rest) where
      -- while values are left, a vector is
      pub turn : i < count
      turn =
          let more : i * size < length vs = omega (arith, ap length c.here, length-drop (i * size) vs, n.some) in
          let next : suc i * size ≡ size + i * size = omega arith in
          subst (λ (k : ℕ). i < k) (sym counted) ((le-div_iff_mul-le some-size).1 (omega (arith, more, next, some-size)))

      pub inside-pairs : 2 * i + 2 ≤ length bs
      inside-pairs = omega (arith, t.settled.two_each, t.count_is, turn)

      pairs_here : pairs_of (drop (2 * i) bs) ≡ pair_at bs (2 * i) ∷ pairs_of (drop (2 * (i + 1)) bs)
      pairs_here =
          let e : 2 * i + 2 ≡ 2 * (i + 1) = omega arith in
          pairs_next bs (2 * i) (omega (arith, inside-pairs)) ∙ ap (λ (j : ℕ). pair_at bs (2 * i) ∷ pairs_of (drop j bs)) e

      pub cut_next_is : left fmt size bs i xs ≡ encoded fmt (pair_at bs (2 * i)) part ∷ left fmt size bs (i + 1) rest
      unfolding encoded_all
      cut_next_is =
          ap (λ (ps : List Pair). encoded_all fmt size ps xs) pairs_here
          ∙ ap₂ (λ (x y : List ℕ). encoded fmt (pair_at bs (2 * i)) x ∷ encoded_all fmt size (pairs_of (drop (2 * (i + 1)) bs)) y) (sym (next-values n)) (sym (next-rest n))

      allowed-each : Allowed fmt (pair_at bs (2 * i)) × Each (Allowed fmt) (pairs_of (drop (2 * (i + 1)) bs))
      allowed-each = subst (Each (Allowed fmt)) pairs_here c.allowed

      pub pair-allowed : (p : Pair) → p ≡ pair_at bs (2 * i) → Allowed fmt p
      pair-allowed p ep = subst (Allowed fmt) (sym ep) allowed-each.0

      pub part_short : Short (length part)
      part_short = omega (arith, n.long, small-size)

      pub part_is : part ≡ take size (drop (i * size) vs)
      part_is = next-values n ∙ ap (take size) c.here

      pub cut_next : Cut fmt size count bs vs (i + 1) rest
      cut_next =
          let more : i * size + size ≡ (i + 1) * size = omega arith in
          record {
            turns = omega (arith, turn);
            here = next-rest n ∙ ap (drop size) c.here ∙ drop-drop size (i * size) vs ∙ ap (λ (k : ℕ). drop k vs) more;
            allowed = allowed-each.1;
          }

    module _ (none : length xs ≡ 0) where
      pub cut_all : count ≡ i
      cut_all =
          let past : length vs ≤ i * size = omega (arith, ap length c.here, length-drop (i * size) vs, none) in
          let next : suc i * size ≡ size + i * size = omega arith in
          let last : count < suc i = elim (dec_le (suc i) count) [
            | yes h ↦ (let up = (le-div_iff_mul-le some-size).0 (subst (λ (k : ℕ). suc i ≤ k) counted h) in absurd (omega (arith, up, past, next, some-size)))
            | no h ↦ lt_of_not-le h
          ] in
          omega (arith, c.turns, last)

      pub cut_end : left fmt size bs i xs ≡ []
      unfolding pairs_of encoded_all
      cut_end =
          let none : drop (2 * i) bs ≡ [] = drop_of_length-le bs {i = 2 * i} (omega (arith, t.settled.two_each, t.count_is, cut_all)) in
          ap (λ (x : List ℕ). encoded_all fmt size (pairs_of x) xs) none
