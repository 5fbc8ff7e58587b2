-- Scans of a vector's positions, over the kind: for a row, for the stand-in, for the smallest whole number and the largest field.
-- Assumes nothing.
use Rattle.std.proofs.Common.{◌≡◌, ℕ, ◌+◌, ◌*◌, ◌^◌, ◌<◌, ◌≤◌, max, Bool, true, false, List, [], ◌∷◌, length, get_or, drop, ℤ, pos, sym, refl, ap, ◌∙◌, subst, ap₂, mul-add, negsuc, add-one, arith, drop_of_length-le}
use Rattle.std.specs.Prelude as std
use Rattle.std.specs.Prelude.{Some, None, is_some, unwrap_or, map}
use Rattle.std.specs.Bool.{then_some}
use Rattle.std.specs.List.{fold, reduce, range_with_len}
use Rattle.std.proofs.lemmas.List.FromFn.{fill_by_all}
use Rattle.std.specs.Ordering.{int_cmp, min_by_ordering}
use mathlib.Core.List.{zip_with}
use mathlib.Core.Option.{Option}
use lib.Ieee.{Format}
use Rattle.digits.proofs.Rows.{length-numbers}
use Rattle.digits.proofs.Fields.{start-room, start_fits}
use Rattle.rules.specs.Kind.{word_bits, word_bytes}
use Rattle.rules.specs.Vector.{Raw, the_stand_in, lesser, least_of, least, greatest, fields, wholes, marked}
use Rattle.rules.specs.Page.{Meta}
use Rattle.rules.specs.Verdict.{fine, refuse, first, verdict, row, in_vector_at}
use Rattle.rules.specs.Examine.{stand_in_of, first_rows}
use Rattle.rules.proofs.Encoded.{small_word}
use Rattle.rules.proofs.Decoded.{wholes-count, fields-count}
use Rattle.inspect.specs.Seen.{seen, FieldsLaid, ListsLaid, is_next, listed_at, behind, mark_of, mark_at}
use Rattle.inspect.proofs.Steps.{Walk, walk_start, walk_step, some_whole}

-- ---- an index that may be there

-- whether it is, and what is then stored
pub there_if : (b : Bool) (j : ℕ) → is_some (then_some b j) ≡ b
there_if true j = refl
there_if false j = refl

pub stored_if : (xs : List ℕ) (b : Bool) (j : ℕ) → mark_of b (get_or xs j 0) ≡ mark_at xs (then_some b j)
stored_if xs true j = refl
stored_if xs false j = refl

-- ---- sizes

module _ (fmt : Format) (n : ℕ) (m : Meta) (packed : List ℕ) (laid : FieldsLaid fmt n m packed) (i start : ℕ) (e : start ≡ m.width * i) (more : i < n) where
  pub fields-room : (m.width ≤ word_bits fmt) × (start + m.width ≤ 8 * length packed)
  fields-room = (laid.narrow, omega (arith, laid.long, start-room m.width i start e n more))

  pub bits_fit : start + m.width < 2 ^ 64
  bits_fit = start_fits m.width i start e n more (omega (arith, laid.many)) (omega (arith, laid.narrow, small_word fmt))

module _ (fmt : Format) (n : ℕ) (m : Meta) (packed lists : List ℕ) (laid : ListsLaid fmt n m lists) where
  pub seen_start : Walk (seen fmt n m packed lists) 0 0
  seen_start = walk_start (seen fmt n m packed lists) (length-numbers (word_bytes fmt) m.listed (drop (m.listed * 2) lists) ∙ sym (length-numbers 2 m.listed lists)) laid.rising

  pub lists-room : m.listed * 2 ≤ length lists
  lists-room = omega (arith, laid.room, mul-add m.listed 2 (word_bytes fmt))

  pub few-behind : (i j : ℕ) → Walk (seen fmt n m packed lists) i j → j < 2 ^ 32
  few-behind i j w = omega (arith, w.used, length-numbers 2 m.listed lists, laid.few, laid.many)

-- ---- for row a of vector v with condition f: what is found is found from position i on

abbrev pub Scanned : Format → Raw → ℕ → ℕ → (ℤ → Option ℕ → Bool) → ℕ → Type 0
Scanned fmt r a v f i = verdict (first_rows a v f 0 (wholes fmt r) (marked r)) ≡ verdict (first_rows a v f i (drop i (wholes fmt r)) (drop i (marked r)))

pub scan_start : (fmt : Format) (r : Raw) (a v : ℕ) (f : ℤ → Option ℕ → Bool) → Scanned fmt r a v f 0
scan_start fmt r a v f = refl

module _ (fmt : Format) (r : Raw) (a v : ℕ) (f : ℤ → Option ℕ → Bool) (i : ℕ) (s : Scanned fmt r a v f i) where
  pub scan_end : r.count ≤ i → fine ≡ verdict (first_rows a v f 0 (wholes fmt r) (marked r))
  unfolding first_rows
  scan_end h = sym (s ∙ ap (λ (zs : List ℤ). verdict (first_rows a v f i zs (drop i (marked r)))) (drop_of_length-le (wholes fmt r) {i = i} (omega (arith, wholes-count fmt r))))

  -- l is the index of position i in the list, if it is listed, and t is the condition
  module _ (j : ℕ) (w : Walk r i j) (more : i < r.count) (l : std.Option ℕ) (el : l ≡ listed_at r.positions i j) (t : Bool) (et : t ≡ f (get_or (wholes fmt r) i (pos 0)) (mark_at r.exceptions l)) where
    scan_here : verdict (first_rows a v f 0 (wholes fmt r) (marked r)) ≡ first (verdict (row a (in_vector_at v i) t)) (verdict (first_rows a v f (i + 1) (drop (i + 1) (wholes fmt r)) (drop (i + 1) (marked r))))
    unfolding first_rows
    scan_here =
        let zs = drop (i + 1) (wholes fmt r) in
        let ms = drop (i + 1) (marked r) in
        s
        ∙ ap₂ (λ (x : List ℤ) (y : List (Option ℕ)). verdict (first_rows a v f i x y)) (some_whole fmt r i more) (walk_step r i j w more).0
        ∙ ap₂ (λ (b : Bool) (k : ℕ). first (verdict (row a (in_vector_at v i) b)) (verdict (first_rows a v f k zs ms))) (ap (f (get_or (wholes fmt r) i (pos 0))) (stored_if r.exceptions (is_next r.positions i j) j ∙ ap (mark_at r.exceptions) (sym el)) ∙ sym et) (sym (add-one i))

    pub scan_stops : t ≡ true → refuse a (in_vector_at v i) ≡ verdict (first_rows a v f 0 (wholes fmt r) (marked r))
    scan_stops e = sym (scan_here ∙ ap (λ (b : Bool). first (verdict (row a (in_vector_at v i) b)) (verdict (first_rows a v f (i + 1) (drop (i + 1) (wholes fmt r)) (drop (i + 1) (marked r))))) e)

    pub scan_next : t ≡ false → Scanned fmt r a v f (i + 1)
    scan_next e = scan_here ∙ ap (λ (b : Bool). first (verdict (row a (in_vector_at v i) b)) (verdict (first_rows a v f (i + 1) (drop (i + 1) (wholes fmt r)) (drop (i + 1) (marked r))))) e

-- the walk goes on behind the position
pub walk-next : (r : Raw) (i j : ℕ) → Walk r i j → i < r.count → (l : std.Option ℕ) → l ≡ listed_at r.positions i j → (k : ℕ) → k ≡ behind (is_some l) j → Walk r (i + 1) k
walk-next r i j w more l el k ek =
    let is : is_next r.positions i j ≡ is_some l = sym (there_if (is_next r.positions i j) j) ∙ ap is_some (sym el) in
    subst (Walk r (i + 1)) (ap (λ (b : Bool). behind b j) is ∙ sym ek) (walk_step r i j w more).1

-- ---- for the stand-in: every position below i is listed

pub record Seeking (fmt : Format) (r : Raw) (i : ℕ) : Type 0 where
  pub walk : Walk r i i
  pub same : stand_in_of (wholes fmt r) (marked r) ≡ stand_in_of (drop i (wholes fmt r)) (drop i (marked r))

module _ (fmt : Format) (r : Raw) where
  pub seek_start : Walk r 0 0 → Seeking fmt r 0
  seek_start w = record { walk = w; same = refl }

  module _ (i : ℕ) (s : Seeking fmt r i) where
    pub seek_end : r.count ≤ i → pos 0 ≡ stand_in_of (wholes fmt r) (marked r)
    unfolding the_stand_in zip_with
    seek_end h = sym (s.same ∙ ap (λ (zs : List ℤ). stand_in_of zs (drop i (marked r))) (drop_of_length-le (wholes fmt r) {i = i} (omega (arith, wholes-count fmt r))))

    -- l says whether position i is listed
    module _ (more : i < r.count) (l : Bool) (el : l ≡ is_next r.positions i i) where
      abbrev here : ℤ
      here = get_or (wholes fmt r) i (pos 0)

      seek_here : stand_in_of (wholes fmt r) (marked r) ≡ stand_in_of (here ∷ drop (i + 1) (wholes fmt r)) (mark_of l (get_or r.exceptions i 0) ∷ drop (i + 1) (marked r))
      seek_here =
          s.same ∙ ap₂ stand_in_of (some_whole fmt r i more) (walk_step r i i s.walk more).0
          ∙ ap (λ (b : Bool). stand_in_of (here ∷ drop (i + 1) (wholes fmt r)) (mark_of b (get_or r.exceptions i 0) ∷ drop (i + 1) (marked r))) (sym el)

      pub seek_found : l ≡ false → here ≡ stand_in_of (wholes fmt r) (marked r)
      unfolding the_stand_in zip_with
      seek_found e = sym (seek_here ∙ ap (λ (b : Bool). stand_in_of (here ∷ drop (i + 1) (wholes fmt r)) (mark_of b (get_or r.exceptions i 0) ∷ drop (i + 1) (marked r))) e)

      pub seek_next : l ≡ true → Seeking fmt r (i + 1)
      unfolding the_stand_in zip_with
      seek_next e = record {
        walk = subst (Walk r (i + 1)) (ap (λ (b : Bool). behind b i) (sym el ∙ e)) (walk_step r i i s.walk more).1;
        same = seek_here ∙ ap (λ (b : Bool). stand_in_of (here ∷ drop (i + 1) (wholes fmt r)) (mark_of b (get_or r.exceptions i 0) ∷ drop (i + 1) (marked r))) e;
      }

-- ---- for the smallest whole number, and for the largest field

pub lesser-picked : (x z : ℤ) → min_by_ordering (int_cmp x z) x z ≡ lesser x z
lesser-picked (pos a) (pos b) = grind arith
lesser-picked (pos a) (negsuc b) = refl
lesser-picked (negsuc a) (pos b) = refl
lesser-picked (negsuc a) (negsuc b) = grind arith

least-fold : (x : ℤ) (zs : List ℤ) → fold lesser x zs ≡ least_of x zs
unfolding least_of
least-fold x [] = refl
least-fold x (z ∷ zs) = least-fold (lesser x z) zs

least-found : (zs : List ℤ) → unwrap_or (reduce lesser zs) (pos 0) ≡ least zs
unfolding least
least-found [] = refl
least-found (z ∷ zs) = least-fold z zs

-- the smallest whole number, of those position by position
pub smallest-found : (fmt : Format) (r : Raw) → unwrap_or (reduce lesser (map (λ i. get_or (wholes fmt r) i (pos 0)) (range_with_len 0 r.count))) (pos 0) ≡ least (wholes fmt r)
smallest-found fmt r =
    ap (λ (zs : List ℤ). unwrap_or (reduce lesser zs) (pos 0)) (sym (fill_by_all (λ i. get_or (wholes fmt r) i (pos 0)) (wholes fmt r) r.count (pos 0) (wholes-count fmt r) (λ k h. refl)))
    ∙ least-found (wholes fmt r)

greatest-fold : (x : ℕ) (xs : List ℕ) → fold max x xs ≡ max x (greatest xs)
unfolding greatest
greatest-fold x [] = omega arith
greatest-fold x (y ∷ ys) = let q = greatest-fold (max x y) ys in omega (arith, q)

greatest-found : (xs : List ℕ) → unwrap_or (reduce max xs) 0 ≡ greatest xs
unfolding greatest
greatest-found [] = refl
greatest-found (x ∷ xs) = greatest-fold x xs

-- the largest field, of the fields position by position
pub largest-found : (r : Raw) → unwrap_or (reduce max (map (λ i. get_or (fields r) i 0) (range_with_len 0 r.count))) 0 ≡ greatest (fields r)
largest-found r =
    ap (λ (xs : List ℕ). unwrap_or (reduce max xs) 0) (sym (fill_by_all (λ i. get_or (fields r) i 0) (fields r) r.count 0 (fields-count r) (λ k h. refl)))
    ∙ greatest-found (fields r)
