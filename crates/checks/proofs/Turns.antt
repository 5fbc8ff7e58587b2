-- One turn of each loop, on plain lists: over the positions of a vector, and over the vectors of a page. Assumes nothing.
use mathlib.Core.Path.{◌≡◌, refl, sym, ap, ap₂, ◌∙◌}
use mathlib.Core.Bool.{not, ◌||◌}
use mathlib.Core.List.{List, [], ◌∷◌}
use Prim.Native.Nat.{ℕ, ◌+◌, ◌-◌, ◌*◌, ◌^◌, ◌≤◌, ◌<◌, min}
use native.Mathlib.Nat.{add_assoc}
use native.Mathlib.Numerals.{add-one}
use native.Mathlib.Omega.{arith}
use lib.ListN.{length, take, drop, length-drop}
use lib.Seq.{drop-drop}
use lib.Ieee.{Format}
use borrow.Author.Tests.{lt-ltb, le-ltb}
use Rattle.std.specs.Prelude.{Result, Ok, Err}
use Rattle.std.specs.Result.{IsErrAnd}
use Rattle.digits.specs.Digits.{number, numbers, packed_size}
use Rattle.digits.proofs.Rows.{numbers-at, numbers-start, numbers-end}
use Rattle.rules.specs.Kind.{meta_bytes}
use Rattle.rules.specs.Page.{Meta, s_of, count_of, vectors_of, offsets_of, body_of, vector_size, meta_at, raw_from, raws_from, raws_of}
use Rattle.rules.specs.Verdict.{Rows, row, Verdict, fine, refuse, first, verdict, the_page, in_vector_at, ◌above◌, ◌below◌}
use Rattle.rules.specs.Read.{start, positions_rows, vector_rows, vectors_rows, page_rows}
use Rattle.rules.specs.Vector.{Raw}
use Rattle.checks.specs.declared.check.Refusal.{Refusal}
use Rattle.rules.proofs.Rows.{first_fine}
use Rattle.rules.proofs.Reading.{Passed, vector-fine, page_fine}
use Rattle.checks.specs.Forms.{as_verdict, no_position}
use Rattle.checks.proofs.Refusals.{check_fine, stops, continues}

-- ---- row 13

-- the rows of the positions from index i on, where the next may be `low` at least
abbrev pub positions-left : List ℕ → ℕ → ℕ → ℕ → ℕ → ℕ → ℕ → Rows
positions-left part at listed v n low i = positions_rows v n (record { index = i; low = low }) (numbers 2 (listed - i) (drop (at + 2 * i) part))

module _ (part : List ℕ) (at listed v n low i p : ℕ) (X : Verdict) (more : i < listed) (e : p ≡ number (take 2 (drop (at + 2 * i) part)))
    (inv : X ≡ verdict (positions-left part at listed v n low i)) where
  position : X ≡ first (verdict (row 13 (in_vector_at v i) (not (p below n) || p below low))) (verdict (positions-left part at listed v n (p + 1) (i + 1)))
  unfolding positions_rows
  position =
      rw (add-one p, add-one i)
      (inv
      ∙ ap (λ (x : List ℕ). verdict (positions_rows v n (record { index = i; low = low }) x))
      (numbers-at 2 listed i at part more ∙ ap₂ (λ (x j : ℕ). x ∷ numbers 2 (listed - j) (drop (at + 2 * j) part)) (sym e) (add-one i)))

  pub position_high : n ≤ p → refuse 13 (in_vector_at v i) ≡ X
  position_high h = rw (position, le-ltb p n h)

  pub position_low : p < n → p < low → refuse 13 (in_vector_at v i) ≡ X
  position_low h k = rw (position, lt-ltb p n h, lt-ltb p low k)

  pub position_next : p < n → low ≤ p → X ≡ verdict (positions-left part at listed v n (p + 1) (i + 1))
  position_next h k = position ∙ rw (lt-ltb p n h, le-ltb p low k)

pub positions-end : (part : List ℕ) (at listed v n low i : ℕ) (X : Verdict) → listed ≤ i → X ≡ verdict (positions-left part at listed v n low i) → fine ≡ X
unfolding positions_rows
positions-end part at listed v n low i X h inv = rw (inv, numbers-end 2 listed i (drop (at + 2 * i) part) h)

pub positions-start : (part : List ℕ) (at listed v n : ℕ)
    → verdict (positions_rows v n no_position (numbers 2 listed (drop at part))) ≡ verdict (positions-left part at listed v n 0 0)
positions-start part at listed v n = ap (λ (x : List ℕ). verdict (positions_rows v n no_position x)) (numbers-start 2 listed at part)

-- where the positions of a vector stand
pub list_is : (fmt : Format) (n : ℕ) (m : Meta) (bs : List ℕ)
    → numbers 2 m.listed (drop (meta_bytes fmt + packed_size n m.width) bs) ≡ (raw_from fmt n m (drop (meta_bytes fmt) bs)).positions
unfolding raw_from
list_is fmt n m bs = ap (numbers 2 m.listed) (sym (drop-drop (packed_size n m.width) (meta_bytes fmt) bs))

-- ---- the vectors, then row 14

-- the rows of the vectors from number v on, the next of which is at offset `at` and has its share of `left` values
abbrev pub vectors-left : Format → List ℕ → ℕ → ℕ → ℕ → ℕ → ℕ → Rows
vectors-left fmt page size many v at left =
    vectors_rows fmt size (record { vector = v; offset = at; left = left }) (numbers 4 (many - v) (drop (8 + 4 * v) page)) (drop (8 + at) page)

-- what stands behind s bytes from there
behind : (page : List ℕ) (at s : ℕ) → drop s (drop (8 + at) page) ≡ drop (8 + (at + s)) page
behind page at s = drop-drop s (8 + at) page ∙ ap (λ (x : ℕ). drop x page) (add_assoc 8 at s)

module _ (fmt : Format) (page part : List ℕ) (size many v at left o n k : ℕ) (X : Verdict) (more : v < many)
    (ep : part ≡ drop (8 + at) page) (eo : o ≡ number (take 4 (drop (8 + 4 * v) page))) (en : n ≡ min size left) (ek : k ≡ vector_size fmt n (meta_at fmt part))
    (inv : X ≡ verdict (vectors-left fmt page size many v at left)) where
  vector-turn : X ≡ first (verdict (vector_rows fmt size (record { vector = v; offset = at; left = left }) o (meta_at fmt part) part)) (verdict (vectors-left fmt page size many (v + 1) (at + k) (left - n)))
  unfolding vectors_rows
  vector-turn =
      let B : List ℕ = drop (8 + at) page in
      let S : ℕ = vector_size fmt (min size left) (meta_at fmt B) in
      let os : List ℕ = numbers 4 (many - (v + 1)) (drop (8 + 4 * (v + 1)) page) in
      let l : left - size ≡ left - min size left = omega arith in
      rw (ek, ep, en)
      (inv ∙ ap (λ (x : List ℕ). verdict (vectors_rows fmt size (record { vector = v; offset = at; left = left }) x B)) (numbers-at 4 many v 8 page more ∙ ap (λ (x : ℕ). x ∷ os) (sym eo))
      ∙ ap (λ (x : ℕ). first (verdict (vector_rows fmt size (record { vector = v; offset = at; left = left }) o (meta_at fmt B) B)) (verdict (vectors_rows fmt size (record { vector = x; offset = at + S; left = left - size }) os (drop S B)))) (sym (add-one v))
      ∙ ap₂ (λ (x : ℕ) (y : List ℕ). first (verdict (vector_rows fmt size (record { vector = v; offset = at; left = left }) o (meta_at fmt B) B)) (verdict (vectors_rows fmt size (record { vector = v + 1; offset = at + S; left = x }) os y))) l (behind page at S))

-- a vector whose bytes are all there ends inside the page
pub ends_inside : (page part : List ℕ) (at k : ℕ) → part ≡ drop (8 + at) page → 8 + at ≤ length page → k ≤ length part → 8 + (at + k) ≤ length page
ends_inside page part at k e h l = let d = ap length e ∙ length-drop (8 + at) page in omega arith

-- the vector of number v has been checked: r is what its rows gave, and X what all rows come to
pub record Checked (fmt : Format) (page part : List ℕ) (size many v at left o : ℕ) (X : Verdict) (r : Result Unit Refusal) : Type 0 where
  pub more : v < many
  pub fits : 8 + at ≤ length page
  pub part_is : part ≡ drop (8 + at) page
  pub offset_is : o ≡ number (take 4 (drop (8 + 4 * v) page))
  pub rows_left : X ≡ verdict (vectors-left fmt page size many v at left)
  pub gave : as_verdict r ≡ verdict (vector_rows fmt size (record { vector = v; offset = at; left = left }) o (meta_at fmt part) part)

module _ {fmt : Format} {page part : List ℕ} {size many v at left o : ℕ} {X : Verdict} {r : Result Unit Refusal} (c : Checked fmt page part size many v at left o X r) where
  -- it refuses, and so does the page
  pub vector-refuses : (s : Result Unit Refusal) (a : Refusal) → r ≡ Err a → IsErrAnd s (λ b. b ≡ a) → as_verdict s ≡ X
  vector-refuses s a f h = stops r c.gave s a _ f h ∙ sym (vector-turn fmt page part size many v at left o (min size left) _ X c.more c.part_is c.offset_is refl refl c.rows_left)

  -- it passes
  module _ {u : Unit} (ok : r ≡ Ok u) where
    pub vector-shown : Passed fmt (min size left) (meta_at fmt part) part
    vector-shown = (vector-fine fmt size (record { vector = v; offset = at; left = left }) o (meta_at fmt part) part (check_fine r c.gave ok)).1

    module _ (n k : ℕ) (en : n ≡ min size left) (ek : k ≡ vector_size fmt n (meta_at fmt part)) where
      pub vector-inside : 8 + (at + k) ≤ length page
      vector-inside =
          let whole = vector-shown.whole in
          ends_inside page part at k c.part_is c.fits (omega (arith, whole, ek, ap (λ (x : ℕ). vector_size fmt x (meta_at fmt part)) en))

      pub vector-next : X ≡ verdict (vectors-left fmt page size many (v + 1) (at + k) (left - n))
      vector-next = continues r c.gave _ X ok (vector-turn fmt page part size many v at left o n k X c.more c.part_is c.offset_is en ek c.rows_left)

module _ (fmt : Format) (page : List ℕ) (size many v at left : ℕ) (X : Verdict) (last : many ≤ v) (fits : 8 + at ≤ length page)
    (inv : X ≡ verdict (vectors-left fmt page size many v at left)) where
  at_end : X ≡ verdict (row 14 the_page ((length page - (8 + at)) above 0))
  unfolding vectors_rows
  at_end =
      inv ∙ ap (λ (x : List ℕ). verdict (vectors_rows fmt size (record { vector = v; offset = at; left = left }) x (drop (8 + at) page))) (numbers-end 4 many v (drop (8 + 4 * v) page) last)
      ∙ ap (λ (x : ℕ). verdict (row 14 the_page (x above 0))) (length-drop (8 + at) page)

  pub no14 : 8 + at < length page → refuse 14 the_page ≡ X
  no14 h = rw (at_end, lt-ltb 0 (length page - (8 + at)) (omega arith))

  pub ends : length page ≤ 8 + at → fine ≡ X
  ends h = rw (at_end, le-ltb 0 (length page - (8 + at)) (omega arith))

-- where the loop begins
pub vectors-start : (fmt : Format) (page : List ℕ) (size many left : ℕ) → size ≡ 2 ^ s_of page → many ≡ vectors_of page → left ≡ count_of page
    → verdict (vectors_rows fmt (2 ^ s_of page) (start page) (offsets_of page) (body_of page)) ≡ verdict (vectors-left fmt page size many 0 (4 * many) left)
unfolding offsets_of body_of
vectors-start fmt page size many left es em el =
    rw (es, em, el)
    (ap (λ (x : List ℕ). verdict (vectors_rows fmt (2 ^ s_of page) (start page) x (drop (8 + 4 * vectors_of page) page))) (numbers-start 4 (vectors_of page) 8 page))

-- ---- over a page that passed: what each vector's rows showed, and the vectors as they are read

-- the vectors from number v on, as the rules read them
abbrev pub raws_left : Format → List ℕ → ℕ → ℕ → ℕ → ℕ → ℕ → List Raw
raws_left fmt page size many v at left = raws_from fmt size left (numbers 4 (many - v) (drop (8 + 4 * v) page)) (drop (8 + at) page)

pub vectors_passed_start : (fmt : Format) (page : List ℕ) (size many left : ℕ) → size ≡ 2 ^ s_of page → many ≡ vectors_of page → left ≡ count_of page
    → verdict (page_rows fmt page) ≡ fine → verdict (vectors-left fmt page size many 0 (4 * many) left) ≡ fine
vectors_passed_start fmt page size many left es em el ok = sym (vectors-start fmt page size many left es em el) ∙ (page_fine fmt page ok).1

pub raws_start : (fmt : Format) (page : List ℕ) (size many left : ℕ) → size ≡ 2 ^ s_of page → many ≡ vectors_of page → left ≡ count_of page
    → raws_of fmt page ≡ raws_left fmt page size many 0 (4 * many) left
unfolding raws_of offsets_of body_of
raws_start fmt page size many left es em el =
    rw (es, em, el)
    (ap (λ (x : List ℕ). raws_from fmt (2 ^ s_of page) (count_of page) x (drop (8 + 4 * vectors_of page) page)) (numbers-start 4 (vectors_of page) 8 page))

pub raws_end : (fmt : Format) (page : List ℕ) (size many v at left : ℕ) → many ≤ v → raws_left fmt page size many v at left ≡ []
unfolding raws_from
raws_end fmt page size many v at left last = rw (numbers-end 4 many v (drop (8 + 4 * v) page) last)

module _ (fmt : Format) (page part : List ℕ) (size many v at left n k : ℕ) (more : v < many)
    (ep : part ≡ drop (8 + at) page) (en : n ≡ min size left) (ek : k ≡ vector_size fmt n (meta_at fmt part)) where
  pub raws_turn : raws_left fmt page size many v at left ≡ raw_from fmt n (meta_at fmt part) (drop (meta_bytes fmt) part) ∷ raws_left fmt page size many (v + 1) (at + k) (left - n)
  unfolding raws_from
  raws_turn =
      let B : List ℕ = drop (8 + at) page in
      let S : ℕ = vector_size fmt (min size left) (meta_at fmt B) in
      let os : List ℕ = numbers 4 (many - (v + 1)) (drop (8 + 4 * (v + 1)) page) in
      let l : left - size ≡ left - min size left = omega arith in
      rw (ek, ep, en)
      (ap (λ (x : List ℕ). raws_from fmt size left x B) (numbers-at 4 many v 8 page more)
      ∙ ap₂ (λ (x : ℕ) (y : List ℕ). raw_from fmt (min size left) (meta_at fmt B) (drop (meta_bytes fmt) B) ∷ raws_from fmt size x os y) l (behind page at S))

  module _ (ok : verdict (vectors-left fmt page size many v at left) ≡ fine) where
    passing : (verdict (vector_rows fmt size (record { vector = v; offset = at; left = left }) (number (take 4 (drop (8 + 4 * v) page))) (meta_at fmt part) part) ≡ fine) × (verdict (vectors-left fmt page size many (v + 1) (at + k) (left - n)) ≡ fine)
    passing = first_fine _ (verdict (vectors-left fmt page size many (v + 1) (at + k) (left - n))) (sym (vector-turn fmt page part size many v at left (number (take 4 (drop (8 + 4 * v) page))) n k fine more ep refl en ek (sym ok)))

    pub vector-passed : Passed fmt n (meta_at fmt part) part
    vector-passed = rw en (vector-fine fmt size (record { vector = v; offset = at; left = left }) (number (take 4 (drop (8 + 4 * v) page))) (meta_at fmt part) part passing.0).1

    pub vectors-passed : verdict (vectors-left fmt page size many (v + 1) (at + k) (left - n)) ≡ fine
    vectors-passed = passing.1
