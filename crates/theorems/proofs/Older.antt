-- Pages by the older rule (docs/OLDER-PAGES.md). The reader gives their values. The examiner accepts one exactly where no value moved, that
-- is where each has the same whole number, or is an exception, under both rules; and then it is a page by the rule as it is. Otherwise it
-- refuses by 21 or 22 at the value that `moved_rows` says. No value moved whose scaled value is small. Assumes nothing.
use Prim.Native.Nat.{ℕ, suc, ◌*◌, ◌^◌, ◌≤◌}
use mathlib.Core.Path.{◌≡◌, refl, sym, ap, ap₂, ◌∙◌, subst}
use mathlib.Core.Logic.{◌↔◌}
use mathlib.Core.Bool.{Bool, true, false, not, ◌||◌, cond, true≢false}
use mathlib.Core.List.{List, [], ◌∷◌, map}
use mathlib.Core.Option.{Option, none, some}
use native.Mathlib.Nat.{le_trans, le_of_eq, lt_of_le_of_lt, mul-one}
use lib.ListN.{length, take, drop}
use lib.Dec.{eqb, lit<}
use lib.IntN.{ℤ}
use lib.Ieee.{Format, Float, nan, inf, fin, up, down, of_bits, is_nan}
use lib.Ieee.Fits.{down_pos}
use lib.Ieee.Nearest.{closest, closest_mono}
use mir.Val.{hbits}
use borrow.Author.Tests.{ltb-false}
use Rattle.digits.specs.Lists.{Each}
use Rattle.digits.proofs.Lists.{each_map, each_both}
use Rattle.rules.specs.Kind.{word, max_scaled}
use Rattle.rules.specs.Decimal.{Pair, scaled, rounded, back, is_infinite, is_negative_zero, beyond, exception, tried}
use Rattle.rules.specs.Floats.{Small}
use Rattle.rules.specs.Vector.{Raw, the_stand_in, filled, places, picks, raw_of, or_else}
use Rattle.rules.specs.Page.{layout, page_of}
use Rattle.rules.specs.Verdict.{fine, first, verdict, in_vector_at, done, call}
use Rattle.rules.specs.Read.{read_of}
use Rattle.rules.specs.Examine.{is_other, strays, needless, all_rules_rows, examine_rows, examine_of}
use Rattle.rules.specs.Write.{pair_bytes, write_of, PageOf}
use Rattle.rules.specs.Older.{older_whole, older_exception, older_tried, vectors_by, OlderPageOf, Unmoved, AllUnmoved, other_now, whole_now, value_rows, moved_rows}
use Rattle.rules.proofs.Rows.{row_first, first_fine, first-first, settle-done, or_false}
use Rattle.rules.proofs.Tries.{Held, max-held, signed-mag, kept_back, tried-is, tried-none}
use Rattle.rules.proofs.Powers.{closest_whole}
use Rattle.rules.proofs.Vectors.{ComesBack}
use Rattle.rules.proofs.Marks.{mark}
use Rattle.rules.proofs.Settings.{pairs_back, length-pair_bytes}
use Rattle.theorems.proofs.RoundTrip.{passes_by, raws_by, values-by, reads-by, page_by_rule}
use Rattle.theorems.proofs.Examined.{rules_by, same-again}
use Rattle.theorems.proofs.OnePage.{page_is_accepted}
use Rattle.theorems.proofs.Done.{writer_done}
use Rattle.theorems.proofs.Fast.{small_whole, small_inside}

-- ---- the older whole number of a value comes back, and is held

older-held : (fmt : Format) (y : Float) → beyond fmt y ≡ false → Held fmt (older_whole y)
unfolding older_whole beyond
older-held fmt nan e = absurd (true≢false e)
older-held fmt (inf s) e = absurd (true≢false e)
older-held fmt (fin s m e) h =
    let l : m * up e ≤ max_scaled fmt * down e = ltb-false (max_scaled fmt * down e) (m * up e) h in
    signed-mag s (closest (m * up e) (down e)) (2 ^ hbits (word fmt))
    (lt_of_le_of_lt (le_trans (closest_mono (m * up e) (down e) (max_scaled fmt) 1 (down_pos e) (lit< tt) (rw mul-one l)) (le_of_eq (closest_whole (max_scaled fmt)))) (max-held fmt))

older-some : (fmt : Format) (p : Pair) → ComesBack fmt p (older_tried fmt p)
unfolding older_tried older_exception
older-some fmt p b z e =
    let x : Float = of_bits fmt b in
    let y : Float = scaled fmt p x in
    let special : Bool = is_nan x || is_infinite x || is_negative_zero x in
    let k = kept_back fmt p b (special || beyond fmt y) (older_whole y) z e in
    (k.2, subst (Held fmt) k.1 (older-held fmt y (or_false special (beyond fmt y) k.0).1))

-- ---- what the examiner's rows 21 and 22 say of a value

module _ (fmt : Format) (p : Pair) (d : ℤ) where
  strays-moved : (x : ℕ) → strays fmt p (or_else d (older_tried fmt p x)) (mark (older_tried fmt p x) x) ≡ other_now (older_tried fmt p x) (tried fmt p x)
  strays-moved x = go (older_tried fmt p x) refl
    where
      go : (t : Option ℤ) → older_tried fmt p x ≡ t → strays fmt p (or_else d t) (mark t x) ≡ other_now t (tried fmt p x)
      go none e = refl
      go (some z) e = ap (λ (y : ℕ). is_other z (tried fmt p y)) (older-some fmt p x z e).0

  needless-moved : (x : ℕ) → needless fmt p (or_else d (older_tried fmt p x)) (mark (older_tried fmt p x) x) ≡ whole_now (older_tried fmt p x) (tried fmt p x)
  needless-moved x = go (older_tried fmt p x) (exception fmt p x) refl
    where
      go : (t : Option ℤ) (o : Bool) → exception fmt p x ≡ o → needless fmt p (or_else d t) (mark t x) ≡ whole_now t (tried fmt p x)
      go none true e = rw (e, tried-none fmt p x e)
      go none false e = rw (e, tried-is fmt p x e)
      go (some z) o e = refl

-- ---- the examiner's answer

vectors-moved : (fmt : Format) (v size : ℕ) (ps : List Pair) (vs : List ℕ) → verdict (all_rules_rows fmt v (vectors_by fmt (older_tried fmt) size ps vs)) ≡ verdict (moved_rows fmt v size ps vs)
unfolding all_rules_rows vectors_by moved_rows
vectors-moved fmt v size [] vs = refl
vectors-moved fmt v size (p ∷ ps) vs =
    let here = take size vs in
    let d = the_stand_in (map (older_tried fmt p) here) in
    let other : ℕ → Bool = λ x. other_now (older_tried fmt p x) (tried fmt p x) in
    let needed : ℕ → Bool = λ x. whole_now (older_tried fmt p x) (tried fmt p x) in
    let A = verdict (value_rows 21 v other 0 here) in
    let B = verdict (value_rows 22 v needed 0 here) in
    ap₂ first (rules_by fmt p (older_tried fmt p) (older-some fmt p) here v other needed (strays-moved fmt p d) (needless-moved fmt p d)) (vectors-moved fmt (suc v) size ps (drop size vs))
    ∙ first-first A B (verdict (moved_rows fmt (suc v) size ps (drop size vs)))

-- ---- where no value moved

-- the rows refuse at no value
value-fine : (a v i : ℕ) (moved : ℕ → Bool) (vs : List ℕ) → verdict (value_rows a v moved i vs) ≡ fine → Each (λ (x : ℕ). moved x ≡ false) vs
unfolding value_rows
value-fine a v i moved [] e = tt
value-fine a v i moved (x ∷ vs) e = let c = row_first a (in_vector_at v i) (moved x) _ e in (c.0, value-fine a v (suc i) moved vs c.1)

neither_moved : (t now : Option ℤ) → other_now t now ≡ false → whole_now t now ≡ false → t ≡ now
neither_moved none none h k = refl
neither_moved none (some y) h k = absurd (true≢false k)
neither_moved (some z) now h k = sym (same-again z now h)

rows_unmoved : (fmt : Format) (v size : ℕ) (ps : List Pair) (vs : List ℕ) → verdict (moved_rows fmt v size ps vs) ≡ fine → AllUnmoved fmt size ps vs
unfolding moved_rows
rows_unmoved fmt v size [] vs e = tt
rows_unmoved fmt v size (p ∷ ps) vs e =
    let here = take size vs in
    let other : ℕ → Bool = λ x. other_now (older_tried fmt p x) (tried fmt p x) in
    let needed : ℕ → Bool = λ x. whole_now (older_tried fmt p x) (tried fmt p x) in
    let a = first_fine (verdict (value_rows 21 v other 0 here)) _ e in
    let b = first_fine (verdict (value_rows 22 v needed 0 here)) _ a.1 in (
      each_map (λ (x : ℕ). (other x ≡ false) × (needed x ≡ false)) (Unmoved fmt p) (λ x h. neither_moved (older_tried fmt p x) (tried fmt p x) h.0 h.1) here
          (each_both (λ (x : ℕ). other x ≡ false) (λ (x : ℕ). needed x ≡ false) here (value-fine 21 v 0 other here a.0) (value-fine 22 v 0 needed here b.0)),
      rows_unmoved fmt (suc v) size ps (drop size vs) b.1,
    )

-- then the page is the one by the rule
map-unmoved : (fmt : Format) (p : Pair) (vs : List ℕ) → Each (Unmoved fmt p) vs → map (older_tried fmt p) vs ≡ map (tried fmt p) vs
map-unmoved fmt p [] h = refl
map-unmoved fmt p (v ∷ vs) h = ap₂ (λ (t : Option ℤ) (ts : List (Option ℤ)). t ∷ ts) h.0 (map-unmoved fmt p vs h.1)

vectors-unmoved : (fmt : Format) (size : ℕ) (ps : List Pair) (vs : List ℕ) → AllUnmoved fmt size ps vs → vectors_by fmt (older_tried fmt) size ps vs ≡ vectors_by fmt (tried fmt) size ps vs
unfolding vectors_by
vectors-unmoved fmt size [] vs h = refl
vectors-unmoved fmt size (p ∷ ps) vs h =
    ap₂ (λ (ts : List (Option ℤ)) (rs : List Raw). raw_of fmt p (filled ts) (places 0 ts) (picks ts (take size vs)) ∷ rs) (map-unmoved fmt p (take size vs) h.0) (vectors-unmoved fmt size ps (drop size vs) h.1)

module _ (fmt : Format) (bs : List ℕ) (s : ℕ) (ps : List Pair) (vs : List ℕ) (older : OlderPageOf fmt bs s ps vs) where
  -- the reader gives the values
  pub older_pages_read_back : (room : ℕ) → length vs ≤ room → read_of fmt room bs ≡ done vs
  older_pages_read_back room h =
      subst (λ (x : List ℕ). read_of fmt room x ≡ done vs) (sym older.page_is) (reads-by fmt (older_tried fmt) (older-some fmt) s ps vs older.inside older.values room h)

  -- the examiner's answer goes by the two rules alone: the first vector with a value that moved, in it 21 before 22, in that the first
  pub older_pages_answer : examine_of fmt bs ≡ call (moved_rows fmt 0 (2 ^ s) ps vs) vs
  unfolding examine_of examine_rows
  older_pages_answer =
      let i = older.inside in
      let ok = older.values in
      rw (
        older.page_is,
        passes_by fmt (older_tried fmt) (older-some fmt) s ps vs i ok,
        values-by fmt (older_tried fmt) (older-some fmt) s ps vs i ok,
        raws_by fmt (older_tried fmt) (older-some fmt) s ps vs i ok,
        vectors-moved fmt 0 (2 ^ s) ps vs,
      )

  -- where no value moved, it is a page by the rule
  pub older_pages_kept : AllUnmoved fmt (2 ^ s) ps vs → PageOf fmt bs s ps vs
  older_pages_kept h = record {
    inside = older.inside;
    values = older.values;
    page_is = older.page_is ∙ ap (layout fmt s (length vs)) (vectors-unmoved fmt (2 ^ s) ps vs h) ∙ page_by_rule fmt s ps vs;
  }

  -- so the examiner accepts it, and only then
  pub older_pages_accepted : (examine_of fmt bs ≡ done vs) ↔ AllUnmoved fmt (2 ^ s) ps vs
  older_pages_accepted = (
    (λ e. rows_unmoved fmt 0 (2 ^ s) ps vs (settle-done (verdict (moved_rows fmt 0 (2 ^ s) ps vs)) vs vs (sym older_pages_answer ∙ e)).0),
    (λ h. ap (examine_of fmt) (older_pages_kept h).page_is ∙ page_is_accepted fmt s ps vs older.inside older.values),
  )

  -- any is brought up to date by writing its values again with its settings: the page is accepted and has the same values
  pub older_pages_renewed : (room : ℕ) → length (page_of fmt s ps vs) ≤ room → (write_of fmt s (pair_bytes ps) vs room ≡ done (page_of fmt s ps vs)) × (examine_of fmt (page_of fmt s ps vs) ≡ done vs)
  older_pages_renewed room h =
      let i = older.inside in
      let give = (writer_done fmt s (pair_bytes ps) vs room).1 in
      ((rw (pairs_back ps) at give) (length-pair_bytes ps ∙ ap (λ (n : ℕ). 2 * n) i.one_each, i, h), page_is_accepted fmt s ps vs i older.values)

-- ---- no value moved whose scaled value is small

or_none : (a b : Bool) → b ≡ false → (a || b) ≡ a
or_none true b e = refl
or_none false b e = e

pub small_values_are_unmoved : (fmt : Format) (p : Pair) (v : ℕ) → Small fmt (scaled fmt p (of_bits fmt v)) → Unmoved fmt p v
unfolding tried exception older_tried older_exception
small_values_are_unmoved fmt p v h =
    let x : Float = of_bits fmt v in
    let y : Float = scaled fmt p x in
    let before : Bool = is_nan x || is_infinite x || is_negative_zero x || beyond fmt y in
    sym
    (ap₂ (λ (z : ℤ) (o : Bool). cond (o || not (eqb (back fmt p z) v)) none (some z)) (small_whole fmt y h) (or_none before (beyond fmt (rounded fmt y)) (small_inside fmt y h)))

-- nor one whose scaled value is infinite, no number, or beyond L: it is an exception under both rules
pub values_beyond_are_unmoved : (fmt : Format) (p : Pair) (v : ℕ) → beyond fmt (scaled fmt p (of_bits fmt v)) ≡ true → Unmoved fmt p v
unfolding tried exception older_tried older_exception
values_beyond_are_unmoved fmt p v h =
    let x : Float = of_bits fmt v in
    let special : Bool = is_nan x || is_infinite x || is_negative_zero x in
    let refused : (special || beyond fmt (scaled fmt p x)) ≡ true = ap (λ (o : Bool). special || o) h ∙ or_true special in
    rw refused
  where
    or_true : (a : Bool) → (a || true) ≡ true
    or_true true = refl
    or_true false = refl
