-- Rows 20 to 24 of one vector, both ways: a vector that was encoded passes them, and one that passes is the one encoded for its values.
-- Assumes nothing.
use mathlib.Core.Path.{◌≡◌, refl, sym, ap, ap₂, ◌∙◌}
use mathlib.Core.Bool.{Bool, false, not, ◌||◌}
use Prim.Native.Nat.{ℕ, suc, ◌+◌, ◌*◌, ◌^◌, ◌<◌}
use native.Mathlib.Nat.{le_refl, le_trans, lt_of_lt_of_le, suc_inj, le-suc, eq-or-lt_of_le}
use native.Mathlib.Omega.{arith}
use mathlib.Core.Logic.{inl, inr}
use mathlib.Core.List.{List, [], ◌∷◌, map, zip_with}
use mathlib.Core.Option.{Option, none, some}
use lib.ListN.{length, length-map}
use lib.Pow.{pow_pos}
use lib.IntN.{ℤ, pos, nat_abs, ◌+ℤ◌, ◌-ℤ◌}
use lib.Ieee.{Format}
use borrow.Author.Tests.{lt-ltb, ltb-true, not-false}
use mir.Val.{hbits, of_z, to_z}
use mir.Facts.{to_z-of_z}
use Rattle.digits.specs.Lists.{Each}
use Rattle.digits.specs.Digits.{number, pack}
use Rattle.digits.proofs.Lists.{each_below}
use Rattle.digits.proofs.Pack.{of_pack, fields-lt, pack-unpack}
use Rattle.rules.specs.Kind.{word, Bytes}
use Rattle.rules.specs.Decimal.{Pair, exception, tried, back}
use Rattle.rules.specs.Vector.{Raw, tries, the_stand_in, filled, or_else, least, fields_of, width_of, places, picks, raw_of, encoded, fields, wholes, marks, marked, decoded}
use Rattle.rules.specs.Verdict.{Rows, row, ◌then◌, fine, first, verdict, in_vector, in_vector_at, ◌below◌}
use Rattle.rules.specs.Examine.{unused_set, is_other, strays, needless, unfilled, unlisted, stand_in_of, frame_off, width_off, first_rows, rules_rows}
use Rattle.rules.specs.Older.{vector_by, value_rows}
use Rattle.rules.proofs.Rows.{row_fine, row_first, first_passes, first_fine, first-end, is, isnt_false, same_number, not_other, or_false}
use Rattle.rules.proofs.Order.{least-one, width-holds}
use Rattle.rules.proofs.Fields.{field_forth}
use Rattle.rules.proofs.Tries.{Held, tried-some, none_excepted, tried-none}
use Rattle.rules.proofs.Marks.{mark, marks-back, stored-nil, stored_here, stored-none, marks-skip}
use Rattle.rules.proofs.Vectors.{ComesBack, turns-filled, length_fields, fields_back, wholes-back}
use Rattle.rules.proofs.Encoded.{turned-count}
use Rattle.rules.proofs.Decoded.{wholes-count, marked-count}
use Rattle.rules.proofs.Pages.{Fit}
use Rattle.rules.proofs.Reading.{Rising, Sound}

-- ---- what the rows say of a vector that was encoded, by whatever way values are turned that come back

module _ (turn : ℕ → Option ℤ) (d : ℤ) where
  -- a condition at each whole number with its mark is one at each value
  first-at : (a v i : ℕ) (at-fault : ℤ → Option ℕ → Bool) (moved : ℕ → Bool) (vs : List ℕ) → ((x : ℕ) → at-fault (or_else d (turn x)) (mark (turn x) x) ≡ moved x)
      → first_rows a v at-fault i (map (or_else d) (map turn vs)) (zip_with mark (map turn vs) vs) ≡ value_rows a v moved i vs
  unfolding first_rows zip_with value_rows
  first-at a v i at-fault moved [] h = refl
  first-at a v i at-fault moved (x ∷ vs) h = ap₂ (λ (b : Bool) (rows : Rows). row a (in_vector_at v i) b then rows) (h x) (first-at a v (suc i) at-fault moved vs h)

  unlisted-back : (vs : List ℕ) → zip_with unlisted (map (or_else d) (map turn vs)) (zip_with mark (map turn vs) vs) ≡ map turn vs
  unfolding zip_with
  unlisted-back [] = refl
  unlisted-back (x ∷ vs) = ap₂ (λ (t : Option ℤ) (ts : List (Option ℤ)). t ∷ ts) (one (turn x)) (unlisted-back vs)
    where
      one : (t : Option ℤ) → unlisted (or_else d t) (mark t x) ≡ t
      one none = refl
      one (some z) = refl

  never_unfilled : (x : ℕ) → unfilled d (or_else d (turn x)) (mark (turn x) x) ≡ false
  never_unfilled x = go (turn x)
    where
      go : (t : Option ℤ) → unfilled d (or_else d t) (mark t x) ≡ false
      go none = same_number d
      go (some z) = refl

abbrev never : ℕ → Bool
never x = false

none_at : (a v i : ℕ) (vs : List ℕ) → verdict (value_rows a v never i vs) ≡ fine
unfolding value_rows
none_at a v i [] = refl
none_at a v i (x ∷ vs) = none_at a v (suc i) vs

module _ (fmt : Format) (p : Pair) (turn : ℕ → Option ℤ) (comes : ComesBack fmt p turn) (vs : List ℕ) where
  abbrev ts : List (Option ℤ)
  ts = map turn vs

  abbrev zs : List ℤ
  zs = filled ts

  abbrev fs : List ℕ
  fs = fields_of zs

  abbrev r : Raw
  r = vector_by fmt p turn vs

  marked-back : marked r ≡ zip_with mark ts vs
  unfolding marked raw_of
  marked-back = ap (marks (places 0 ts) (picks ts vs) 0) (turned-count fmt p turn comes vs) ∙ marks-back 0 ts vs (length-map vs turn)

  none_unused : unused_set r ≡ false
  unfolding raw_of
  none_unused =
      let w : ℕ = width_of fs in
      let h = each_below (2 ^ w) fs (pow_pos w) (width-holds fs) in
      let e : 2 ^ (length fs * w) ≡ 2 ^ (length zs * w) = ap (λ (n : ℕ). 2 ^ (n * w)) (length_fields zs) in
      ap not (lt-ltb (number (pack w fs)) (2 ^ (length zs * w)) (rw (of_pack w fs h, ← e) (fields-lt w fs h)))

  pair_is : r.pair ≡ p
  unfolding raw_of
  pair_is = refl

  wholes-is : wholes fmt r ≡ zs
  wholes-is = wholes-back fmt p zs (places 0 ts) (picks ts vs) (turns-filled fmt p turn comes vs)

  fields-is : fields r ≡ fs
  fields-is = fields_back fmt p zs (places 0 ts) (picks ts vs)

  frame_is : r.frame ≡ of_z (word fmt) (least zs)
  unfolding raw_of
  frame_is = refl

  width_is : r.width ≡ width_of fs
  unfolding raw_of
  width_is = refl

  -- it passes 20, 23 and 24; 21 and 22 go by what is made of each value
  module _ (v : ℕ) (other needed : ℕ → Bool) (strayed : (x : ℕ) → strays fmt p (or_else (the_stand_in ts) (turn x)) (mark (turn x) x) ≡ other x) (listed : (x : ℕ) → needless fmt p (or_else (the_stand_in ts) (turn x)) (mark (turn x) x) ≡ needed x) where
    pub rules_by : verdict (rules_rows fmt v (vector_by fmt p turn vs)) ≡ first (verdict (value_rows 21 v other 0 vs)) (verdict (value_rows 22 v needed 0 vs))
    unfolding rules_rows
    rules_by =
        let d : ℤ = the_stand_in ts in
        rw (
          none_unused,
          wholes-is,
          marked-back,
          fields-is,
          pair_is,
          frame_is,
          width_is,
          first-at turn d 21 v 0 (strays fmt p) other vs strayed,
          first-at turn d 22 v 0 (needless fmt p) needed vs listed,
          unlisted-back turn d vs,
          first-at turn d 23 v 0 (unfilled d) never vs (never_unfilled turn d),
          none_at 23 v 0 vs,
          is (of_z (word fmt) (least zs)) (of_z (word fmt) (least zs)) refl,
          is (width_of fs) (width_of fs) refl,
        )
        (ap (first (verdict (value_rows 21 v other 0 vs))) (first-end (verdict (value_rows 22 v needed 0 vs))))

-- ---- by the rule it passes them all

module _ (fmt : Format) (p : Pair) (d : ℤ) where
  never_strays : (x : ℕ) → strays fmt p (or_else d (tried fmt p x)) (mark (tried fmt p x) x) ≡ false
  never_strays x = go (tried fmt p x) refl
    where
      go : (t : Option ℤ) → tried fmt p x ≡ t → strays fmt p (or_else d t) (mark t x) ≡ false
      go none e = refl
      go (some z) e = rw ((tried-some fmt p x z e).0, e) (same_number z)

  never_needless : (x : ℕ) → needless fmt p (or_else d (tried fmt p x)) (mark (tried fmt p x) x) ≡ false
  never_needless x = go (tried fmt p x) refl
    where
      go : (t : Option ℤ) → tried fmt p x ≡ t → needless fmt p (or_else d t) (mark t x) ≡ false
      go none e = ap not (none_excepted fmt p x e)
      go (some z) e = refl

pub encoded-passes : (fmt : Format) (p : Pair) (vs : List ℕ) (v : ℕ) → verdict (rules_rows fmt v (encoded fmt p vs)) ≡ fine
unfolding encoded
encoded-passes fmt p vs v =
    let d = the_stand_in (tries fmt p vs) in
    rules_by fmt p (tried fmt p) (tried-some fmt p) vs v never never (never_strays fmt p d) (never_needless fmt p d)
    ∙ first_passes (verdict (value_rows 21 v never 0 vs)) (verdict (value_rows 22 v never 0 vs)) (none_at 21 v 0 vs) (none_at 22 v 0 vs)

-- ---- a vector that passes is the one that is encoded for its values

-- a condition is false at each whole number with its mark
abbrev Never : (ℤ → Option ℕ → Bool) → List ℤ → List (Option ℕ) → Type 0
Never at-fault [] ms = Unit
Never at-fault (z ∷ zs) [] = Unit
Never at-fault (z ∷ zs) (m ∷ ms) = (at-fault z m ≡ false) × Never at-fault zs ms

first-never : (a v i : ℕ) (at-fault : ℤ → Option ℕ → Bool) (zs : List ℤ) (ms : List (Option ℕ)) → verdict (first_rows a v at-fault i zs ms) ≡ fine → Never at-fault zs ms
unfolding first_rows
first-never a v i at-fault [] ms e = tt
first-never a v i at-fault (z ∷ zs) [] e = tt
first-never a v i at-fault (z ∷ zs) (m ∷ ms) e =
    let c = row_first a (in_vector_at v i) (at-fault z m) _ e in
    (c.0, first-never a v (suc i) at-fault zs ms c.1)

pub same-again : (z : ℤ) (t : Option ℤ) → is_other z t ≡ false → t ≡ some z
same-again z none h = let o : ◌≡◌ {A = ℕ} 0 1 = cc in absurd (omega arith)
same-again z (some y) h = ap some (sym (not_other z y h))

rising-above : (n low i : ℕ) (ps : List ℕ) → i < low → Rising n low ps → Each (λ (p : ℕ). i < p) ps
rising-above n low i [] h r = tt
rising-above n low i (p ∷ ps) h r = (lt_of_lt_of_le h r.0, rising-above n (suc p) i ps (lt_of_lt_of_le h (le_trans r.0 (le-suc p))) r.2)

module _ (fmt : Format) (p : Pair) where
  abbrev value : ℤ → Option ℕ → ℕ
  value z m = or_else (back fmt p z) m

  tries-are : (zs : List ℤ) (ms : List (Option ℕ)) → Never (strays fmt p) zs ms → Never (needless fmt p) zs ms → tries fmt p (zip_with value zs ms) ≡ zip_with unlisted zs ms
  unfolding zip_with
  tries-are [] ms h k = refl
  tries-are (z ∷ zs) [] h k = refl
  tries-are (z ∷ zs) (none ∷ ms) h k =
      ap₂ (λ (t : Option ℤ) (ts : List (Option ℤ)). t ∷ ts) (same-again z (tried fmt p (back fmt p z)) h.0) (tries-are zs ms h.1 k.1)
  tries-are (z ∷ zs) (some b ∷ ms) h k =
      ap₂ (λ (t : Option ℤ) (ts : List (Option ℤ)). t ∷ ts) (tried-none fmt p b (not-false (exception fmt p b) k.0)) (tries-are zs ms h.1 k.1)

  filled-are : (d : ℤ) (zs : List ℤ) (ms : List (Option ℕ)) → length zs ≡ length ms → Never (unfilled d) zs ms → map (or_else d) (zip_with unlisted zs ms) ≡ zs
  unfolding zip_with
  filled-are d [] ms e h = refl
  filled-are d (z ∷ zs) [] e h = absurd (omega (arith, e))
  filled-are d (z ∷ zs) (none ∷ ms) e h = ap (λ (l : List ℤ). z ∷ l) (filled-are d zs ms (suc_inj e) h.1)
  filled-are d (z ∷ zs) (some b ∷ ms) e h = ap₂ (λ (y : ℤ) (l : List ℤ). y ∷ l) (sym (not_other z d h.0)) (filled-are d zs ms (suc_inj e) h.1)

  -- rising positions and their values are found again
  lists-are : (end i : ℕ) (zs : List ℤ) (ps xs : List ℕ) → i + length zs ≡ end → Rising end i ps → length xs ≡ length ps
      → (places i (zip_with unlisted zs (marks ps xs i (length zs))) ≡ ps) × (picks (zip_with unlisted zs (marks ps xs i (length zs))) (zip_with value zs (marks ps xs i (length zs))) ≡ xs)
  unfolding zip_with places picks marks
  lists-are end i [] [] [] e r l = (refl, refl)
  lists-are end i [] [] (x ∷ xs) e r l = absurd (omega (arith, l))
  lists-are end i [] (q ∷ ps) xs e r l = absurd (omega (arith, e, r.0, r.1))
  lists-are end i (z ∷ zs) [] [] e r l = rw stored-nil (lists-are end (suc i) zs [] [] (omega (arith, e)) tt refl)
  lists-are end i (z ∷ zs) [] (x ∷ xs) e r l = absurd (omega (arith, l))
  lists-are end i (z ∷ zs) (q ∷ ps) [] e r l = absurd (omega (arith, l))
  lists-are end i (z ∷ zs) (q ∷ ps) (x ∷ xs) e r l =
      elim (eq-or-lt_of_le r.0) [
        | inl h ↦
            let ih = lists-are end (suc q) zs ps xs (omega (arith, e, h)) r.2 (suc_inj l) in
            rw (h, stored_here q x ps xs, marks-skip q x ps xs (suc q) (length zs) (le_refl (suc q)))
            (ap (λ (y : List ℕ). q ∷ y) ih.0, ap (λ (y : List ℕ). x ∷ y) ih.1)
        | inr h ↦
            rw (stored-none (q ∷ ps) (x ∷ xs) i (h, rising-above end (suc q) i ps (omega (arith, h)) r.2))
            (lists-are end (suc i) zs (q ∷ ps) (x ∷ xs) (omega (arith, e)) (h, r.1, r.2) l)
      ]

-- fields are the whole numbers less the frame
gaps_are : (m : ℤ) (ds : List ℕ) → map (λ (z : ℤ). nat_abs (z -ℤ m)) (map (λ (d : ℕ). m +ℤ pos d) ds) ≡ ds
gaps_are m [] = refl
gaps_are m (d ∷ ds) = ap₂ (λ (y : ℕ) (l : List ℕ). y ∷ l) (field_forth m d) (gaps_are m ds)

module _ (fmt : Format) (v : ℕ) (r : Raw) (fit : Fit fmt r) (sound : Sound fmt r) (bytes : Bytes r.packed) (pass : verdict (rules_rows fmt v r) ≡ fine) where
  abbrev ws : List ℤ
  ws = wholes fmt r

  abbrev ms : List (Option ℕ)
  ms = marked r

  abbrev ds : List ℕ
  ds = fields r

  -- what the rows show, one after the other
  record Shown : Type 0 where
    clear : number r.packed < 2 ^ (r.count * r.width)
    returns : Never (strays fmt r.pair) ws ms
    excepted : Never (needless fmt r.pair) ws ms
    stands : Never (unfilled (stand_in_of ws ms)) ws ms
    frame : r.frame ≡ of_z (word fmt) (least ws)
    width : r.width ≡ width_of ds

  shown : Shown
  unfolding rules_rows
  shown =
      let a = row_first 20 (in_vector v) (unused_set r) _ pass in
      let b = first_fine (verdict (first_rows 21 v (strays fmt r.pair) 0 ws ms)) _ a.1 in
      let c = first_fine (verdict (first_rows 22 v (needless fmt r.pair) 0 ws ms)) _ b.1 in
      let e = first_fine (verdict (first_rows 23 v (unfilled (stand_in_of ws ms)) 0 ws ms)) _ c.1 in
      let f = or_false (frame_off fmt r) (width_off r) (row_fine 24 (in_vector v) (frame_off fmt r || width_off r) e.1) in
      record {
        clear = ltb-true (number r.packed) (2 ^ (r.count * r.width)) (not-false (number r.packed below 2 ^ (r.count * r.width)) a.0);
        returns = first-never 21 v 0 (strays fmt r.pair) ws ms b.0;
        excepted = first-never 22 v 0 (needless fmt r.pair) ws ms c.0;
        stands = first-never 23 v 0 (unfilled (stand_in_of ws ms)) ws ms e.0;
        frame = isnt_false r.frame (of_z (word fmt) (least ws)) f.0;
        width = isnt_false r.width (width_of ds) f.1;
      }

  framed : to_z (word fmt) r.frame ≡ least ws
  framed = ap (to_z (word fmt)) shown.frame ∙ to_z-of_z (record { sfits = least-one (Held fmt) ws (pow_pos (hbits (word fmt))) sound.held })

  gaps : fields_of ws ≡ ds
  unfolding wholes fields_of
  gaps = ap (λ (m : ℤ). map (λ (z : ℤ). nat_abs (z -ℤ m)) ws) (sym framed) ∙ gaps_are (to_z (word fmt) r.frame) ds

  packed-eq : pack r.width ds ≡ r.packed
  unfolding fields
  packed-eq = pack-unpack r.width r.count r.packed (each_below 256 r.packed (omega arith) bytes) fit.packed shown.clear

  raw_eq : raw_of fmt r.pair ws r.positions r.exceptions ≡ r
  unfolding raw_of
  raw_eq = λ i. record {
    count = wholes-count fmt r i;
    pair = r.pair;
    frame = sym shown.frame i;
    width = (ap width_of gaps ∙ sym shown.width) i;
    packed = (ap (λ (l : List ℕ). pack (width_of l) l) gaps ∙ ap (λ (w : ℕ). pack w ds) (sym shown.width) ∙ packed-eq) i;
    positions = r.positions;
    exceptions = r.exceptions;
  }

  marked-eq : marked r ≡ marks r.positions r.exceptions 0 (length ws)
  unfolding marked
  marked-eq = ap (marks r.positions r.exceptions 0) (sym (wholes-count fmt r))

  pub passing_is_encoded : encoded fmt r.pair (decoded fmt r) ≡ r
  unfolding encoded decoded
  passing_is_encoded =
      let us : List (Option ℤ) = zip_with unlisted ws ms in
      let vs : List ℕ = zip_with (value fmt r.pair) ws ms in
      let t : tries fmt r.pair vs ≡ us = tries-are fmt r.pair ws ms shown.returns shown.excepted in
      let z : filled us ≡ ws = filled-are fmt r.pair (the_stand_in us) ws ms (wholes-count fmt r ∙ sym (marked-count r)) shown.stands in
      let l = lists-are fmt r.pair r.count 0 ws r.positions r.exceptions (omega (arith, wholes-count fmt r)) sound.rising fit.paired in
      rw (t, z, marked-eq, l.0, l.1) raw_eq
