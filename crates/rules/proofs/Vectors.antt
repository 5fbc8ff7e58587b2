-- One vector: what was encoded is decoded. Assumes nothing.
use mathlib.Core.Path.{◌≡◌, refl, sym, ap, ap₂, ◌∙◌}
use Prim.Native.Nat.{ℕ, ◌^◌}
use mathlib.Core.List.{List, [], ◌∷◌, map, zip_with}
use mathlib.Core.Option.{Option, none, some}
use lib.ListN.{length, length-map}
use lib.Pow.{pow_pos}
use lib.IntN.{ℤ, pos, nat_abs, ◌+ℤ◌, ◌-ℤ◌}
use lib.Ieee.{Format}
use mir.Val.{hbits, of_z, to_z}
use mir.Facts.{to_z-of_z}
use Rattle.rules.specs.Kind.{word}
use Rattle.digits.specs.Lists.{Each}
use Rattle.digits.specs.Digits.{pack, unpack}
use Rattle.digits.proofs.Lists.{each_map, each_below}
use Rattle.digits.proofs.Pack.{unpack-pack}
use Rattle.rules.specs.Decimal.{Pair, back}
use Rattle.rules.specs.Vector.{filled, the_stand_in, or_else, least, fields_of, width_of, places, picks, raw_of, fields, wholes, marks, marked, decoded}
use Rattle.rules.specs.Older.{vector_by}
use Rattle.rules.proofs.Fields.{field_back}
use Rattle.rules.proofs.Order.{AtMost, width-holds, least-below, least-one}
use Rattle.rules.proofs.Tries.{Held}
use Rattle.rules.proofs.Marks.{mark, marks-back}

-- ---- whole numbers, out of frame and fields

map_back : {A B : Type 0} (f : A → B) (g : B → A) (xs : List A) → Each (λ (x : A). g (f x) ≡ x) xs → map g (map f xs) ≡ xs
map_back f g [] h = refl
map_back {A = A} f g (x ∷ xs) h = ap₂ (λ (y : A) (ys : List A). y ∷ ys) h.0 (map_back f g xs h.1)

pub length_fields : (zs : List ℤ) → length (fields_of zs) ≡ length zs
unfolding fields_of
length_fields zs = length-map zs (λ (z : ℤ). nat_abs (z -ℤ least zs))

pub fields_back : (fmt : Format) (p : Pair) (zs : List ℤ) (ps xs : List ℕ) → fields (raw_of fmt p zs ps xs) ≡ fields_of zs
unfolding fields raw_of
fields_back fmt p zs ps xs =
    let fs : List ℕ = fields_of zs in
    ap (λ (n : ℕ). unpack (width_of fs) n (pack (width_of fs) fs)) (sym (length_fields zs))
    ∙ unpack-pack (width_of fs) fs (each_below (2 ^ width_of fs) fs (pow_pos (width_of fs)) (width-holds fs))

pub wholes-back : (fmt : Format) (p : Pair) (zs : List ℤ) (ps xs : List ℕ) → Each (Held fmt) zs → wholes fmt (raw_of fmt p zs ps xs) ≡ zs
unfolding wholes raw_of fields_of
wholes-back fmt p zs ps xs h =
    let m : ℤ = least zs in
    let framed : to_z (word fmt) (of_z (word fmt) m) ≡ m = to_z-of_z (record { sfits = least-one (Held fmt) zs (pow_pos (hbits (word fmt))) h }) in
    ap₂ (λ (a : ℤ) (ds : List ℕ). map (λ (d : ℕ). a +ℤ pos d) ds) framed (fields_back fmt p zs ps xs)
    ∙ map_back (λ (z : ℤ). nat_abs (z -ℤ m)) (λ (d : ℕ). m +ℤ pos d) zs
    (each_map (AtMost m) (λ (z : ℤ). m +ℤ pos (nat_abs (z -ℤ m)) ≡ z) (field_back m) zs (least-below zs))

-- ---- the round trip of one vector

the_stand_in-one : (P : ℤ → Type 0) (ts : List (Option ℤ)) → P (pos 0) → Each (λ (t : Option ℤ). (z : ℤ) → t ≡ some z → P z) ts → P (the_stand_in ts)
unfolding the_stand_in
the_stand_in-one P [] o h = o
the_stand_in-one P (none ∷ ts) o h = the_stand_in-one P ts o h.1
the_stand_in-one P (some z ∷ ts) o h = h.0 z refl

fill_held : (P : ℤ → Type 0) (d : ℤ) (ts : List (Option ℤ)) → P d → Each (λ (t : Option ℤ). (z : ℤ) → t ≡ some z → P z) ts → Each P (map (or_else d) ts)
fill_held P d [] o h = tt
fill_held P d (none ∷ ts) o h = (o, fill_held P d ts o h.1)
fill_held P d (some z ∷ ts) o h = (h.0 z refl, fill_held P d ts o h.1)

-- what turning values into whole numbers has to be for a vector to be decoded again: a whole number comes back as the value, and is held
abbrev pub ComesBack : Format → Pair → (ℕ → Option ℤ) → Type 0
ComesBack fmt p turn = (v : ℕ) (z : ℤ) → turn v ≡ some z → (back fmt p z ≡ v) × Held fmt z

module _ (fmt : Format) (p : Pair) (turn : ℕ → Option ℤ) (comes : ComesBack fmt p turn) where
  turns-held : (vs : List ℕ) → Each (λ (t : Option ℤ). (z : ℤ) → t ≡ some z → Held fmt z) (map turn vs)
  turns-held [] = tt
  turns-held (v ∷ vs) = (λ z e. (comes v z e).1, turns-held vs)

  pub turns-filled : (vs : List ℕ) → Each (Held fmt) (filled (map turn vs))
  turns-filled vs =
      fill_held (Held fmt) (the_stand_in (map turn vs)) (map turn vs) (the_stand_in-one (Held fmt) (map turn vs) (pow_pos (hbits (word fmt))) (turns-held vs)) (turns-held vs)

  abbrev value : ℤ → Option ℕ → ℕ
  value z m = or_else (back fmt p z) m

  zip_back : (d : ℤ) (vs : List ℕ) → zip_with value (map (or_else d) (map turn vs)) (zip_with mark (map turn vs) vs) ≡ vs
  unfolding zip_with
  zip_back d [] = refl
  zip_back d (v ∷ vs) = go (turn v) refl (zip_back d vs)
    where
      go : (t : Option ℤ) → turn v ≡ t → zip_with value (map (or_else d) (map turn vs)) (zip_with mark (map turn vs) vs) ≡ vs
          → ◌≡◌ {A = List ℕ} (value (or_else d t) (mark t v) ∷ zip_with value (map (or_else d) (map turn vs)) (zip_with mark (map turn vs) vs)) (v ∷ vs)
      go none e ih = ap (λ (l : List ℕ). v ∷ l) ih
      go (some z) e ih = ap₂ (λ (x : ℕ) (l : List ℕ). x ∷ l) (comes v z e).0 ih

  pub turned-back : (vs : List ℕ) → decoded fmt (vector_by fmt p turn vs) ≡ vs
  unfolding decoded marked raw_of
  turned-back vs =
      let ts : List (Option ℤ) = map turn vs in
      let zs : List ℤ = filled ts in
      let n : length zs ≡ length vs = length-map ts (or_else (the_stand_in ts)) ∙ length-map vs turn in
      ap (λ (l : List ℤ). zip_with value l (marks (places 0 ts) (picks ts vs) 0 (length zs))) (wholes-back fmt p zs (places 0 ts) (picks ts vs) (turns-filled vs))
      ∙ ap (zip_with value zs) (ap (marks (places 0 ts) (picks ts vs) 0) n ∙ marks-back 0 ts vs (length-map vs turn))
      ∙ zip_back (the_stand_in ts) vs
