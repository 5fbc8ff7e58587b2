-- A page that was laid out is read back: its header, its offsets, and each vector. Assumes nothing.
use mathlib.Core.Path.{◌≡◌, refl, sym, ap, ap₂, ◌∙◌}
use Prim.Native.Nat.{ℕ, suc, ◌+◌, ◌-◌, ◌*◌, ◌^◌, ◌<◌, min}
use native.Mathlib.Nat.{suc_inj}
use native.Mathlib.Omega.{arith}
use mathlib.Core.List.{List, [], ◌∷◌, ◌++◌, append_assoc, append-nil}
use lib.ListN.{length, take, drop, get_or, length-append}
use lib.Seq.{take_at, drop_at, drop-drop}
use lib.Ieee.{Format}
use Rattle.rules.specs.Kind.{word_bytes, meta_bytes}
use Rattle.digits.specs.Digits.{le, number, les, numbers, packed_size}
use Rattle.rules.specs.Vector.{Raw}
use Rattle.rules.specs.Page.{Meta, meta_of, metadata, payload, vector_bytes, size_of, starts, bodies, header, layout, vectors, meta_at, raw_from, raws_from, raws_of, s_of, count_of, offsets_of, body_of}
use Rattle.digits.specs.Lists.{Each}
use Rattle.digits.proofs.Lists.{front_at}
use Rattle.digits.proofs.Rows.{length-le, number-le, length-les, numbers-les}

-- what the layout asks of a vector: its numbers fit their places
pub record Fit (fmt : Format) (r : Raw) : Type 0 where
  pub listed : length r.positions < 256 ^ 2
  pub frame : r.frame < 256 ^ word_bytes fmt
  pub packed : length r.packed ≡ packed_size r.count r.width
  pub positions : Each (λ (p : ℕ). p < 256 ^ 2) r.positions
  pub paired : length r.exceptions ≡ length r.positions
  pub exceptions : Each (λ (x : ℕ). x < 256 ^ word_bytes fmt) r.exceptions

-- ---- lengths

pub length-metadata : (fmt : Format) (m : Meta) → length (metadata fmt m) ≡ meta_bytes fmt
unfolding metadata
length-metadata fmt m = simp (length-append, length-le) (omega arith)

pub length-payload : (fmt : Format) (r : Raw) → Fit fmt r → length (payload fmt r) ≡ packed_size r.count r.width + length r.positions * (2 + word_bytes fmt)
unfolding payload
length-payload fmt r f = simp (length-append, length-les, f.packed, f.paired) (omega arith)

pub length-vector : (fmt : Format) (r : Raw) → Fit fmt r → length (vector_bytes fmt r) ≡ size_of fmt r
unfolding vector_bytes
length-vector fmt r f = length-append (metadata fmt (meta_of r)) (payload fmt r) ∙ ap₂ (λ (x y : ℕ). x + y) (length-metadata fmt (meta_of r)) (length-payload fmt r f)

pub length-starts : (fmt : Format) (at : ℕ) (rs : List Raw) → length (starts fmt at rs) ≡ length rs
unfolding starts
length-starts fmt at [] = refl
length-starts fmt at (r ∷ rs) = ap suc (length-starts fmt (at + size_of fmt r) rs)

abbrev pub total : Format → List Raw → ℕ
total fmt [] = 0
total fmt (r ∷ rs) = size_of fmt r + total fmt rs

pub length-bodies : (fmt : Format) (rs : List Raw) → Each (Fit fmt) rs → length (bodies fmt rs) ≡ total fmt rs
unfolding bodies
length-bodies fmt [] f = refl
length-bodies fmt (r ∷ rs) f = length-append (vector_bytes fmt r) (bodies fmt rs) ∙ ap₂ (λ (x y : ℕ). x + y) (length-vector fmt r f.0) (length-bodies fmt rs f.1)

pub length-header : (s n : ℕ) → length (header s n) ≡ 8
unfolding header
length-header s n = simp length-le

pub length-layout : (fmt : Format) (s n : ℕ) (rs : List Raw) → Each (Fit fmt) rs → length (layout fmt s n rs) ≡ 8 + (4 * length rs + total fmt rs)
unfolding layout
length-layout fmt s n rs f = simp (length-append, length-header, length-les, length-starts, length-bodies fmt rs f) (omega arith)

-- ---- one vector

-- what follows the pair, and what follows the count, in some bytes that begin with metadata
module _ (fmt : Format) (m : Meta) (rest : List ℕ) where
  after-pair : drop 2 (metadata fmt m ++ rest) ≡ le 2 m.listed ++ (le (word_bytes fmt) m.frame ++ m.width ∷ rest)
  unfolding metadata
  after-pair = simp append_assoc

  after-count : drop 4 (metadata fmt m ++ rest) ≡ le (word_bytes fmt) m.frame ++ m.width ∷ rest
  after-count =
      sym (drop-drop 2 2 (metadata fmt m ++ rest)) ∙ ap (drop 2) after-pair
      ∙ drop_at (le 2 m.listed) (le (word_bytes fmt) m.frame ++ m.width ∷ rest) 2 (length-le 2 m.listed)

  after_frame : drop (4 + word_bytes fmt) (metadata fmt m ++ rest) ≡ m.width ∷ rest
  after_frame =
      sym (drop-drop (word_bytes fmt) 4 (metadata fmt m ++ rest)) ∙ ap (drop (word_bytes fmt)) after-count
      ∙ drop_at (le (word_bytes fmt) m.frame) (m.width ∷ rest) (word_bytes fmt) (length-le (word_bytes fmt) m.frame)

  pub after-meta : drop (meta_bytes fmt) (metadata fmt m ++ rest) ≡ rest
  after-meta = drop_at (metadata fmt m) rest (meta_bytes fmt) (length-metadata fmt m)

  pub meta_back : m.listed < 256 ^ 2 → m.frame < 256 ^ word_bytes fmt → meta_at fmt (metadata fmt m ++ rest) ≡ m
  unfolding meta_at metadata
  meta_back h k =
      let l : number (take 2 (drop 2 (metadata fmt m ++ rest))) ≡ m.listed =
      ap (λ (x : List ℕ). number (take 2 x)) after-pair
      ∙ ap number (take_at (le 2 m.listed) (le (word_bytes fmt) m.frame ++ m.width ∷ rest) 2 (length-le 2 m.listed))
      ∙ number-le 2 m.listed h in
      let f : number (take (word_bytes fmt) (drop 4 (metadata fmt m ++ rest))) ≡ m.frame =
      ap (λ (x : List ℕ). number (take (word_bytes fmt) x)) after-count
      ∙ ap number (take_at (le (word_bytes fmt) m.frame) (m.width ∷ rest) (word_bytes fmt) (length-le (word_bytes fmt) m.frame))
      ∙ number-le (word_bytes fmt) m.frame k in
      let w : get_or (metadata fmt m ++ rest) (4 + word_bytes fmt) 0 ≡ m.width = sym (front_at (4 + word_bytes fmt) (metadata fmt m ++ rest)) ∙ ap (λ (x : List ℕ). get_or x 0 0) after_frame in
      λ i. record { pair = m.pair; listed = l i; frame = f i; width = w i }

-- the payload
module _ (fmt : Format) (r : Raw) (rest : List ℕ) (f : Fit fmt r) where
  pub raw_back : raw_from fmt r.count (meta_of r) (payload fmt r ++ rest) ≡ r
  unfolding payload raw_from
  raw_back =
      let n : ℕ = packed_size r.count r.width in
      let p : List ℕ = les 2 r.positions in
      let x : List ℕ = les (word_bytes fmt) r.exceptions in
      let whole : (r.packed ++ (p ++ x)) ++ rest ≡ r.packed ++ (p ++ (x ++ rest)) = simp append_assoc in
      let after : drop n (payload fmt r ++ rest) ≡ p ++ (x ++ rest) = ap (drop n) whole ∙ drop_at r.packed (p ++ (x ++ rest)) n f.packed in
      let k : take n (payload fmt r ++ rest) ≡ r.packed = ap (take n) whole ∙ take_at r.packed (p ++ (x ++ rest)) n f.packed in
      let q : numbers 2 (length r.positions) (drop n (payload fmt r ++ rest)) ≡ r.positions =
      ap (numbers 2 (length r.positions)) after ∙ numbers-les 2 r.positions (x ++ rest) f.positions in
      let e : numbers (word_bytes fmt) (length r.positions) (drop (length r.positions * 2) (drop n (payload fmt r ++ rest))) ≡ r.exceptions =
      ap (λ (y : List ℕ). numbers (word_bytes fmt) (length r.positions) (drop (length r.positions * 2) y)) after
      ∙ ap (numbers (word_bytes fmt) (length r.positions)) (drop_at p (x ++ rest) (length r.positions * 2) (length-les 2 r.positions))
      ∙ ap (λ (c : ℕ). numbers (word_bytes fmt) c (x ++ rest)) (sym f.paired)
      ∙ numbers-les (word_bytes fmt) r.exceptions rest f.exceptions in
      λ i. record { count = r.count; pair = r.pair; frame = r.frame; width = r.width; packed = k i; positions = q i; exceptions = e i }

-- a vector at the front of some bytes
module _ (fmt : Format) (r : Raw) (rest : List ℕ) (f : Fit fmt r) where
  pub front-meta : meta_at fmt (vector_bytes fmt r ++ rest) ≡ meta_of r
  unfolding vector_bytes
  front-meta =
      ap (meta_at fmt) (append_assoc (metadata fmt (meta_of r)) (payload fmt r) rest)
      ∙ meta_back fmt (meta_of r) (payload fmt r ++ rest) f.listed f.frame

  pub front-raw : raw_from fmt r.count (meta_of r) (drop (meta_bytes fmt) (vector_bytes fmt r ++ rest)) ≡ r
  unfolding vector_bytes
  front-raw =
      ap (λ (x : List ℕ). raw_from fmt r.count (meta_of r) (drop (meta_bytes fmt) x)) (append_assoc (metadata fmt (meta_of r)) (payload fmt r) rest)
      ∙ ap (raw_from fmt r.count (meta_of r)) (after-meta fmt (meta_of r) (payload fmt r ++ rest))
      ∙ raw_back fmt r rest f

  pub front-drop : drop (size_of fmt r) (vector_bytes fmt r ++ rest) ≡ rest
  front-drop = drop_at (vector_bytes fmt r) rest (size_of fmt r) (length-vector fmt r f)

-- ---- all vectors

-- the counts are those of a column of n values cut by `size`
abbrev pub Cut : ℕ → ℕ → List Raw → Type 0
Cut size left [] = left ≡ 0
Cut size left (r ∷ rs) = (r.count ≡ min size left) × (0 < left) × Cut size (left - size) rs

-- any list of offsets as long as the vectors leads to them
pub raws_back : (fmt : Format) (size left : ℕ) (rs : List Raw) (os rest : List ℕ) → length os ≡ length rs → Cut size left rs → Each (Fit fmt) rs
    → raws_from fmt size left os (bodies fmt rs ++ rest) ≡ rs
unfolding raws_from bodies
raws_back fmt size left [] [] rest e c f = refl
raws_back fmt size left [] (o ∷ os) rest e c f = absurd (omega (arith, e))
raws_back fmt size left (r ∷ rs) [] rest e c f = absurd (omega (arith, e))
raws_back fmt size left (r ∷ rs) (o ∷ os) rest e c f =
    rw (append_assoc (vector_bytes fmt r) (bodies fmt rs) rest, front-meta fmt r (bodies fmt rs ++ rest) f.0, ← c.0, front-raw fmt r (bodies fmt rs ++ rest) f.0, front-drop fmt r (bodies fmt rs ++ rest) f.0)
    (ap (λ (x : List Raw). r ∷ x) (raws_back fmt size (left - size) rs os rest (suc_inj e) c.2 f.1))

-- ---- the whole page

pub s_back : (fmt : Format) (s n : ℕ) (rs : List Raw) → s_of (layout fmt s n rs) ≡ s
unfolding layout header
s_back fmt s n rs = refl

pub count-back : (fmt : Format) (s n : ℕ) (rs : List Raw) → n < 256 ^ 4 → count_of (layout fmt s n rs) ≡ n
unfolding layout header count_of
count-back fmt s n rs h =
    rw (take_at (le 4 n) (les 4 (starts fmt (4 * length rs) rs) ++ bodies fmt rs) 4 (length-le 4 n)) (number-le 4 n h)

module _ (fmt : Format) (s n : ℕ) (rs : List Raw) (h : n < 256 ^ 4) (v : vectors s n ≡ length rs) where
  pub offsets-back : Each (λ (o : ℕ). o < 256 ^ 4) (starts fmt (4 * length rs) rs) → offsets_of (layout fmt s n rs) ≡ starts fmt (4 * length rs) rs
  unfolding offsets_of layout
  offsets-back k =
      let os : List ℕ = starts fmt (4 * length rs) rs in
      rw (s_back fmt s n rs, count-back fmt s n rs h, v)
      (ap (numbers 4 (length rs)) (after-header (les 4 os ++ bodies fmt rs))
      ∙ ap (λ (c : ℕ). numbers 4 c (les 4 os ++ bodies fmt rs)) (sym (length-starts fmt (4 * length rs) rs))
      ∙ numbers-les 4 os (bodies fmt rs) k)
    where
      after-header : (rest : List ℕ) → drop 8 (header s n ++ rest) ≡ rest
      after-header rest = drop_at (header s n) rest 8 (length-header s n)

  pub body_back : body_of (layout fmt s n rs) ≡ bodies fmt rs
  unfolding body_of layout
  body_back =
      rw (s_back fmt s n rs, count-back fmt s n rs h, v)
      (ap (drop (8 + 4 * length rs)) (sym (append_assoc (header s n) (les 4 (starts fmt (4 * length rs) rs)) (bodies fmt rs)))
      ∙ drop_at (header s n ++ les 4 (starts fmt (4 * length rs) rs)) (bodies fmt rs) (8 + 4 * length rs) (simp (length-append, length-header, length-les, length-starts) (omega arith)))

  -- the vectors of the page, read back
  pub page_back : Each (λ (o : ℕ). o < 256 ^ 4) (starts fmt (4 * length rs) rs) → Cut (2 ^ s) n rs → Each (Fit fmt) rs → raws_of fmt (layout fmt s n rs) ≡ rs
  unfolding raws_of
  page_back k c f =
      rw (s_back fmt s n rs, count-back fmt s n rs h, offsets-back k, body_back)
      (ap (raws_from fmt (2 ^ s) n (starts fmt (4 * length rs) rs)) (sym (append-nil (bodies fmt rs)))
      ∙ raws_back fmt (2 ^ s) n rs (starts fmt (4 * length rs) rs) [] (length-starts fmt (4 * length rs) rs) c f)
