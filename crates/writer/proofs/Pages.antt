-- The page written vector after vector: the table of offsets and the vectors grow at once, and what is left of them shrinks. Assumes nothing.
use mathlib.Core.Path.{◌≡◌, refl, sym, ap, ap₂, ◌∙◌, subst}
use mathlib.Core.List.{List, [], ◌∷◌, ◌++◌}
use Prim.Native.Nat.{ℕ, ◌+◌, ◌*◌, ◌^◌, ◌≤◌, ◌<◌}
use native.Mathlib.Nat.{add_assoc, lt_of_le_of_lt}
use native.Mathlib.Omega.{arith}
use lib.ListN.{length, drop, set, length-append}
use lib.Seq.{drop_at, drop-drop}
use lib.Ieee.{Format}
use Rattle.digits.specs.Digits.{le, les}
use Rattle.digits.specs.Lists.{over, put_at}
use Rattle.digits.proofs.Lists.{length_over, put_put}
use Rattle.digits.proofs.Rows.{length-le}
use Rattle.digits.proofs.Stores.{sets_put}
use Rattle.digits.proofs.Laid.{Laid, laid_length, laid_start, laid_next, laid_end}
use Rattle.rules.specs.Decimal.{Pair}
use Rattle.rules.specs.Vector.{Raw, encoded}
use Rattle.rules.specs.Page.{header, vectors, size_of, starts, bodies, page_of}
use Rattle.rules.specs.Write.{pairs_of, page_size}
use Rattle.rules.proofs.Pages.{length-header}
use Rattle.encode.specs.Vectors.{bytes_of}
use Rattle.encode.proofs.Whole.{bytes_size}
use Rattle.writer.specs.Settled.{Ready}
use Rattle.writer.specs.Recorded.{pair_at}
use Rattle.writer.proofs.Vectors.{left, all, table, front, Next, Planned, Cut, long-table, page_is, page_long, page_small, cut_start, cut_next_is, cut_next, cut_end}

-- ---- room, from what is left

laid_room : (front behind w rest_f v restB out out₀ : List ℕ) (o at : ℕ) → Laid front behind (w ++ rest_f) (v ++ restB) out out₀ o at → length (front ++ behind) ≤ length out₀
    → (o + length w ≤ length out) × (at + length v ≤ length out)
laid_room front behind w rest_f v restB out out₀ o at l full =
    let n = laid_length l in
    let f : length l.p + (length w + length rest_f) ≡ length front = sym (length-append l.p (w ++ rest_f) ∙ ap (λ (k : ℕ). length l.p + k) (length-append w rest_f)) ∙ ap length l.front-is in
    let b : length l.q + (length v + length restB) ≡ length behind = sym (length-append l.q (v ++ restB) ∙ ap (λ (k : ℕ). length l.q + k) (length-append v restB)) ∙ ap length l.behind-is in
    let g : length l.g ≡ length w + length rest_f = l.gap ∙ length-append w rest_f in
    let s = l.sum in
    let i = l.in_front in
    let a = length-append front behind in
    (omega (arith, n, f, b, g, s, i, a, full), omega (arith, n, f, b, g, s, i, a, full))

-- what has been laid is part of the whole
laid_within : (front behind rest_f restB out out₀ : List ℕ) (o at : ℕ) → Laid front behind rest_f restB out out₀ o at → at ≤ length (front ++ behind)
laid_within front behind rest_f restB out out₀ o at l =
    let f : length l.p + length rest_f ≡ length front = sym (length-append l.p rest_f) ∙ ap length l.front-is in
    let b : length l.q + length restB ≡ length behind = sym (length-append l.q restB) ∙ ap length l.behind-is in
    omega (arith, f, b, l.gap, l.sum, length-append front behind)

-- ---- how far the page has come, at vector i: out is the output, out₀ what it was behind the header

pub record Writing (fmt : Format) (s size count : ℕ) (bs vs out₀ : List ℕ) (i : ℕ) (xs : List ℕ) (offset : ℕ) (out : List ℕ) : Type 0 where
  pub cut : Cut fmt size count bs vs i xs
  pub laid : Laid (front fmt s size count bs vs) (bodies fmt (all fmt size bs vs)) (les 4 (starts fmt offset (left fmt size bs i xs))) (bodies fmt (left fmt size bs i xs)) out out₀ (8 + 4 * i) (8 + offset)

-- a page has room for its header
pub room_of_header : (fmt : Format) (s : ℕ) (bs vs d : List ℕ) → Ready fmt s bs vs d → 8 ≤ length d
room_of_header fmt s bs vs d r = omega (arith, r.room, page_long {fmt = fmt} {s = s} {size = 2 ^ s} {count = vectors s (length vs)} {bs = bs} {vs = vs} (record { settled = r.settled; size_is = refl; count_is = refl }))

-- the output has room for the page, and its header is written
pub record Begun (fmt : Format) (s size count : ℕ) (bs vs d out₀ : List ℕ) : Type 0 where
  pub planned : Planned fmt s size count bs vs
  pub room : page_size fmt s bs vs ≤ length d
  pub headed : out₀ ≡ over (header s (length vs)) d

module _ {fmt : Format} {s size count : ℕ} {bs vs d out₀ : List ℕ} (t : Begun fmt s size count bs vs d out₀) where
  abbrev page : List ℕ
  page = page_of fmt s (pairs_of bs) vs

  abbrev head : List ℕ
  head = header s (length vs)

  abbrev offsets : List ℕ
  offsets = table fmt size count bs vs

  abbrev whole : List ℕ
  whole = bodies fmt (all fmt size bs vs)

  whole_is : front fmt s size count bs vs ++ whole ≡ page
  whole_is = page_is t.planned

  same : length out₀ ≡ length d
  same = ap length t.headed ∙ length_over head d (omega (arith, length-header s (length vs), t.room, page_long t.planned))

  at_first : Writing fmt s size count bs vs out₀ 0 vs (4 * count) out₀
  at_first =
      let lh : length head ≡ 8 = length-header s (length vs) in
      let l = laid_start head offsets whole d (omega (arith, lh, long-table t.planned, page_long t.planned, t.room)) in
      let l₁ = subst (λ (x : List ℕ). Laid (head ++ offsets) whole offsets whole x x (length head) (length head + length offsets)) (sym t.headed) l in
      let l₂ = subst (λ (k : ℕ). Laid (head ++ offsets) whole offsets whole out₀ out₀ (length head) (length head + k)) (long-table t.planned) l₁ in
      record {
        cut = cut_start t.planned;
        laid = subst (λ (k : ℕ). Laid (head ++ offsets) whole offsets whole out₀ out₀ k (k + 4 * count)) lh l₂;
      }

  pub writing_start : (i : ℕ) (xs : List ℕ) → i ≡ 0 → xs ≡ vs → Writing fmt s size count bs vs out₀ i xs (4 * count) out₀
  writing_start i xs ei ex =
      subst (λ (k : ℕ). Writing fmt s size count bs vs out₀ k xs (4 * count) out₀) (sym ei) (subst (λ (ys : List ℕ). Writing fmt s size count bs vs out₀ 0 ys (4 * count) out₀) (sym ex) at_first)

  module _ {i offset : ℕ} {xs out : List ℕ} (w : Writing fmt s size count bs vs out₀ i xs offset out) where
    pub offset-small : 8 + offset < 2 ^ 32
    offset-small = lt_of_le_of_lt (laid_within _ _ _ _ out out₀ (8 + 4 * i) (8 + offset) w.laid) (rw whole_is (page_small t.planned))

    module _ {part rest : List ℕ} (n : Next size xs part rest) where
      abbrev next : List ℕ
      next = bytes_of fmt (pair_at bs (2 * i)) part

      abbrev behind : List Raw
      behind = left fmt size bs (i + 1) rest

      here : Laid (head ++ offsets) whole (le 4 offset ++ les 4 (starts fmt (offset + size_of fmt (encoded fmt (pair_at bs (2 * i)) part)) behind)) (next ++ bodies fmt behind) out out₀ (8 + 4 * i) (8 + offset)
      unfolding les starts bodies
      here = subst (λ (rs : List Raw). Laid (head ++ offsets) whole (les 4 (starts fmt offset rs)) (bodies fmt rs) out out₀ (8 + 4 * i) (8 + offset)) (cut_next_is t.planned w.cut n) w.laid

      room : (8 + 4 * i + length (le 4 offset) ≤ length out) × (8 + offset + length next ≤ length out)
      room = laid_room (head ++ offsets) whole (le 4 offset) _ next (bodies fmt behind) out out₀ (8 + 4 * i) (8 + offset) here (rw (whole_is, same) t.room)

      pub entry-room : 8 + 4 * i + 4 ≤ length out
      entry-room = omega (arith, room.0, length-le 4 offset)

      pub vector-room : (p : Pair) → p ≡ pair_at bs (2 * i) → 8 + offset + length (bytes_of fmt p part) ≤ length out
      vector-room p ep = subst (λ (q : Pair). 8 + offset + length (bytes_of fmt q part) ≤ length out) (sym ep) room.1

      put_next : (last : List ℕ) (r : ℕ) → r ≡ length next → last ≡ put_at (8 + offset) next (put_at (8 + 4 * i) (le 4 offset) out) → Writing fmt s size count bs vs out₀ (i + 1) rest (offset + r) last
      put_next last r er el =
          let sz : size_of fmt (encoded fmt (pair_at bs (2 * i)) part) ≡ r = sym (er ∙ bytes_size fmt (pair_at bs (2 * i)) part) in
          let e : 8 + 4 * i + length (le 4 offset) ≡ 8 + 4 * (i + 1) = omega (arith, length-le 4 offset) in
          let l = laid_next (head ++ offsets) whole (le 4 offset) _ next (bodies fmt behind) out out₀ last (8 + 4 * i) (8 + offset) r here (omega (arith, room.1, laid_length w.laid)) el er in
          let l₁ = subst (λ (x : ℕ). Laid (head ++ offsets) whole (les 4 (starts fmt (offset + x) behind)) (bodies fmt behind) last out₀ (8 + 4 * i + length (le 4 offset)) (8 + offset + r)) sz l in
          let l₂ = subst (λ (x : ℕ). Laid (head ++ offsets) whole (les 4 (starts fmt (offset + r) behind)) (bodies fmt behind) last out₀ x (8 + offset + r)) e l₁ in
          record {
            cut = cut_next t.planned w.cut n;
            laid = subst (λ (x : ℕ). Laid (head ++ offsets) whole (les 4 (starts fmt (offset + r) behind)) (bodies fmt behind) last out₀ (8 + 4 * (i + 1)) x) (add_assoc 8 offset r) l₂;
          }

      -- the next vector was put with its pair; j is the number of the one behind it
      pub writing_next : (p : Pair) → p ≡ pair_at bs (2 * i) → (last : List ℕ) (r : ℕ) → r ≡ length (bytes_of fmt p part) → last ≡ put_at (8 + offset) (bytes_of fmt p part) (put_at (8 + 4 * i) (le 4 offset) out)
          → (j : ℕ) → j ≡ i + 1 → Writing fmt s size count bs vs out₀ j rest (offset + r) last
      writing_next p ep last r er el j ej =
          subst (λ (k : ℕ). Writing fmt s size count bs vs out₀ k rest (offset + r) last) (sym ej)
          (put_next last r (er ∙ ap (λ (q : Pair). length (bytes_of fmt q part)) ep) (el ∙ ap (λ (q : Pair). put_at (8 + offset) (bytes_of fmt q part) (put_at (8 + 4 * i) (le 4 offset) out)) ep))

    pub writing_end : length xs ≡ 0 → (8 + offset ≡ length page) × (out ≡ over page d)
    unfolding les starts bodies
    writing_end h =
        let none = cut_end t.planned w.cut h in
        let end = laid_end (head ++ offsets) whole (les 4 (starts fmt offset (left fmt size bs i xs))) (bodies fmt (left fmt size bs i xs)) out out₀ (8 + 4 * i) (8 + offset) w.laid
        (ap (λ (rs : List Raw). les 4 (starts fmt offset rs)) none) (ap (bodies fmt) none) in
        let n : 8 + offset ≡ length page = end.0 ∙ ap length whole_is in
        let past : drop (8 + offset) out₀ ≡ drop (8 + offset) d =
        ap (drop (8 + offset)) t.headed ∙ sym (drop-drop offset 8 (over head d)) ∙ ap (drop offset) (drop_at head (drop (length head) d) 8 (length-header s (length vs)) ∙ ap (λ (k : ℕ). drop k d) (length-header s (length vs))) ∙ drop-drop offset 8 d in
        (n, end.1 ∙ ap₂ (λ (x y : List ℕ). x ++ y) whole_is past ∙ ap (λ (k : ℕ). page ++ drop k d) n)

-- ---- stores

-- the header: x is the output after its first four bytes
pub header-stored : (s n : ℕ) (d : List ℕ) → 8 ≤ length d → put_at 4 (le 4 n) (set (set (set (set d 0 1) 1 0) 2 0) 3 s) ≡ over (header s n) d
unfolding header
header-stored s n d h =
    let four : List ℕ = 1 ∷ 0 ∷ 0 ∷ s ∷ [] in
    let first : set (set (set (set d 0 1) 1 0) 2 0) 3 s ≡ put_at 0 four d = sets_put four d 0 (omega arith) in
    let l : 0 + length (four ++ le 4 n) ≡ length (four ++ le 4 n) = omega arith in
    ap (put_at 4 (le 4 n)) first ∙ put_put 0 four (le 4 n) d (omega arith) ∙ ap (λ (k : ℕ). (four ++ le 4 n) ++ drop k d) l
