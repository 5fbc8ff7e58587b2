-- A vector's metadata, stored part by part. Assumes nothing.
use mathlib.Core.Path.{◌≡◌, ap, ◌∙◌}
use mathlib.Core.List.{List, [], ◌∷◌, ◌++◌, append_assoc}
use Prim.Native.Nat.{ℕ, ◌+◌, ◌≤◌}
use native.Mathlib.Nat.{zero-add}
use native.Mathlib.Omega.{arith}
use lib.ListN.{length, drop, set, length-append, length-set}
use lib.Ieee.{Format}
use Rattle.digits.specs.Digits.{le}
use Rattle.digits.specs.Lists.{over, put_at}
use Rattle.digits.proofs.Lists.{put_put, length-put_at}
use Rattle.digits.proofs.Rows.{length-le}
use Rattle.digits.proofs.Stores.{sets_put}
use Rattle.rules.specs.Kind.{word_bytes, meta_bytes}
use Rattle.rules.specs.Page.{metadata}
use Rattle.encode.specs.Vectors.{meta_with}

module _ (fmt : Format) (d : List ℕ) (e f n m w : ℕ) (room : meta_bytes fmt ≤ length d) where
  abbrev pair-in : List ℕ
  pair-in = set (set d 0 e) 1 f

  abbrev pair-bytes : List ℕ
  pair-bytes = e ∷ f ∷ []

  abbrev count : List ℕ
  count = le 2 n

  abbrev frame : List ℕ
  frame = le (word_bytes fmt) m

  pub pair-length : length pair-in ≡ length d
  pair-length = length-set (set d 0 e) 1 f ∙ length-set d 0 e

  pair_put : pair-in ≡ put_at 0 pair-bytes d
  pair_put = sets_put pair-bytes d 0 (omega arith)

  -- x is what the count leaves, y what the frame leaves
  module _ (x y : List ℕ) (ex : x ≡ put_at 2 count pair-in) (ey : y ≡ put_at 4 frame x) where
    pub count-length : length x ≡ length d
    count-length =
        let l = length-le 2 n in
        let k = pair-length in
        ap length ex ∙ length-put_at 2 count pair-in (omega (arith, l, k)) ∙ k

    pub frame-length : length y ≡ length d
    frame-length =
        let l = length-le (word_bytes fmt) m in
        let k = count-length in
        ap length ey ∙ length-put_at 4 frame x (omega (arith, l, k)) ∙ k

    count-put : x ≡ put_at 0 (pair-bytes ++ count) d
    count-put = ex ∙ ap (put_at 2 count) pair_put ∙ put_put 0 pair-bytes count d (omega arith)

    frame-put : y ≡ put_at 0 ((pair-bytes ++ count) ++ frame) d
    frame-put =
        let l : 4 ≡ 0 + length (pair-bytes ++ count) = let k = length-le 2 n in omega (arith, length-append pair-bytes count, k) in
        ey ∙ ap (put_at 4 frame) count-put ∙ ap (λ (k : ℕ). put_at k frame (put_at 0 (pair-bytes ++ count) d)) l ∙ put_put 0 (pair-bytes ++ count) frame d (omega arith)

    pub meta_stored : set y (4 + word_bytes fmt) w ≡ over (metadata fmt (meta_with (record { exponent = e; factor = f }) n m w)) d
    unfolding metadata
    meta_stored =
        let all : List ℕ = (pair-bytes ++ count) ++ frame in
        let k = frame-length in
        let l : 4 + word_bytes fmt ≡ 0 + length all =
        let a = length-le 2 n in let b = length-le (word_bytes fmt) m in omega (arith, length-append (pair-bytes ++ count) frame, length-append pair-bytes count, a, b) in
        let whole : all ++ (w ∷ []) ≡ e ∷ f ∷ (count ++ (frame ++ (w ∷ []))) = simp append_assoc in
        sets_put (w ∷ []) y (4 + word_bytes fmt) (omega (arith, k))
        ∙ ap (put_at (4 + word_bytes fmt) (w ∷ [])) frame-put ∙ ap (λ (j : ℕ). put_at j (w ∷ []) (put_at 0 all d)) l ∙ put_put 0 all (w ∷ []) d (omega arith)
        ∙ ap (λ (j : ℕ). (all ++ (w ∷ [])) ++ drop j d) (zero-add (length (all ++ (w ∷ [])))) ∙ ap (λ (b : List ℕ). over b d) whole
