-- A column's words read or stored one after the other, over their bytes k: how far a loop has come, and what it has made by then. That what
-- is stored is read back, and what is read is stored back, are `numbers-les` and `les-numbers` of the proofs of `digits`. Assumes nothing.
use mathlib.Core.Path.{◌≡◌, refl, sym, ap, ◌∙◌}
use mathlib.Core.List.{List, [], ◌∷◌, ◌++◌, append_assoc, append-nil}
use Prim.Native.Nat.{ℕ, ◌+◌, ◌-◌, ◌*◌, ◌≤◌, ◌<◌}
use native.Mathlib.Nat.{mul_comm, mul-zero, sub-zero}
use native.Mathlib.Numerals.{add-one}
use native.Mathlib.Omega.{arith}
use lib.ListN.{length, get_or, take, drop, drop_of_length-le, set, length-set}
use lib.Seq.{drop-cons, take-suc-set, take_all}
use Rattle.digits.specs.Digits.{number, le, les, numbers}
use Rattle.digits.specs.Lists.{over, put_at}
use Rattle.digits.proofs.Rows.{length-le, length-les, numbers-next, numbers-end}
use Rattle.digits.proofs.Fields.{start-next, start-room}
use Rattle.bits.specs.Words.{WordLaws}
use Rattle.bits.proofs.WordLists.{length-numbers, set-numbers, get-numbers}
use Rattle.digits.proofs.Stream.{Stream, stream_start, stream_as, stream_room, stream_wrote, stream_end}

-- ---- read: the first i places of `out` hold words of bs, those from byte `at` on are left, and together they are all

pub record Loading (k : ℕ) (bs out₀ : List ℕ) (i at : ℕ) (out : List ℕ) : Type 0 where
  pub same : length out ≡ length out₀
  pub within : i ≤ length out₀
  pub from : at ≡ k * i
  pub done : take i out ++ numbers k (length out₀ - i) (drop at bs) ≡ numbers k (length out₀) bs

pub loading_start : (k : ℕ) (bs out : List ℕ) → Loading k bs out 0 0 out
loading_start k bs out = record {
  same = refl;
  within = omega arith;
  from = sym (mul-zero k);
  done = ap (λ (n : ℕ). numbers k n bs) (sub-zero (length out));
}

module _ (k : ℕ) (bs out₀ : List ℕ) (i at : ℕ) (out : List ℕ) (l : Loading k bs out₀ i at out) where
  pub loading_room : i < length out₀ → k * length out₀ ≤ length bs → at + k ≤ length bs
  loading_room h room = omega (arith, start-room k i at l.from (length out₀) h, mul_comm k (length out₀))

  pub loading_next : (v : ℕ) → i < length out₀ → v ≡ number (take k (drop at bs)) → Loading k bs out₀ (i + 1) (at + k) (set out i v)
  loading_next v h e =
      let rest : List ℕ = numbers k (length out₀ - (i + 1)) (drop (at + k) bs) in
      let put : take (i + 1) (set out i v) ≡ take i out ++ (v ∷ []) = ap (λ (n : ℕ). take n (set out i v)) (add-one i) ∙ take-suc-set out i v (omega (arith, l.same)) in
      record {
        same = simp length-set l.same;
        within = omega arith;
        from = start-next k i at l.from;
        done = ap (λ (x : List ℕ). x ++ rest) put ∙ append_assoc (take i out) (v ∷ []) rest
            ∙ ap (λ (x : List ℕ). take i out ++ x) (ap (λ (x : ℕ). x ∷ rest) e ∙ sym (numbers-next k (length out₀) i at bs h)) ∙ l.done;
      }

  pub loading_end : length out₀ ≤ i → out ≡ numbers k (length out₀) bs
  loading_end h =
      sym (take_all i out (omega (arith, l.same))) ∙ sym (append-nil (take i out)) ∙ ap (λ (x : List ℕ). take i out ++ x) (sym (numbers-end k (length out₀) i (drop at bs) h)) ∙ l.done

-- and the places hold words of any kind
module _ {A : Type 0} {as-number : A → ℕ} {as-numbers : List A → List ℕ} (laws : WordLaws as-number as-numbers) (k : ℕ) (bs : List ℕ) (out₀ : List A) (i at : ℕ) (out : List A) (l : Loading k bs (as-numbers out₀) i at (as-numbers out)) where
  pub loaded_room : i < length out₀ → k * length out₀ ≤ length bs → at + k ≤ length bs
  loaded_room h room =
      loading_room k bs (as-numbers out₀) i at (as-numbers out) l (rw (length-numbers laws out₀) h) (rw (length-numbers laws out₀) room)

  pub loaded_next : (x : A) → i < length out₀ → as-number x ≡ number (take k (drop at bs)) → Loading k bs (as-numbers out₀) (i + 1) (at + k) (as-numbers (set out i x))
  loaded_next x h e =
      rw (set-numbers laws out i x) (loading_next k bs (as-numbers out₀) i at (as-numbers out) l (as-number x) (rw (length-numbers laws out₀) h) e)

  pub loaded_end : length out₀ ≤ i → as-numbers out ≡ numbers k (length out₀) bs
  loaded_end h =
      loading_end k bs (as-numbers out₀) i at (as-numbers out) l (rw (length-numbers laws out₀) h) ∙ ap (λ (n : ℕ). numbers k n bs) (length-numbers laws out₀)

-- ---- stored: the first i words of ws stand before byte `at`, and there is room for all

pub record Storing (k : ℕ) (ws out₀ : List ℕ) (i at : ℕ) (out : List ℕ) : Type 0 where
  pub room : length (les k ws) ≤ length out₀
  pub stream : Stream (les k ws) (les k (drop i ws)) out out₀ at

pub storing_start : (k : ℕ) (ws out : List ℕ) → k * length ws ≤ length out → Storing k ws out 0 0 out
storing_start k ws out h = record { room = omega (arith, h, length-les k ws, mul_comm k (length ws)); stream = stream_start (les k ws) out }

module _ (k : ℕ) (ws out₀ : List ℕ) (i at : ℕ) (out : List ℕ) (s : Storing k ws out₀ i at out) where
  module _ (v : ℕ) (h : i < length ws) (e : v ≡ get_or ws i 0) where
    les-next : les k (drop i ws) ≡ le k v ++ les k (drop (i + 1) ws)
    unfolding les
    les-next = rw (add-one i, e) (ap (les k) (drop-cons ws i 0 h))

    here : Stream (les k ws) (le k v ++ les k (drop (i + 1) ws)) out out₀ at
    here = stream_as (le k v ++ les k (drop (i + 1) ws)) les-next s.stream

    pub storing_room : at + k ≤ length out
    storing_room = omega (arith, length-le k v, stream_room (les k ws) (le k v) (les k (drop (i + 1) ws)) out out₀ at s.room here)

    pub storing_next : (last : List ℕ) → last ≡ put_at at (le k v) out → Storing k ws out₀ (i + 1) (at + k) last
    storing_next last q = record {
      room = s.room;
      stream = stream_wrote (les k ws) (le k v) (les k (drop (i + 1) ws)) out out₀ last at (at + k) s.room here (ap (λ (n : ℕ). at + n) (sym (length-le k v))) q;
    }

  pub storing_end : length ws ≤ i → out ≡ over (les k ws) out₀
  unfolding les
  storing_end h =
      let q = stream_end (les k ws) (les k (drop i ws)) out out₀ at (ap (les k) (drop_of_length-le ws {i = i} h)) s.stream in
      q.1 ∙ ap (λ (n : ℕ). les k ws ++ drop n out₀) q.0

-- and the words are of any kind
module _ {A : Type 0} {as-number : A → ℕ} {as-numbers : List A → List ℕ} (laws : WordLaws as-number as-numbers) (k : ℕ) (ws : List A) (out₀ : List ℕ) where
  pub stored_start : k * length ws ≤ length out₀ → Storing k (as-numbers ws) out₀ 0 0 out₀
  stored_start h = storing_start k (as-numbers ws) out₀ (rw (length-numbers laws ws) h)

  module _ (i at : ℕ) (out : List ℕ) (s : Storing k (as-numbers ws) out₀ i at out) where
    module _ (x : A) (h : i < length ws) (e : x ≡ get_or ws i x) where
      word_is : as-number x ≡ get_or (as-numbers ws) i 0
      word_is = ap as-number e ∙ sym (get-numbers laws ws i x 0 h)

      pub stored_room : at + k ≤ length out
      stored_room = storing_room k (as-numbers ws) out₀ i at out s (as-number x) (rw (length-numbers laws ws) h) word_is

      pub stored_next : (last : List ℕ) → last ≡ put_at at (le k (as-number x)) out → Storing k (as-numbers ws) out₀ (i + 1) (at + k) last
      stored_next last q = storing_next k (as-numbers ws) out₀ i at out s (as-number x) (rw (length-numbers laws ws) h) word_is last q

    pub stored_end : length ws ≤ i → out ≡ over (les k (as-numbers ws)) out₀
    stored_end h = storing_end k (as-numbers ws) out₀ i at out s (rw (length-numbers laws ws) h)
