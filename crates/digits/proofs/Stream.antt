-- An output written from its front, one stretch after the other: what is done, and the rest from here, are the whole. Assumes nothing.
use mathlib.Core.Path.{◌≡◌, refl, sym, ap, ap₂, ◌∙◌, subst}
use mathlib.Core.List.{List, [], ◌++◌, append_assoc, append-nil}
use Prim.Native.Nat.{ℕ, ◌+◌, ◌-◌, ◌≤◌}
use native.Mathlib.Omega.{arith}
use lib.ListN.{length, take, drop, length-append, take-append-drop, length-take, length-drop}
use lib.Seq.{take_at, drop_at, drop-drop}
use Rattle.digits.specs.Lists.{over, put_at}
use borrow.Rule.Slice.PartMut.{put_mid}
use Rattle.digits.proofs.Lists.{over-next, length_over, length-put_at}

pub record Stream (all rest out out₀ : List ℕ) (at : ℕ) : Type 0 where
  pub same : length out ≡ length out₀
  pub within : at ≤ length out
  pub done : take at out ++ rest ≡ all
  pub kept : drop at out ≡ drop at out₀

pub stream_start : (all out : List ℕ) → Stream all all out out 0
stream_start all out = record { same = refl; within = omega arith; done = refl; kept = refl }

-- the same stream, its rest written another way
pub stream_as : {all rest out out₀ : List ℕ} {at : ℕ} (rest' : List ℕ) → rest ≡ rest' → Stream all rest out out₀ at → Stream all rest' out out₀ at
stream_as {all} {rest} {out} {out₀} {at} rest' e s = subst (λ (r : List ℕ). Stream all r out out₀ at) e s

module _ (all w rest out out₀ : List ℕ) (at : ℕ) (room : length all ≤ length out₀) (s : Stream all (w ++ rest) out out₀ at) where
  pub stream_room : at + length w ≤ length out
  stream_room =
      let a = s.within in
      let b = s.same in
      let e : at + (length w + length rest) ≡ length all = sym (simp (length-append, length-take) (omega arith)) ∙ ap length s.done in
      omega arith

  pub stream_next : Stream all rest (put_at at w out) out₀ (at + length w)
  stream_next =
      let a = s.within in
      let r = stream_room in
      let n : length (put_at at w out) ≡ length out = length-put_at at w out r in
      let l : length (take at out ++ w) ≡ at + length w = simp (length-append, length-take) (omega arith) in
      let split : put_at at w out ≡ (take at out ++ w) ++ drop (at + length w) out = sym (append_assoc (take at out) w (drop (at + length w) out)) in
      record {
        same = n ∙ s.same;
        within = omega (arith, n);
        done = ap (λ (x : List ℕ). take (at + length w) x ++ rest) split ∙ ap (λ (x : List ℕ). x ++ rest) (take_at (take at out ++ w) (drop (at + length w) out) (at + length w) l)
            ∙ append_assoc (take at out) w rest ∙ s.done;
        kept = ap (drop (at + length w)) split ∙ drop_at (take at out ++ w) (drop (at + length w) out) (at + length w) l
            ∙ sym (drop-drop (length w) at out) ∙ ap (drop (length w)) s.kept ∙ drop-drop (length w) at out₀;
      }

pub stream_end : (all rest out out₀ : List ℕ) (at : ℕ) → rest ≡ [] → Stream all rest out out₀ at → (at ≡ length all) × (out ≡ all ++ drop at out₀)
stream_end all rest out out₀ at e s =
    let w = s.within in
    let d : take at out ≡ all = sym (append-nil (take at out)) ∙ ap (λ (x : List ℕ). take at out ++ x) (sym e) ∙ s.done in
    let l : length (take at out) ≡ at = rw length-take (omega arith) in
    (sym l ∙ ap length d, sym (take-append-drop at out) ∙ ap₂ (λ (x y : List ℕ). x ++ y) d s.kept)

-- after a callee that says what it wrote
pub stream_wrote : (all w rest out out₀ last : List ℕ) (at r : ℕ) → length all ≤ length out₀ → Stream all (w ++ rest) out out₀ at
    → r ≡ at + length w → last ≡ put_at at w out → Stream all rest last out₀ r
stream_wrote all w rest out out₀ last at r room s er el =
    subst (λ (x : List ℕ). Stream all rest x out₀ r) (sym el) (subst (λ (n : ℕ). Stream all rest (put_at at w out) out₀ n) (sym er) (stream_next all w rest out out₀ at room s))

-- ---- stretches written by calls, one after the other: each is lent the part from where the last ended

module _ (A B d o : List ℕ) (at : ℕ) (e : o ≡ over A d) (la : length A ≡ at) where
  -- the part was cut to what is written
  pub stage_mid : (last : List ℕ) (n : ℕ) → length B ≡ n → last ≡ B → put_mid at n o last ≡ over (A ++ B) d
  stage_mid last n lb el =
      let rest : drop n (drop at o) ≡ drop (length (A ++ B)) d =
      ap (λ (x : List ℕ). drop n (drop at x)) e ∙ ap (drop n) (drop_at A (drop (length A) d) at la) ∙ drop-drop n (length A) d ∙ ap (λ (k : ℕ). drop k d) (ap (λ (k : ℕ). length A + k) (sym lb) ∙ sym (length-append A B)) in
      ap₂ (λ (x y : List ℕ). x ++ (y ++ drop n (drop at o))) (ap (take at) e ∙ take_at A (drop (length A) d) at la) el
      ∙ ap (λ (x : List ℕ). A ++ (B ++ x)) rest ∙ sym (append_assoc A B (drop (length (A ++ B)) d))

  -- the part ran to the end
  pub stage_tail : (last : List ℕ) (r : ℕ) → r ≡ length B → last ≡ B ++ drop r (take (length o - at) (drop at o)) → put_mid at (length o - at) o last ≡ over (A ++ B) d
  stage_tail last r lr el =
      ap (put_mid at (length o - at) o) (el ∙ ap (λ (k : ℕ). B ++ drop k (take (length o - at) (drop at o))) lr)
      ∙ ap (λ (x : List ℕ). put_mid at (length x - at) x (over B (take (length x - at) (drop at x)))) e
      ∙ over-next A B d at la

  module _ (h : length A + length B ≤ length d) where
    pub stage_length : length o ≡ length d
    stage_length = ap length e ∙ length_over A d (omega arith)

    pub stage_start : at ≤ length o
    stage_start = let l = stage_length in omega arith

    pub stage_room : length B ≤ length (take (length o - at) (drop at o))
    stage_room = let l = stage_length in rw (length-take, length-drop) (omega arith)
