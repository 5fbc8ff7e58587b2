-- Two stretches of one output written side by side, a table in front and what it speaks of behind: what is done of each, and the rest from here, are the whole of it. Assumes nothing.
use mathlib.Core.Path.{◌≡◌, refl, sym, ap, ap₂, ◌∙◌}
use mathlib.Core.List.{List, [], ◌∷◌, ◌++◌, append_assoc, append-nil}
use Prim.Native.Nat.{ℕ, ◌+◌, ◌≤◌}
use native.Mathlib.Omega.{arith}
use lib.ListN.{length, take, drop, length-append, take-append-drop, length-take, length-drop}
use lib.Seq.{drop-drop, drop-append-add}
use Rattle.digits.specs.Lists.{put_at}
use Rattle.digits.proofs.Lists.{two-regions}

pub record Laid (front behind rest_f restB out out₀ : List ℕ) (o at : ℕ) : Type 0 where
  pub p : List ℕ
  pub g : List ℕ
  pub q : List ℕ
  pub is : out ≡ p ++ (g ++ (q ++ drop at out₀))
  pub in_front : length p ≡ o
  pub gap : length g ≡ length rest_f
  pub sum : length p + length g + length q ≡ at
  pub fits : at ≤ length out₀
  pub front-is : p ++ rest_f ≡ front
  pub behind-is : q ++ restB ≡ behind

pub laid_length : {front behind rest_f restB out out₀ : List ℕ} {o at : ℕ} → Laid front behind rest_f restB out out₀ o at → length out ≡ length out₀
laid_length {out} {out₀} {at} l = let h = l.fits in let s = l.sum in ap length l.is ∙ simp (length-append, length-drop) (omega arith)

pub laid_start : (h rest_f restB d : List ℕ) → length h + length rest_f ≤ length d → Laid (h ++ rest_f) restB rest_f restB (h ++ drop (length h) d) (h ++ drop (length h) d) (length h) (length h + length rest_f)
laid_start h rest_f restB d k = record {
  p = h;
  g = take (length rest_f) (drop (length h) d);
  q = [];
  is = ap (λ (x : List ℕ). h ++ x) (sym (take-append-drop (length rest_f) (drop (length h) d)) ∙ ap (λ (x : List ℕ). take (length rest_f) (drop (length h) d) ++ x) (sym (drop-append-add h (drop (length h) d) (length rest_f))));
  in_front = refl;
  gap = rw (length-take, length-drop) (omega arith);
  sum = rw (length-take, length-drop) (omega arith);
  fits = rw (length-append, length-drop) (omega arith);
  front-is = refl;
  behind-is = refl;
}

pub laid_next : (front behind w rest_f v restB out out₀ last : List ℕ) (o at r : ℕ) → Laid front behind (w ++ rest_f) (v ++ restB) out out₀ o at → at + length v ≤ length out₀
    → last ≡ put_at at v (put_at o w out) → r ≡ length v → Laid front behind rest_f restB last out₀ (o + length w) (at + r)
laid_next front behind w rest_f v restB out out₀ last o at r l room e er =
    let lg : length l.g ≡ length w + length rest_f = l.gap ∙ length-append w rest_f in
    let s = l.sum in
    record {
      p = l.p ++ w;
      g = drop (length w) l.g;
      q = l.q ++ v;
      is = e ∙ ap (λ (x : List ℕ). put_at at v (put_at o w x)) l.is
          ∙ two-regions l.p l.g l.q (drop at out₀) w v o at l.in_front (omega arith) s
          ∙ ap (λ (x : List ℕ). (l.p ++ w) ++ (drop (length w) l.g ++ ((l.q ++ v) ++ x))) (drop-drop (length v) at out₀ ∙ ap (λ (k : ℕ). drop (at + k) out₀) (sym er));
      in_front = length-append l.p w ∙ ap (λ (n : ℕ). n + length w) l.in_front;
      gap = rw length-drop (omega arith);
      sum = rw (length-append, length-append, length-drop) (omega arith);
      fits = omega arith;
      front-is = append_assoc l.p w rest_f ∙ l.front-is;
      behind-is = append_assoc l.q v restB ∙ l.behind-is;
    }

pub laid_end : (front behind rest_f restB out out₀ : List ℕ) (o at : ℕ) → Laid front behind rest_f restB out out₀ o at → rest_f ≡ [] → restB ≡ [] → (at ≡ length (front ++ behind)) × (out ≡ (front ++ behind) ++ drop at out₀)
laid_end front behind rest_f restB out out₀ o at l ef eb =
    let g0 : length l.g ≡ 0 = l.gap ∙ ap length ef in
    let gn : l.g ≡ [] = empty l.g g0 in
    let pf : l.p ≡ front = sym (append-nil l.p) ∙ ap (λ (x : List ℕ). l.p ++ x) (sym ef) ∙ l.front-is in
    let qb : l.q ≡ behind = sym (append-nil l.q) ∙ ap (λ (x : List ℕ). l.q ++ x) (sym eb) ∙ l.behind-is in
    let s = l.sum in
    let lp = ap length pf in
    let lq = ap length qb in
    (rw length-append (omega arith), l.is ∙ ap (λ (x : List ℕ). l.p ++ (x ++ (l.q ++ drop at out₀))) gn ∙ ap₂ (λ (x y : List ℕ). x ++ (y ++ drop at out₀)) pf qb ∙ sym (append_assoc front behind (drop at out₀)))
  where
    empty : (l : List ℕ) → length l ≡ 0 → l ≡ []
    empty [] e = refl
    empty (x ∷ l) e = absurd (omega (arith, e))
