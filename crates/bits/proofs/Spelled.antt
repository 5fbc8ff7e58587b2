-- Bytes taken from the last one down: the word so far is what those taken spell. Assumes nothing.
use mathlib.Core.Path.{◌≡◌, refl, sym, ap, ◌∙◌}
use mathlib.Core.List.{List, [], ◌∷◌, ◌++◌, append_assoc}
use Prim.Native.Nat.{ℕ, suc, ◌+◌, ◌-◌, ◌*◌, ◌^◌, ◌≤◌, ◌<◌}
use native.Mathlib.Numerals.{add-one}
use native.Mathlib.Omega.{arith}
use lib.ListN.{length, take, drop, get_or, length-drop}
use mathlib.Core.List.{reverse}
use Rattle.std.proofs.lemmas.List.{reverse-append, reverse-reverse, take-append-drop}
use lib.Seq.{drop_at, drop-cons}
use Rattle.digits.specs.Digits.{of_digits, number, Below}
use Rattle.digits.proofs.Laws.{below_drop, of_drop_lt}
use Rattle.digits.proofs.Lists.{lent, lent_is}

-- of the bytes bs those in front, `rest`, are left
pub record Spelled (bs rest : List ℕ) (word : ℕ) : Type 0 where
  pub taken : List ℕ
  pub whole : rest ++ taken ≡ bs
  pub is : word ≡ number taken

module _ (bs rest rest' : List ℕ) (word b : ℕ) (s : Spelled bs rest word) (e : rest ≡ rest' ++ (b ∷ [])) where
  pub spelled_next : Spelled bs rest' (word * 256 + b)
  unfolding of_digits
  spelled_next = record {
    taken = b ∷ s.taken;
    whole = sym (append_assoc rest' (b ∷ []) s.taken) ∙ ap (λ (r : List ℕ). r ++ s.taken) (sym e) ∙ s.whole;
    is = ap (λ (x : ℕ). x * 256 + b) s.is;
  }

-- a word of a slice's last bytes
module _ (bytes : List ℕ) (at : ℕ) (below : Below 256 bytes) (few : length bytes - at ≤ 8) (rest rest' : List ℕ) (word b : ℕ) (s : Spelled (lent at bytes) rest word) (e : rest ≡ rest' ++ (b ∷ [])) where
  pub spelled_fits : word * 256 + b < 2 ^ 64
  spelled_fits =
      let bs = lent at bytes in
      let n = spelled_next bs rest rest' word b s e in
      let all : Below 256 bs = rw (lent_is at bytes) (below_drop 256 bytes at below) in
      let long : length bs - length rest' ≤ 8 = rw (lent_is at bytes, length-drop) (omega arith) in
      rw (n.is, sym (ap (drop (length rest')) (sym n.whole) ∙ drop_at rest' n.taken (length rest') refl)) (of_drop_lt 256 bs (length rest') 8 all long)

-- the last n bytes are taken, the last of them first, and then the one before them
pub spelled_back : (bs ys : List ℕ) (n word : ℕ) → word ≡ number (reverse ys) → ys ≡ take n (reverse bs) → Spelled bs (reverse (drop n (reverse bs))) word
spelled_back bs ys n word e so_far = record {
  taken = reverse ys;
  whole = ap (λ (l : List ℕ). reverse (drop n (reverse bs)) ++ reverse l) so_far ∙ sym (reverse-append (take n (reverse bs)) (drop n (reverse bs)))
      ∙ ap reverse (take-append-drop n (reverse bs)) ∙ reverse-reverse bs;
  is = e;
}

pub turn_back : (bs : List ℕ) (n b : ℕ) → n < length (reverse bs) → b ≡ get_or (reverse bs) n b → reverse (drop n (reverse bs)) ≡ reverse (drop (n + 1) (reverse bs)) ++ (b ∷ [])
turn_back bs n b h e =
    rw add-one
    (ap reverse (drop-cons (reverse bs) n b h ∙ ap (λ (x : ℕ). x ∷ drop (suc n) (reverse bs)) (sym e)) ∙ reverse-append (b ∷ []) (drop (suc n) (reverse bs)))
