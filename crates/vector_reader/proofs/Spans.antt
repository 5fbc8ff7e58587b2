-- Where the vector's bytes are: the part of the page that is lent from its start on. Assumes nothing.
use mathlib.Core.Path.{◌≡◌, sym, ap, ◌∙◌}
use mathlib.Core.List.{List}
use Prim.Native.Nat.{ℕ, ◌+◌, ◌≤◌, ◌<◌, min}
use native.Mathlib.Nat.{lt_of_not-le}
use native.Mathlib.Decide.{dec_le}
use native.Mathlib.Omega.{arith}
use lib.ListN.{length, drop, length-drop, drop_of_length-le}
use lib.Seq.{drop-length}
use Rattle.digits.proofs.Lists.{lent, lent_is}

-- dropping no more than there is drops the same
drop-least : (k : ℕ) (l : List ℕ) → drop (min (length l) k) l ≡ drop k l
drop-least k l = elim (dec_le k (length l)) [ yes h ↦ inside h | no h ↦ past (lt_of_not-le h) ]
  where
    inside : k ≤ length l → drop (min (length l) k) l ≡ drop k l
    inside h = let e : min (length l) k ≡ k = omega arith in ap (λ (x : ℕ). drop x l) e

    past : length l < k → drop (min (length l) k) l ≡ drop k l
    past h =
        let e : min (length l) k ≡ length l = omega arith in
        ap (λ (x : ℕ). drop x l) e ∙ drop-length l ∙ sym (drop_of_length-le l {i = k} (omega arith))

-- lent from its stored offset on, or from the page's end if that comes first
pub part_is : (from start : ℕ) (page : List ℕ) → start ≡ min (length page) (8 + from) → lent start page ≡ drop (8 + from) page
part_is from start page e = lent_is start page ∙ ap (λ (x : ℕ). drop x page) e ∙ drop-least (8 + from) page

-- a part that holds something begins inside the page
pub starts-inside : (k from : ℕ) (page : List ℕ) → 0 < k → k ≤ length (drop (8 + from) page) → 8 + from ≤ length page
starts-inside k from page h l = let d = length-drop (8 + from) page in omega arith
