-- The two parts of a vector: its packed part, and the lists behind it. Assumes nothing.
use Rattle.std.proofs.Common.{◌≡◌, ℕ, ◌+◌, ◌-◌, ◌^◌, ◌<◌, ◌≤◌, List, [], length, take, drop, sym, ap, ◌∙◌, subst, ap₂, arith, length-drop, length-take, drop-drop}
use lib.Ieee.{Format}
use Rattle.digits.specs.Digits.{numbers, packed_size}
use Rattle.digits.specs.Lists.{Each}
use Rattle.digits.proofs.Lists.{lent, lent_is}
use Rattle.rules.specs.Kind.{max_s, meta_bytes, word_bits}
use Rattle.rules.specs.Coded.{format_of}
use Rattle.rules.specs.Decimal.{Pair}
use Rattle.rules.specs.Vector.{fields, wholes}
use Rattle.rules.specs.Page.{Meta, meta_at, raw_from}
use Rattle.rules.proofs.Reading.{Passed, Rising}
use Rattle.rules.proofs.Tries.{Held}
use Rattle.bits.specs.declared.word.Word as word
use Rattle.decimal.specs.declared.value.Value as value
use Rattle.inspect.specs.Seen.{seen, described, FieldsLaid, ListsLaid, FieldsFit, ListsFit}
use Rattle.inspect.specs.Looked.{of_lists, of_both}
use Rattle.inspect.specs.declared.walk.Fields.{Fields}
use Rattle.inspect.specs.declared.walk.Lists.{Lists}

-- ---- what is known of a part holds whatever the rest of the vector is

pub fields-fit : (fmt : Format) (n : ℕ) (m : Meta) (packed : List ℕ) → FieldsLaid fmt n m packed → FieldsFit fmt n m.frame m.width packed
unfolding wholes fields
fields-fit fmt n m packed laid p listed = record { many = laid.many; narrow = laid.narrow; long = laid.long; framed = laid.framed; held = laid.held }

pub lists-fit : (fmt : Format) (n : ℕ) (m : Meta) (lists : List ℕ) → ListsLaid fmt n m lists → ListsFit fmt n m.listed lists
lists-fit fmt n m lists laid p frame width = record { many = laid.many; few = laid.few; room = laid.room; rising = laid.rising }

-- ---- the two parts are of one vector

pub one-vector : {A F : Type 0} {v : value.Ghosts A F} {w : word.Ghosts A} (f : Fields A F v w) (l : Lists A F v w) (p : Pair) → f.count ≡ l.count
    → of_lists l p (w.as_number f.frame) f.width f.packed.now ≡ of_both f l p
one-vector {v = v} {w = w} f l p e = ap (λ (n : ℕ). seen (format_of v.KIND) n (described p l.listed (w.as_number f.frame) f.width) f.packed.now l.bytes.now) (sym e)

-- ---- they stand in a page

-- the part from a to b
abbrev pub cut : ℕ → ℕ → List ℕ → List ℕ
cut a b l = take (b - a) (drop a l)

module _ (fmt : Format) (n : ℕ) (m : Meta) (part : List ℕ) (e : m ≡ meta_at fmt part) (many : n ≤ 2 ^ max_s) (passed : Passed fmt n (meta_at fmt part) part)
    (front size : ℕ) (ef : front ≡ meta_bytes fmt) (es : size ≡ packed_size n m.width) where
  shown : Passed fmt n m part
  shown = subst (λ (x : Meta). Passed fmt n x part) (sym e) passed

  packed-is : cut front (front + size) part ≡ take (packed_size n m.width) (drop (meta_bytes fmt) part)
  packed-is = let d : front + size - front ≡ packed_size n m.width = omega (arith, es) in ap₂ (λ (x y : ℕ). take x (drop y part)) d ef

  lists-are : lent (front + size) part ≡ drop (packed_size n m.width) (drop (meta_bytes fmt) part)
  lists-are = lent_is (front + size) part ∙ ap₂ (λ (x y : ℕ). drop (x + y) part) ef es ∙ sym (drop-drop (packed_size n m.width) (meta_bytes fmt) part)

  pub fields_laid : m.frame < 2 ^ word_bits fmt → FieldsLaid fmt n m (cut front (front + size) part)
  unfolding wholes fields raw_from
  fields_laid framed = record {
    many = many;
    narrow = shown.narrow;
    long = ap length packed-is ∙ length-take (packed_size n m.width) (drop (meta_bytes fmt) part) ∙ omega (arith, shown.whole, length-drop (meta_bytes fmt) part);
    framed = framed;
    held = subst (λ (l : List ℕ). Each (Held fmt) (wholes fmt (seen fmt n m l []))) (sym packed-is) shown.held;
  }

  pub lists-laid : ListsLaid fmt n m (lent (front + size) part)
  unfolding raw_from
  lists-laid = record {
    many = many;
    few = shown.few;
    room = omega (arith, shown.whole, ef, es, ap length (lent_is (front + size) part), length-drop (front + size) part);
    rising = subst (λ (l : List ℕ). Rising n 0 (numbers 2 m.listed l)) (sym lists-are) shown.rising;
  }

  pub seen-is : seen fmt n m (cut front (front + size) part) (lent (front + size) part) ≡ raw_from fmt n (meta_at fmt part) (drop (meta_bytes fmt) part)
  unfolding raw_from
  seen-is = ap₂ (seen fmt n m) packed-is lists-are ∙ ap (λ (x : Meta). raw_from fmt n x (drop (meta_bytes fmt) part)) e
