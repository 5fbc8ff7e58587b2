-- A vector as the code walks over it: its numbers, its packed part, and what stands behind that, the lists of exceptions. Assumes nothing.
use Rattle.std.specs.Prelude as std
use Rattle.std.specs.Prelude.{◌≡◌, ℕ, suc, ◌+◌, ◌*◌, ◌^◌, ◌<◌, ◌≤◌, Some, None, Bool, true, false, ◌&&◌, List, [], ◌∷◌, length, drop, ℤ, ◌==◌, nat_lt, slice_index}
use Rattle.std.specs.Bool.{then_some}
use Rattle.std.specs.Coded.{×_prop, Unit-prop, le_prop}
use Rattle.std.proofs.Math.Nat.{ℕ_set}
use Rattle.std.proofs.Math.Option.{Option, none, some}
use Rattle.std.specs.Float.{Format}
use Rattle.digits.specs.Digits.{numbers, packed_size}
use Rattle.digits.specs.Lists.{Each}
use Rattle.rules.specs.Kind.{max_s, word_bits, word_bytes}
use Rattle.rules.specs.Decimal.{Pair}
use Rattle.rules.specs.Vector.{Raw, wholes, marked}
use Rattle.rules.specs.Page.{Meta}
use Rattle.rules.specs.Verdict.{Rows}
use Rattle.rules.specs.Examine.{stand_in_of, first_rows}
use Rattle.rules.proofs.Reading.{Rising}
use Rattle.rules.proofs.Tries.{Held}

-- its metadata
abbrev pub described : Pair → ℕ → ℕ → ℕ → Meta
described p listed frame width = record { pair = p; listed = listed; frame = frame; width = width }

-- the vector of n values with metadata m, of which `packed` is the packed part, and behind it stand positions, then exceptions
abbrev pub seen : Format → ℕ → Meta → List ℕ → List ℕ → Raw
seen fmt n m packed lists = record {
  count = n;
  pair = m.pair;
  frame = m.frame;
  width = m.width;
  packed = packed;
  positions = numbers 2 m.listed lists;
  exceptions = numbers (word_bytes fmt) m.listed (drop (m.listed * 2) lists);
}

-- what the layout's check shows of its packed part, whose sums the kind's signed range holds, and of its lists
pub record FieldsLaid (fmt : Format) (n : ℕ) (m : Meta) (packed : List ℕ) : Type 0 where
  pub many : n ≤ 2 ^ max_s
  pub narrow : m.width ≤ word_bits fmt
  pub long : length packed ≡ packed_size n m.width
  pub framed : m.frame < 2 ^ word_bits fmt
  pub held : Each (Held fmt) (wholes fmt (seen fmt n m packed []))

pub record ListsLaid (fmt : Format) (n : ℕ) (m : Meta) (lists : List ℕ) : Type 0 where
  pub many : n ≤ 2 ^ max_s
  pub few : m.listed ≤ n
  pub room : m.listed * (2 + word_bytes fmt) ≤ length lists
  pub rising : Rising n 0 (numbers 2 m.listed lists)

-- each of the two has one proof at most
each-once : {A : Type 0} → (P : A → Type 0) → ((a : A) → IsProp (P a)) → (xs : List A) → IsProp (Each P xs)
each-once P h [] = Unit-prop
each-once P h (x ∷ xs) = ×_prop (h x) (each-once P h xs)

rising-once : (n low : ℕ) (ps : List ℕ) → IsProp (Rising n low ps)
rising-once n low [] = Unit-prop
rising-once n low (p ∷ ps) = λ x y i. (le_prop x.0 y.0 i, le_prop x.1 y.1 i, rising-once n (suc p) ps x.2 y.2 i)

pub fields-laid-once : (fmt : Format) (n : ℕ) (m : Meta) (packed : List ℕ) → IsProp (FieldsLaid fmt n m packed)
fields-laid-once fmt n m packed x y i = record {
  many = le_prop x.many y.many i;
  narrow = le_prop x.narrow y.narrow i;
  long = ℕ_set (length packed) (packed_size n m.width) x.long y.long i;
  framed = le_prop x.framed y.framed i;
  held = each-once (Held fmt) (λ z. le_prop) (wholes fmt (seen fmt n m packed [])) x.held y.held i;
}

pub lists-laid-once : (fmt : Format) (n : ℕ) (m : Meta) (lists : List ℕ) → IsProp (ListsLaid fmt n m lists)
lists-laid-once fmt n m lists x y i = record {
  many = le_prop x.many y.many i;
  few = le_prop x.few y.few i;
  room = le_prop x.room y.room i;
  rising = rising-once n 0 (numbers 2 m.listed lists) x.rising y.rising i;
}

-- the same whatever the vector's pair and lists are, and whatever its pair and fields are
abbrev pub FieldsFit : Format → ℕ → ℕ → ℕ → List ℕ → Type 0
FieldsFit fmt n frame width packed = (p : Pair) (listed : ℕ) → FieldsLaid fmt n (described p listed frame width) packed

abbrev pub ListsFit : Format → ℕ → ℕ → List ℕ → Type 0
ListsFit fmt n listed lists = (p : Pair) (frame width : ℕ) → ListsLaid fmt n (described p listed frame width) lists

pub fields-fit-once : (fmt : Format) (n frame width : ℕ) (packed : List ℕ) → IsProp (FieldsFit fmt n frame width packed)
fields-fit-once fmt n frame width packed x y i = λ p listed. fields-laid-once fmt n (described p listed frame width) packed (x p listed) (y p listed) i

pub lists-fit-once : (fmt : Format) (n listed : ℕ) (lists : List ℕ) → IsProp (ListsFit fmt n listed lists)
lists-fit-once fmt n listed lists x y i = λ p frame width. lists-laid-once fmt n (described p listed frame width) lists (x p frame width) (y p frame width) i

-- row a of vector v, for a condition that each position of the vector r may meet
abbrev pub position_rows : Format → ℕ → ℕ → (ℤ → Option ℕ → Bool) → Raw → Rows
position_rows fmt a v at-fault r = first_rows a v at-fault 0 (wholes fmt r) (marked r)

-- its stand-in
abbrev pub stand_in_as : Format → Raw → ℤ
stand_in_as fmt r = stand_in_of (wholes fmt r) (marked r)

-- ---- a walk over the positions i, where j positions of the list are behind it

-- whether i is the next position of the list, and its index there, if it is
abbrev pub is_next : List ℕ → ℕ → ℕ → Bool
is_next ps i j = nat_lt j (length ps) && slice_index ps j == i

abbrev pub listed_at : List ℕ → ℕ → ℕ → std.Option ℕ
listed_at ps i j = then_some (is_next ps i j) j

-- what is then behind it
abbrev pub behind : Bool → ℕ → ℕ
behind true j = j + 1
behind false j = j

-- what is stored for a position: x where it is listed
abbrev pub mark_of : Bool → ℕ → Option ℕ
mark_of true x = some x
mark_of false x = none

-- the same of one that has an index where it is listed
abbrev pub mark_at : List ℕ → std.Option ℕ → Option ℕ
mark_at xs (Some j) = mark_of true (slice_index xs j)
mark_at xs None = mark_of false 0
