-- The parts of a vector in the code as the rules' vectors, and what a test of its positions is asked and finds. Assumes nothing.
use Rattle.std.specs.Prelude as std
use Rattle.std.specs.Prelude.{◌≡◌, ℕ, ◌*◌, ◌<◌, Bool, List, drop, Some, ℤ, pos, slice_index_or}
use Rattle.std.proofs.Math.Option.{Option}
use Rattle.std.specs.Float.{Format}
use Rattle.digits.specs.Digits.{numbers}
use Rattle.rules.specs.Kind.{word_bytes}
use Rattle.rules.specs.Coded.{format_of, as_pair}
use Rattle.rules.specs.Decimal.{Pair}
use Rattle.rules.specs.Vector.{Raw, wholes}
use Rattle.bits.specs.declared.word.Word as word
use Rattle.decimal.specs.declared.value.Value as value
use Rattle.inspect.specs.Seen.{seen, described, mark_at}
use Rattle.inspect.specs.declared.walk.Fields.{Fields}
use Rattle.inspect.specs.declared.walk.Lists.{Lists}
use Rattle.inspect.specs.declared.walk.Vector.{Vector}

-- a vector with these fields, with these lists, and with both
abbrev pub of_fields : {A F : Type 0} {v : value.Ghosts A F} {w : word.Ghosts A} → Fields A F v w → Pair → ℕ → List ℕ → Raw
of_fields {v = v} {w = w} k p listed lists = seen (format_of v.KIND) k.count (described p listed (w.as_number k.frame) k.width) k.packed.now lists

abbrev pub of_lists : {A F : Type 0} {v : value.Ghosts A F} {w : word.Ghosts A} → Lists A F v w → Pair → ℕ → ℕ → List ℕ → Raw
of_lists {v = v} k p frame width packed = seen (format_of v.KIND) k.count (described p k.listed frame width) packed k.bytes.now

abbrev pub of_both : {A F : Type 0} {v : value.Ghosts A F} {w : word.Ghosts A} → Fields A F v w → Lists A F v w → Pair → Raw
of_both f l p = of_fields f p l.listed l.bytes.now

-- the values of the exceptions in these lists
abbrev pub values_in : {A F : Type 0} {v : value.Ghosts A F} {w : word.Ghosts A} → Lists A F v w → List ℕ
values_in {v = v} k = numbers (word_bytes (format_of v.KIND)) k.listed (drop (k.listed * 2) k.bytes.now)

-- what holds of every such vector, whatever the rest of it is
abbrev pub EveryOfFields : {A F : Type 0} {v : value.Ghosts A F} {w : word.Ghosts A} → Fields A F v w → (Raw → Type 0) → Type 0
EveryOfFields k holds = (p : Pair) (listed : ℕ) (lists : List ℕ) → holds (of_fields k p listed lists)

abbrev pub EveryOfLists : {A F : Type 0} {v : value.Ghosts A F} {w : word.Ghosts A} → Lists A F v w → (Raw → Type 0) → Type 0
EveryOfLists k holds = (p : Pair) (frame width : ℕ) (packed : List ℕ) → holds (of_lists k p frame width packed)

abbrev pub EveryOfBoth : {A F : Type 0} {v : value.Ghosts A F} {w : word.Ghosts A} → Fields A F v w → Lists A F v w → (Raw → Type 0) → Type 0
EveryOfBoth f l holds = (p : Pair) → holds (of_both f l p)

-- the vector of the code as the rules'
abbrev pub raw_of : {A F : Type 0} {v : value.Ghosts A F} {w : word.Ghosts A} → Vector A F v w → Raw
raw_of k = of_both k.fields k.lists (as_pair k.scale.pair)

-- its whole number at position i
abbrev pub whole_at : Format → Raw → ℕ → ℤ
whole_at fmt r i = slice_index_or (wholes fmt r) i (pos 0)

-- an index, if there is one, is below that
abbrev pub Within : ℕ → std.Option ℕ → Type 0
Within listed index = (j : ℕ) → index ≡ Some j → j < listed

-- a test may be asked of each position, and its index in the list, if it is listed
abbrev pub MayAsk : {A F : Type 0} {v : value.Ghosts A F} {w : word.Ghosts A} → Lists A F v w → (ℕ → std.Option ℕ → Type 0) → Type 0
MayAsk k asked = (i : ℕ) (index : std.Option ℕ) → i < k.count → Within k.listed index → asked i index

-- what it finds is a condition of the whole number and of what is stored for the position
abbrev pub Finds : Format → Raw → ℕ → (ℕ → std.Option ℕ → Bool → Type 0) → (ℤ → Option ℕ → Bool) → Type 0
Finds fmt r listed found condition =
    (i : ℕ) (index : std.Option ℕ) (b : Bool) → i < r.count → Within listed index → found i index b → b ≡ condition (whole_at fmt r i) (mark_at r.exceptions index)
