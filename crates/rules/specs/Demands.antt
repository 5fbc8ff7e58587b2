-- The words in which the demands are said (theorems/proofs/Demands states and proves them): what holds of every call, of what it
-- leaves, of a byte list that the examiner looks at, and of two that one vector's reading can't tell apart. Assumes nothing.
use Rattle.std.specs.Prelude.{ℕ, ◌≤◌, ◌<◌, ◌≡◌, ◌↔◌, List, ◌∷◌, ◌++◌, length, take, drop, T}
use Rattle.std.specs.Float.{Format}
use Rattle.digits.specs.Lists.{Each}
use Rattle.rules.specs.Verdict.{Point, Rows, ordered, Passes, FirstTrue, Result, done, refused, after}
use Rattle.rules.specs.Calls.{among}
use Rattle.rules.specs.Decimal.{Pair}
use Rattle.rules.specs.Page.{vector_size, meta_at}
use Rattle.rules.specs.Write.{PageOf}
use Rattle.rules.specs.Read.{read_of}
use Rattle.rules.specs.ReadVector.{values_in, span_of, part_from}
use Rattle.rules.specs.Examine.{examine_of}

-- a call that gave r: its rows, the numbers that it may refuse with, and what it gives where it does not refuse
pub record Answers (r : Result) (rows : Rows) (numbers : List ℕ) (xs : List ℕ) : Type 0 where
  -- it ends with an answer of the table: done, or one of its rows
  pub of_the_table : (a : ℕ) (p : Point) → r ≡ refused a p → T (among a numbers)
  -- a row is given exactly where its condition is true and that of no row before it is
  pub refuses : (a : ℕ) (p : Point) → r ≡ refused a p ↔ FirstTrue (ordered rows) a p
  -- and it is done exactly where no row's condition is true
  pub is_done : r ≡ done xs ↔ Each Passes (ordered rows)

-- what a call leaves of a lent output
pub record Leaves (r : Result) (out : List ℕ) : Type 0 where
  -- a refusal: all as it came
  pub refusal : (a : ℕ) (p : Point) → r ≡ refused a p → after r out ≡ out
  -- done: what it gives in front, and the rest as it came
  pub in_front : (xs : List ℕ) → r ≡ done xs → take (length xs) (after r out) ≡ xs
  pub the_rest : (xs : List ℕ) → r ≡ done xs → drop (length xs) (after r out) ≡ drop (length xs) out
  -- there is room for it
  pub same_length : length (after r out) ≡ length out

-- demand 3, of one byte list
pub record Examines (fmt : Format) (bs : List ℕ) : Type 0 where
  -- the examiner is done with vs exactly where some s and pairs inside the limits have bs as the page of vs
  pub accepts : (vs : List ℕ) → examine_of fmt bs ≡ done vs ↔ ((s : ℕ) × (ps : List Pair) × PageOf fmt bs s ps vs)
  -- there is one such list and one such choice only
  pub one_only : (s s' : ℕ) (ps ps' : List Pair) (vs vs' : List ℕ) → PageOf fmt bs s ps vs → PageOf fmt bs s' ps' vs' → (s ≡ s') × (ps ≡ ps') × (vs ≡ vs')
  -- and reading gives it, given room
  pub reads : (vs : List ℕ) (room : ℕ) → examine_of fmt bs ≡ done vs → length vs ≤ room → read_of fmt room bs ≡ done vs

-- ---- of the choosing of a pair

-- p is the first of the smallest: those before it have more bytes, and none behind it has fewer
pub record FirstOfSmallest (size : Pair → ℕ) (ps : List Pair) (p : Pair) : Type 0 where
  pub before : List Pair
  pub behind : List Pair
  pub pairs_are : ps ≡ before ++ (p ∷ behind)
  pub more_before : Each (λ (q : Pair). size p < size q) before
  pub no_fewer_behind : Each (λ (q : Pair). size p ≤ size q) behind

-- ---- of one vector by its number

-- its bytes, and all behind them
abbrev pub vector_at : List ℕ → ℕ → List ℕ
vector_at bs v = part_from bs (span_of bs v)

-- two byte lists that agree where the reading of vector v looks: their length, the header, where the offsets say that the vector lies, and as
-- many bytes from there on as it has
pub record Alike (fmt : Format) (v : ℕ) (bs cs : List ℕ) : Type 0 where
  pub long : length bs ≡ length cs
  pub header : take 8 bs ≡ take 8 cs
  pub offsets : span_of bs v ≡ span_of cs v
  pub vector : let size = vector_size fmt (values_in bs v) (meta_at fmt (vector_at bs v)) in take size (vector_at bs v) ≡ take size (vector_at cs v)
