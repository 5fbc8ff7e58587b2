-- When a call says no: its rows in their order, the first that refuses, what the call gives, its answer, and what it leaves of a lent
-- output. Assumes nothing.
use Rattle.std.specs.Prelude.{ℕ, Bool, true, false, not, ◌≡◌, List, [], ◌∷◌, ◌++◌, length, ltb, eqb}
use Rattle.digits.specs.Lists.{Each, over}
use Rattle.rules.specs.declared.Answer.{Answer}

-- ---- the words of document 01's table, as tests

infix 50 ◌below◌ ◌above◌ ◌isnt◌
abbrev pub ◌below◌ : ℕ → ℕ → Bool
a below b = ltb a b

abbrev pub ◌above◌ : ℕ → ℕ → Bool
a above b = ltb b a

abbrev pub ◌isnt◌ : ℕ → ℕ → Bool
a isnt b = not (eqb a b)

-- ---- rows

-- where a refusal points: a vector number and a place
pub record Point : Type 0 where
  pub vector : ℕ
  pub place : ℕ

-- rows 1 to 6, 14 to 16, and 7 for the offsets; any other row; and a row that names a place
abbrev pub the_page : Point
the_page = record { vector = 0; place = 0 }

abbrev pub in_vector : ℕ → Point
in_vector v = record { vector = v; place = 0 }

abbrev pub in_vector_at : ℕ → ℕ → Point
in_vector_at v i = record { vector = v; place = i }

-- a call's rows in their order: each has its number, where it points, and its condition, which refuses where it is true
infixr 20 ◌then◌
pub data Rows : Type 0 where
  no_rows : Rows
  row : ℕ → Point → Bool → Rows
  ◌then◌ : Rows → Rows → Rows

-- what they come to: nothing to refuse, or the first row whose condition is true
pub data Verdict : Type 0 where
  fine : Verdict
  refuse : ℕ → Point → Verdict

abbrev pub first : Verdict → Verdict → Verdict
first fine v = v
first (refuse a p) v = refuse a p

abbrev pub verdict : Rows → Verdict
verdict no_rows = fine
verdict (row a p true) = refuse a p
verdict (row a p false) = fine
verdict (x then y) = first (verdict x) (verdict y)

-- all rows of a call, one after the other; and that row a, pointing at p, is the first of some rows whose condition is true
pub record Row : Type 0 where
  pub number : ℕ
  pub point : Point
  pub condition : Bool

abbrev pub ordered : Rows → List Row
ordered no_rows = []
ordered (row a p b) = record { number = a; point = p; condition = b } ∷ []
ordered (x then y) = ordered x ++ ordered y

abbrev pub Passes : Row → Type 0
Passes r = r.condition ≡ false

pub record FirstTrue (rows : List Row) (a : ℕ) (p : Point) : Type 0 where
  pub before : List Row
  pub behind : List Row
  pub rows_are : rows ≡ before ++ (record { number = a; point = p; condition = true } ∷ behind)
  pub none_before : Each Passes before

-- ---- what a call gives: the bytes or values that it writes (the examiner: the values that it is done with), or a refusal

pub data Result : Type 0 where
  done : List ℕ → Result
  refused : ℕ → Point → Result

abbrev pub settle : Verdict → List ℕ → Result
settle fine xs = done xs
settle (refuse a p) xs = refused a p

-- a call with these rows, which gives xs where none refuses
abbrev pub call : Rows → List ℕ → Result
call rows xs = settle (verdict rows) xs

-- its answer: done is 0 with vector number 0 and the count written as place; a refusal is its row with where it points
abbrev pub done_with : ℕ → Answer
done_with n = record { number = 0; vector = 0; place = n }

abbrev pub refusal : ℕ → Point → Answer
refusal a p = record { number = a; vector = p.vector; place = p.place }

abbrev pub answer : Result → Answer
answer (done xs) = done_with (length xs)
answer (refused a p) = refusal a p

-- what a lent output holds afterwards: done writes its first bytes or values, and the rest stays; a refusal leaves all as it came
abbrev pub after : Result → List ℕ → List ℕ
after (done xs) out = over xs out
after (refused a p) out = out
