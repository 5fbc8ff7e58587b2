-- What each public call promises, on every input: its answer, and everything that it was lent to write to. The code's contracts cite
-- these records. Assumes nothing.
use Rattle.std.specs.Prelude.{ℕ, ◌≡◌, Bool, false, ◌||◌, List, [], ◌∷◌, length, eqb}
use Rattle.std.specs.Float.{Format}
use Rattle.rules.specs.Verdict.{Verdict, fine, refuse, verdict, done_with, refusal, answer, after}
use Rattle.rules.specs.Write.{settings_rows, page_size, write_of}
use Rattle.rules.specs.Read.{read_of}
use Rattle.rules.specs.ReadVector.{read_vector_of}
use Rattle.rules.specs.Examine.{examine_of}
use Rattle.rules.specs.Choose.{choose_of}
use Rattle.rules.specs.declared.Answer.{Answer}
use Rattle.rules.specs.declared.Choice.{Choice}

-- the measuring call: the writer's rows less 15, and the page's size as place
abbrev pub measured : Verdict → ℕ → Answer
measured fine n = done_with n
measured (refuse a p) n = refusal a p

unfoldable pub measure_of : Format → ℕ → List ℕ → List ℕ → Answer
measure_of fmt s pairs vs = measured (verdict (settings_rows fmt s pairs vs)) (page_size fmt s pairs vs)

pub record Measured (fmt : Format) (values : List ℕ) (s : ℕ) (pairs : List ℕ) (r : Answer) : Type 0 where
  pub answer_is : r ≡ measure_of fmt s pairs values

-- `out` is the lent output as it came, `end` as it is left
pub record Written (fmt : Format) (values : List ℕ) (s : ℕ) (pairs out : List ℕ) (r : Answer) (end : List ℕ) : Type 0 where
  pub answer_is : r ≡ answer (write_of fmt s pairs values (length out))
  pub output_is : end ≡ after (write_of fmt s pairs values (length out)) out

pub record Read (fmt : Format) (page out : List ℕ) (r : Answer) (end : List ℕ) : Type 0 where
  pub answer_is : r ≡ answer (read_of fmt (length out) page)
  pub output_is : end ≡ after (read_of fmt (length out) page) out

-- of vector `number` alone
pub record ReadVector (fmt : Format) (page : List ℕ) (number : ℕ) (out : List ℕ) (r : Answer) (end : List ℕ) : Type 0 where
  pub answer_is : r ≡ answer (read_vector_of fmt number (length out) page)
  pub output_is : end ≡ after (read_vector_of fmt number (length out) page) out

pub record Examined (fmt : Format) (page : List ℕ) (r : Answer) : Type 0 where
  pub answer_is : r ≡ answer (examine_of fmt page)

-- the choosing of one vector's pair: answer and pair
pub record Chosen (fmt : Format) (values : List ℕ) (r : Choice) : Type 0 where
  pub choice_is : r ≡ choose_of fmt values

-- ---- document 01's "Given by" column: the rows that each call may refuse with

abbrev pub given_by_measuring : List ℕ
given_by_measuring = 5 ∷ 6 ∷ 9 ∷ 10 ∷ 16 ∷ []

abbrev pub given_by_writer : List ℕ
given_by_writer = 5 ∷ 6 ∷ 9 ∷ 10 ∷ 15 ∷ 16 ∷ []

abbrev pub given_by_reader : List ℕ
given_by_reader = 1 ∷ 2 ∷ 3 ∷ 4 ∷ 5 ∷ 6 ∷ 7 ∷ 8 ∷ 9 ∷ 10 ∷ 11 ∷ 12 ∷ 13 ∷ 14 ∷ 15 ∷ 17 ∷ []

-- 14 is not among them: what lies behind the last vector is row 8 here
abbrev pub given_by_vector_reader : List ℕ
given_by_vector_reader = 1 ∷ 2 ∷ 3 ∷ 4 ∷ 5 ∷ 6 ∷ 7 ∷ 8 ∷ 9 ∷ 10 ∷ 11 ∷ 12 ∷ 13 ∷ 15 ∷ 17 ∷ 30 ∷ []

abbrev pub given_by_examiner : List ℕ
given_by_examiner = 1 ∷ 2 ∷ 3 ∷ 4 ∷ 5 ∷ 6 ∷ 7 ∷ 8 ∷ 9 ∷ 10 ∷ 11 ∷ 12 ∷ 13 ∷ 14 ∷ 17 ∷ 20 ∷ 21 ∷ 22 ∷ 23 ∷ 24 ∷ []

abbrev pub given_by_chooser : List ℕ
given_by_chooser = 31 ∷ []

abbrev pub among : ℕ → List ℕ → Bool
among a [] = false
among a (b ∷ bs) = eqb a b || among a bs
