-- The code's metadata, cursors and checks as the rules'. Assumes nothing.
use Rattle.std.specs.Prelude.{ℕ, ◌^◌, ◌<◌, ◌≡◌, List, drop, Result, Ok, Err}
use Rattle.std.specs.Float.{Format}
use Rattle.rules.specs.Kind.{max_exponent, word_bits, meta_bytes}
use Rattle.rules.specs.Vector.{Raw}
use Rattle.rules.specs.Page as page
use Rattle.rules.specs.Read as read
use Rattle.rules.specs.Verdict.{done_with, Rows, row, ◌then◌, Verdict, fine, refuse, in_vector, ◌above◌}
use Rattle.rules.specs.Coded.{as_pair, number_of}
use Rattle.rules.specs.declared.Answer.{Answer}
use Rattle.rules.specs.declared.Pair.{Pair}
use Rattle.checks.specs.declared.check.Refusal.{Refusal}
use Rattle.checks.specs.declared.vector.Meta.{Meta}
use Rattle.checks.specs.declared.vector.Cursor.{Cursor}

-- nothing to refuse; or the row's number, and where it points
abbrev pub as_verdict : Result Unit Refusal → Verdict
as_verdict (Ok u) = fine
as_verdict (Err r) = refuse (number_of r.row) (record { vector = r.vector; place = r.place })

-- what a call answers: done, with a count as place, or the refusal
abbrev pub answered : Result ℕ Refusal → Answer
answered (Ok n) = done_with n
answered (Err r) = record { number = number_of r.row; vector = r.vector; place = r.place }

abbrev pub as_meta : Meta → page.Meta
as_meta m = record { pair = as_pair m.pair; listed = m.listed; frame = m.frame; width = m.width }

-- m is the metadata at the front of bs, and each number is of its place's size
pub record FoundMeta (fmt : Format) (bs : List ℕ) (m : Meta) : Type 0 where
  pub meta_is : as_meta m ≡ page.meta_at fmt bs
  pub listed : m.listed < 256 ^ 2
  pub frame : m.frame < 2 ^ word_bits fmt
  pub width : m.width < 256

-- the vector of n values at the front of bs
abbrev pub raw_at : Format → ℕ → List ℕ → Raw
raw_at fmt n bs = page.raw_from fmt n (page.meta_at fmt bs) (drop (meta_bytes fmt) bs)

abbrev pub as_cursor : Cursor → read.Cursor
as_cursor c = record { vector = c.vector; offset = c.offset; left = c.left }

-- 9 and 10, of the pair of vector v
abbrev pub pair_rows : Format → ℕ → Pair → Rows
pair_rows fmt v p = row 9 (in_vector v) (p.exponent.0 above max_exponent fmt) then row 10 (in_vector v) (p.factor.0 above p.exponent.0)

-- before the first position of a list
abbrev pub no_position : read.Listed
no_position = record { index = 0; low = 0 }
