-- Reading as it was until row 17 (docs/OLDER-PAGES.md): frame plus field was taken modulo 2 ^ W, and no row asked for its range. No call reads
-- so any more; it is defined here so that a theorem can say what became of every page (theorems/proofs/Wrapped). Assumes nothing.
use Rattle.std.specs.Prelude.{ℕ, ◌+◌, ◌%◌, ◌^◌, cond, drop, eqb, ℤ}
use mathlib.Core.List.{List, map, zip_with}
use Rattle.std.proofs.Math.Option.{Option}
use Rattle.std.specs.Float.{Format}
use Rattle.std.proofs.Common.{to_z}
use Rattle.digits.specs.Lists.{join}
use Rattle.rules.specs.Kind.{word, word_bits, meta_bytes}
use Rattle.rules.specs.Decimal.{back}
use Rattle.rules.specs.Vector.{Raw, or_else, fields, marked}
use Rattle.rules.specs.Page.{meta_at, raw_from, raws_of}
use Rattle.rules.specs.Verdict.{Rows, no_rows, row, ◌then◌, Result, call}
use Rattle.rules.specs.Read.{read_rows}
use Rattle.rules.specs.ReadVector.{values_in, span_of, part_from, read_vector_rows}

-- the words' sum, read as signed
unfoldable pub wrapped_wholes : Format → Raw → List ℤ
wrapped_wholes fmt r = map (λ (d : ℕ). to_z (word fmt) ((r.frame + d) % 2 ^ word_bits fmt)) (fields r)

unfoldable pub wrapped_decoded : Format → Raw → List ℕ
wrapped_decoded fmt r = zip_with (λ (z : ℤ) (m : Option ℕ). or_else (back fmt r.pair z) m) (wrapped_wholes fmt r) (marked r)

-- some rows less those of number a
abbrev pub without : ℕ → Rows → Rows
without a no_rows = no_rows
without a (row b p c) = cond (eqb a b) no_rows (row b p c)
without a (x then y) = without a x then without a y

unfoldable pub wrapped_read_of : Format → ℕ → List ℕ → Result
wrapped_read_of fmt room bs = call (without 17 (read_rows fmt room bs)) (join (map (wrapped_decoded fmt) (raws_of fmt bs)))

unfoldable pub wrapped_read_vector_of : Format → ℕ → ℕ → List ℕ → Result
wrapped_read_vector_of fmt v room bs =
    let part = part_from bs (span_of bs v) in
    call (without 17 (read_vector_rows fmt v room bs)) (wrapped_decoded fmt (raw_from fmt (values_in bs v) (meta_at fmt part) (drop (meta_bytes fmt) part)))

-- to unfold this is to unfold all of the above
unfoldable pub all_wrapped : Unit {0}
unfolding wrapped_wholes wrapped_decoded wrapped_read_of wrapped_read_vector_of
all_wrapped = tt
