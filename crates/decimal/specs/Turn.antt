-- What the code's answers stand for in the rules: a value's whole number or "exception", and the reading rule at one place.
-- Assumes nothing.
use Rattle.std.specs.Prelude as std
use Rattle.std.specs.Prelude.{ℕ, ◌+◌, ◌%◌, ◌^◌, ℤ, Some, None}
use Rattle.std.proofs.Math.Option.{Option, none, some}
use Rattle.std.specs.Float.{Format}
use Rattle.std.proofs.Common.{to_z}
use Rattle.rules.specs.Kind.{word, word_bits}
use Rattle.rules.specs.Decimal.{Pair, back}

-- the whole number, or none where the value is an exception
abbrev pub as_try : std.Option ℤ → Option ℤ
as_try (Some z) = some z
as_try None = none

-- what the code makes of a frame and a field: the words' sum, modulo 2^W, read as signed and brought back. Where the signed range holds frame
-- plus field, that is the reading rule (proofs/Turns, `turned-fields`)
abbrev pub turned : Format → Pair → ℕ → ℕ → ℕ
turned fmt p frame field = back fmt p (to_z (word fmt) ((frame + field) % 2 ^ word_bits fmt))
