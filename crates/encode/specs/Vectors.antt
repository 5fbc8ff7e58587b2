-- One vector of values: how many there may be, what is written of each, and its bytes. Assumes nothing.
use Rattle.std.specs.Prelude.{ℕ, ◌^◌, ◌≤◌, Bool, true, false, List, [], ◌∷◌}
use Rattle.std.specs.Float.{Format}
use Rattle.rules.specs.Kind.{max_s}
use Rattle.rules.specs.Decimal.{Pair}
use Rattle.rules.specs.Vector.{tries, filled, fields_of, encoded}
use Rattle.rules.specs.Page.{Meta, vector_bytes}

-- a vector holds at most so many values
abbrev pub Short : ℕ → Type 0
Short n = n ≤ 2 ^ max_s

-- its fields, and its bytes
abbrev pub fields_in : Format → Pair → List ℕ → List ℕ
fields_in fmt p vs = fields_of (filled (tries fmt p vs))

abbrev pub bytes_of : Format → Pair → List ℕ → List ℕ
bytes_of fmt p vs = vector_bytes fmt (encoded fmt p vs)

-- its metadata, out of the four parts
abbrev pub meta_with : Pair → ℕ → ℕ → ℕ → Meta
meta_with p listed frame width = record { pair = p; listed = listed; frame = frame; width = width }

-- what one value adds to a list of exceptions: n, its position or its bits, where it is one
abbrev pub entry : Bool → ℕ → List ℕ
entry true n = n ∷ []
entry false n = []
