-- What measuring keeps of a column's vectors for writing. Assumes nothing.
use Rattle.std.specs.Prelude.{ℕ, ◌+◌, ◌*◌, ◌^◌, ◌<◌, List, length, take, drop, get_or}
use Rattle.std.specs.Float.{Format}
use Rattle.rules.specs.Decimal.{Pair}
use Rattle.rules.specs.Vector.{tries}
use Rattle.rules.specs.Page.{vectors}
use Rattle.encode.specs.Seen.{Seen, as_seen, seen_of}
use Rattle.encode.specs.Records.{RecordedAt}
use Rattle.encode.specs.declared.scan.Seen as code

-- the pair at byte j, and the record of vector i, of `size` values
abbrev pub pair_at : List ℕ → ℕ → Pair
pair_at bs j = record { exponent = get_or bs j 0; factor = get_or bs (j + 1) 0 }

abbrev pub record_of : Format → ℕ → List ℕ → List ℕ → ℕ → Seen
record_of fmt size bs vs i = seen_of (tries fmt (pair_at bs (2 * i)) (take size (drop (i * size) vs)))

-- of the first k vectors, each record that there is a place for is kept there
abbrev pub RecordedTo : Format → ℕ → List ℕ → List ℕ → ℕ → List code.Seen → Type 0
RecordedTo fmt size bs vs k l = (i : ℕ) → i < k → RecordedAt as_seen l i (record_of fmt size bs vs i)

-- of all
abbrev pub Recorded : Format → ℕ → List ℕ → List ℕ → List code.Seen → Type 0
Recorded fmt s bs vs l = RecordedTo fmt (2 ^ s) bs vs (vectors s (length vs)) l
