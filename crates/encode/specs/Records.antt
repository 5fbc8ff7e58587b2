-- Records that were kept of a page's first vectors. Assumes nothing.
use Rattle.std.specs.Prelude.{ℕ, ◌<◌, ◌≡◌, List, length, get_or}
use Rattle.encode.specs.Seen.{Seen}

-- what stands at place i, if there is such a place, stands for the record x; f says what the code's struct stands for
abbrev pub RecordedAt : {A : Type 0} → (A → Seen) → List A → ℕ → Seen → Type 0
RecordedAt {A} f l i x = i < length l → (d : A) → f (get_or l i d) ≡ x
