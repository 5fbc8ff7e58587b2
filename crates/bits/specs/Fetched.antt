-- What is asked for the bits from the first bit of a field on, and what it gives. Assumes nothing.
use Rattle.std.specs.Prelude.{◌≡◌, ℕ, ◌*◌, ◌/◌, ◌%◌, ◌^◌, ◌<◌, List}
use Rattle.digits.specs.Digits.{number}

-- it may be asked at each of n fields of w bits
abbrev pub MayFetch : ℕ → ℕ → (ℕ → Type 0) → Type 0
MayFetch w n asked = (i : ℕ) → i < n → asked (w * i)

-- what it gives there holds the field
abbrev pub Fetches : ℕ → ℕ → List ℕ → (ℕ → ℕ → Type 0) → Type 0
Fetches w n bytes given = (i r : ℕ) → i < n → given (w * i) r → r % 2 ^ w ≡ number bytes / 2 ^ (w * i) % 2 ^ w
