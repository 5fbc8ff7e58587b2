-- Where whole words can be read: each of some fields has so many bytes from its first byte on. Assumes nothing.
use Rattle.std.specs.Prelude.{ℕ, ◌+◌, ◌*◌, ◌/◌, ◌≤◌, ◌<◌}

-- n fields of w bits, one after the other, each with `reach` bytes from its first byte on among `size` bytes
abbrev pub Room : ℕ → ℕ → ℕ → ℕ → Type 0
Room reach w n size = (i : ℕ) → i < n → w * i / 8 + reach ≤ size
