-- What the writer's rows settle before anything is written. Assumes nothing.
use Rattle.std.specs.Prelude.{ℕ, ◌*◌, ◌≤◌, ◌≡◌, List, length}
use Rattle.std.specs.Float.{Format}
use Rattle.rules.specs.Page.{vectors}
use Rattle.rules.specs.Write.{pairs_of, Inside, page_size}

-- P holds of every column of n values: rows 5, 6, 16, 9 and 10 know the values by their count alone
abbrev pub EveryColumn : ℕ → (List ℕ → Type 0) → Type 0
EveryColumn n P = (vs : List ℕ) → length vs ≡ n → P vs

-- two bytes of pairs for each vector, and all settings inside the limits
pub record Settled (fmt : Format) (s : ℕ) (pairs vs : List ℕ) : Type 0 where
  pub two_each : length pairs ≡ 2 * vectors s (length vs)
  pub inside : Inside fmt s (pairs_of pairs) (length vs)

-- and an output that is no shorter than the page
pub record Ready (fmt : Format) (s : ℕ) (pairs vs out : List ℕ) : Type 0 where
  pub settled : Settled fmt s pairs vs
  pub room : page_size fmt s pairs vs ≤ length out
