-- What it takes to read one vector: that its rows have passed, and that the code holds its metadata. Assumes nothing.
use Rattle.std.specs.Prelude.{ℕ, ◌^◌, ◌≤◌, List}
use Rattle.std.specs.Float.{Format}
use Rattle.rules.specs.Kind.{max_s}
use Rattle.rules.specs.Vector.{decoded}
use Rattle.rules.specs.Page.{meta_at}
use Rattle.rules.proofs.Reading.{Passed}
use Rattle.checks.specs.Forms.{FoundMeta, raw_at}
use Rattle.checks.specs.declared.vector.Meta.{Meta}

-- a vector of n values stands at the front of bs, and m is its metadata
pub record Readable (fmt : Format) (n : ℕ) (bs : List ℕ) (m : Meta) : Type 0 where
  pub few : n ≤ 2 ^ max_s
  pub found : FoundMeta fmt bs m
  pub passed : Passed fmt n (meta_at fmt bs) bs

-- its values, by the reading rule
abbrev pub values_at : Format → ℕ → List ℕ → List ℕ
values_at fmt n bs = decoded fmt (raw_at fmt n bs)
