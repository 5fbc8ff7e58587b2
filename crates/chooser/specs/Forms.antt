-- What the code hands on as the rules' answers. Assumes nothing.
use Rattle.std.specs.Prelude.{ℕ, Result, Ok, Err}
use Rattle.rules.specs.Coded.{as_pair}
use Rattle.rules.specs.declared.Choice.{Choice}
use Rattle.rules.specs.declared.Pair.{Pair}
use Rattle.checks.specs.declared.check.Refusal.{Refusal}
use Rattle.checks.specs.Forms.{answered}

-- done, with a count as place, and the pair; or the refusal, and the pair 0, 0
abbrev pub answered_with : ℕ → Result Pair Refusal → Choice
answered_with n (Ok p) = record { answer = answered (Ok n); exponent = (as_pair p).exponent; factor = (as_pair p).factor }
answered_with n (Err r) = record { answer = answered (Err r); exponent = 0; factor = 0 }
