-- The starred recordings as one statement, closed by computation: the written rules give what the table says. Assumes nothing.
use Rattle.std.specs.Prelude.{◌≡◌, refl, true}
use Rattle.rules.specs.Recordings.{all_hold, all_rules, starred}

pub starred_hold : all_hold starred ≡ true
unfolding all_rules starred
starred_hold = refl
