-- The table of edges as two statements, each closed by computation: the written rules give what it says. Assumes nothing.
use Rattle.std.specs.Prelude.{◌≡◌, refl, true}
use Rattle.rules.specs.Recordings.{all_hold, all_rules}
use Rattle.rules.specs.Edges.{rising, edges, arithmetic, rounding, returns, shapes, refusals, ranges, ranks, sums, flaws, older, settings, alone, choosing}

pub edges_hold : all_hold edges ≡ true
unfolding all_rules rising edges arithmetic rounding returns shapes refusals ranges ranks sums flaws older settings alone
edges_hold = refl

pub choosing_holds : all_hold choosing ≡ true
unfolding all_rules choosing
choosing_holds = refl
