-- Row 31, and what the call gives behind it. Assumes nothing.
use mathlib.Core.Path.{◌≡◌, ap₂, ◌∙◌}
use mathlib.Core.List.{List}
use Prim.Native.Nat.{ℕ, ◌^◌, ◌≤◌, ◌<◌}
use lib.ListN.{length}
use lib.Ieee.{Format}
use borrow.Author.Tests.{lt-ltb, le-ltb}
use Rattle.rules.specs.Kind.{max_s}
use Rattle.rules.specs.Decimal.{Pair}
use Rattle.rules.specs.Verdict.{fine, refuse, the_page}
use Rattle.rules.specs.Choose.{first_pair, chosen, choose_rows, choice, choose_of}
use Rattle.rules.specs.Calls.{Chosen}
use Rattle.rules.specs.declared.Choice.{Choice}

module _ (fmt : Format) (vs : List ℕ) (r : Choice) where
  pub no_values : length vs < 1 → r ≡ choice (refuse 31 the_page) 0 first_pair → Chosen fmt vs r
  unfolding choose_of choose_rows
  no_values h e = record { choice_is = rw (lt-ltb (length vs) 1 h) e }

  module _ (some : 1 ≤ length vs) where
    pub too_many : 2 ^ max_s < length vs → r ≡ choice (refuse 31 the_page) 0 first_pair → Chosen fmt vs r
    unfolding choose_of choose_rows
    too_many h e = record { choice_is = rw (le-ltb (length vs) 1 some, lt-ltb (2 ^ max_s) (length vs) h) e }

    pub pair_found : length vs ≤ 2 ^ max_s → (p : Pair) → p ≡ chosen fmt vs → (n : ℕ) → n ≡ length vs → r ≡ choice fine n p → Chosen fmt vs r
    unfolding choose_of choose_rows
    pair_found h p ep n en e = record { choice_is = rw (le-ltb (length vs) 1 some, le-ltb (2 ^ max_s) (length vs) h) (e ∙ ap₂ (choice fine) en ep) }
