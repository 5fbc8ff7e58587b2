-- `vector::meta_at` meets its contract: each field is read where the layout has it. Assumes nothing.
use mathlib.Core.Path.{ap, ◌∙◌}
use Prim.Native.Nat.{ℕ, ◌+◌}
use native.Mathlib.Omega.{arith}
use lib.ListN.{get_or}
use Rattle.rules.specs.Page.{meta_at}
use Rattle.checks.proofs.vector.meta_at.Goals as goal

pub returns : goal.returns
unfolding meta_at
returns c =
    let a = c.args in
    let bs = a.part.now in
    let w = c.from-width.ensures ∙ ap (λ (x : ℕ). get_or bs (4 + x) 0) c.value_bytes-word.ensures.0 in
    let l = c.from-listed.ensures ∙ c.read.ensures in
    record {
      meta_is = λ i. record { pair = record { exponent = get_or bs 0 0; factor = get_or bs 1 0 }; listed = l i; frame = c.frame_at-frame.ensures.0 i; width = w i };
      listed = omega arith;
      frame = c.frame_at-frame.ensures.1;
      width = omega arith;
    }
