-- `vector::put_meta` meets its contract. Assumes nothing.
use Prim.Native.Nat.{ℕ, ◌+◌}
use mathlib.Core.Path.{ap, ◌∙◌}
use lib.ListN.{set}
use Rattle.digits.specs.Digits.{le}
use Rattle.digits.specs.Lists.{put_at}
use Rattle.rules.specs.Coded.{format_of}
use Rattle.encode.proofs.Stored.{meta_stored}
use Rattle.encode.proofs.vector.put_meta.Goals as goal

pub returns : goal.returns
returns g c =
    let a = c.args in
    let m = g.V.Word.as_number a.frame in
    let wide = g.met.V.Value.as_wide in
    ap (λ (k : ℕ). set c.store-2.new.out (4 + k) a.width) (c.BYTES.ensures ∙ wide)
    ∙ meta_stored (format_of g.V.Value.KIND) a.out.now a.pair.exponent.0 a.pair.factor.0 a.listed m a.width c.requires _ _ c.store.ensures
    (c.store-2.ensures ∙ ap (λ (k : ℕ). put_at 4 (le k m) c.store.new.out) wide)
