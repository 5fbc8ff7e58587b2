-- `refusals::check_settings` meets its contract. Assumes nothing.
use mathlib.Core.Path.{◌≡◌, sym, ap, ◌∙◌}
use mathlib.Core.List.{List}
use Prim.Native.Nat.{ℕ, ◌*◌}
use native.Mathlib.Omega.{arith}
use lib.ListN.{length}
use Rattle.rules.specs.Page.{vectors}
use Rattle.rules.specs.Coded.{format_of}
use Rattle.writer.proofs.Rows.{no5_low, no5_high, no6, no16, from9, count-is}
use Rattle.writer.proofs.refusals.check_settings.Goals as goal
use Rattle.writer.proofs.refusals.check_settings.Goals.{After-vectors_of-count, then-power-lt-MIN_S-via-then-power-lt-MIN_S, then-power-lt-MIN_S-via-else-power-lt-MIN_S+then-power-gt-MAX_S}

pub returns-then-power-lt-MIN_S : goal.returns-then-power-lt-MIN_S
returns-then-power-lt-MIN_S c = λ vs e.
    let a = c.args in
    c.refuses.ensures
    ∙ elim c.then-power-lt-MIN_S.branch [
      | then-power-lt-MIN_S-via-then-power-lt-MIN_S w ↦ no5_low (format_of a.kind) a.s a.pairs.now vs (omega arith)
      | then-power-lt-MIN_S-via-else-power-lt-MIN_S+then-power-gt-MAX_S w ↦ no5_high (format_of a.kind) a.s a.pairs.now vs (omega arith) (omega arith)
    ]

pub returns-then-n-gt-MAX_VALUES : goal.returns-then-n-gt-MAX_VALUES
returns-then-n-gt-MAX_VALUES c = λ vs e. let a = c.args in c.refuses-then-n-gt-MAX_VALUES.ensures ∙ no6 (format_of a.kind) a.s a.pairs.now vs (omega arith) (omega arith) (omega arith)

-- twice the count of vectors, of any column of n values
twice : (c : After-vectors_of-count) (vs : List ℕ) → length vs ≡ c.args.n → 2 * c.vectors_of-count.result ≡ 2 * vectors c.args.s (length vs)
twice c vs e =
    ap (λ (k : ℕ). 2 * k) (count-is c.args.s (length vs) c.args.n c.from-power.result c.size_of.result c.vectors_of-count.result e (omega arith) c.size_of.ensures.0 c.vectors_of-count.ensures.0)

pub returns-then-pairs-count : goal.returns-then-pairs-count
returns-then-pairs-count c = λ vs e.
    let a = c.args in
    let many = twice (goal.at.returns-then-pairs-count c).After-vectors_of-count vs e in
    c.refuses-then-pairs-count.ensures ∙ no16 (format_of a.kind) a.s a.pairs.now vs (omega arith) (omega arith) (omega arith) (λ q. c.if-pairs-count.true (q ∙ sym many))

pub returns : goal.returns
returns c = λ vs e.
    let a = c.args in
    let many = twice (goal.at.returns c).After-vectors_of-count vs e in
    c.check_pairs.ensures ∙ from9 (format_of a.kind) a.s a.pairs.now vs (omega arith) (omega arith) (omega arith) (c.if-pairs-count.false ∙ many)
