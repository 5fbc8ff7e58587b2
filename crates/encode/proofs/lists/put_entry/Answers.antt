-- `lists::put_entry` meets its contract. Assumes nothing.
use Rattle.std.proofs.Common.{rules}
use mathlib.Core.Path.{sym, ap, ◌∙◌}
use Prim.Native.Nat.{ℕ, ◌+◌}
use native.Mathlib.Omega.{arith}
use Rattle.encode.proofs.Listed.{added_long, added, nothing-long, nothing}
use Rattle.encode.proofs.lists.put_entry.Goals as goal

pub store-requires : goal.store-requires
store-requires g c =
    let a = c.args in
    let n = added_long g.W.Word.BYTES a.at (g.W.Word.as_number a.word) a.out.now a.listed c.if-listed.true in
    omega (arith, n, c.requires)

pub returns-then-listed-clause-reach : goal.returns-then-listed-clause-reach
returns-then-listed-clause-reach g c =
    let a = c.args in
    ap (λ (x : ℕ). a.at + x) (c.BYTES.ensures ∙ sym (added_long g.W.Word.BYTES a.at (g.W.Word.as_number a.word) a.out.now a.listed c.if-listed.true))

pub returns-then-listed-clause-put : goal.returns-then-listed-clause-put
returns-then-listed-clause-put g c =
    let a = c.args in
    c.store.ensures ∙ added g.W.Word.BYTES a.at (g.W.Word.as_number a.word) a.out.now a.listed c.if-listed.true

pub returns-clause-reach : goal.returns-clause-reach
returns-clause-reach g c =
    let a = c.args in
    let n = nothing-long g.W.Word.BYTES a.at (g.W.Word.as_number a.word) a.out.now a.listed c.if-listed.false in
    omega (arith, n)

pub returns-clause-put : goal.returns-clause-put
returns-clause-put g c =
    let a = c.args in
    nothing g.W.Word.BYTES a.at (g.W.Word.as_number a.word) a.out.now a.listed c.if-listed.false

pub overflow_add-result : goal.overflow_add-result
overflow_add-result g c =
    let a = c.args in
    let n = added_long g.W.Word.BYTES a.at (g.W.Word.as_number a.word) a.out.now a.listed c.if-listed.true in
    let w = c.BYTES.ensures in
    search rules
