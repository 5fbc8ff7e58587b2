-- `vector::check_meta` meets its contract: each return is the row that decides once those before it have passed. Assumes nothing.
use mathlib.Core.Path.{sym, ◌∙◌}
use native.Mathlib.Omega.{arith}
use Rattle.rules.specs.Coded.{format_of}
use Rattle.checks.proofs.Refusals.{check_fine, stops, no7_meta, from9, no11, no12, no7_data, meta_passes}
use Rattle.checks.proofs.vector.check_meta.Goals as goal

pub returns-then-part-front : goal.returns-then-part-front
returns-then-part-front c = let a = c.args in c.refuses.ensures ∙ no7_meta (format_of a.kind) a.v a.n a.part.now (omega arith)

pub returns-in_err-check_pair : goal.returns-in_err-check_pair
returns-in_err-check_pair c =
    let a = c.args in
    let m = c.meta_at-m in
    stops c.check_pair.result c.check_pair.ensures c.from_residual.result c.in_err-check_pair.field-0.0 _ c.in_err-check_pair.was c.from_residual.ensures.1
    ∙ sym (from9 (format_of a.kind) a.v a.n a.part.now m.result m.ensures.meta_is (omega arith))

pub returns-then-n-listed : goal.returns-then-n-listed
returns-then-n-listed c =
    let a = c.args in
    let m = c.meta_at-m in
    let p9 = check_fine c.check_pair.result c.check_pair.ensures c.in_ok-check_pair.was in
    c.refuses-then-n-listed.ensures ∙ no11 (format_of a.kind) a.v a.n a.part.now m.result m.ensures.meta_is (omega arith) p9 c.if-n-listed.true

pub returns-then-widest-width : goal.returns-then-widest-width
returns-then-widest-width c =
    let a = c.args in
    let m = c.meta_at-m in
    let p9 = check_fine c.check_pair.result c.check_pair.ensures c.in_ok-check_pair.was in
    c.refuses-then-widest-width.ensures ∙ no12 (format_of a.kind) a.v a.n a.part.now m.result m.ensures.meta_is (omega arith) p9 c.if-n-listed.false (omega arith)

pub returns-then-part-size : goal.returns-then-part-size
returns-then-part-size c =
    let a = c.args in
    let m = c.meta_at-m in
    let p9 = check_fine c.check_pair.result c.check_pair.ensures c.in_ok-check_pair.was in
    c.refuses-then-part-size.ensures ∙ no7_data (format_of a.kind) a.v a.n a.part.now m.result m.ensures.meta_is (omega arith) p9 c.if-n-listed.false (omega arith) (omega arith)

pub returns : goal.returns
returns c =
    let a = c.args in
    let m = c.meta_at-m in
    let p9 = check_fine c.check_pair.result c.check_pair.ensures c.in_ok-check_pair.was in
    meta_passes (format_of a.kind) a.v a.n a.part.now m.result m.ensures.meta_is (omega arith) p9 c.if-n-listed.false (omega arith) (omega arith)
