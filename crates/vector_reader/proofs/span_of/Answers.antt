-- `span_of` meets its contract: the two offsets, or the page's end behind the last vector. Assumes nothing.
use Rattle.rules.specs.Page.{vectors_of}
use mathlib.Core.Path.{◌≡◌, sym, ap, ◌∙◌}
use Prim.Native.Nat.{ℕ, suc, ◌+◌, ◌*◌, ◌<◌}
use native.Mathlib.Omega.{arith}
use lib.ListN.{take, drop}
use Rattle.digits.specs.Digits.{number}
use Rattle.rules.proofs.ReadingVector.{number-fine, span_from, span_to, span_last, span_is}
use Rattle.vector_reader.proofs.span_of.Goals as goal

pub vectors_in-many-requires : goal.vectors_in-many-requires
vectors_in-many-requires c = (number-fine c.args.number c.args.page.now c.requires).header

pub overflow_mul-number : goal.overflow_mul-number
overflow_mul-number c = let n = number-fine c.args.number c.args.page.now c.requires in omega (arith, n.there, c.vectors_in-many.ensures.0)

pub overflow_add-number : goal.overflow_add-number
overflow_add-number c = let n = number-fine c.args.number c.args.page.now c.requires in omega (arith, n.there, c.vectors_in-many.ensures.0)

pub read-from-requires : goal.read-from-requires
read-from-requires c = let n = number-fine c.args.number c.args.page.now c.requires in omega (arith, n.there, n.head.offsets)

pub overflow_add-number-2 : goal.overflow_add-number-2
overflow_add-number-2 c = let n = number-fine c.args.number c.args.page.now c.requires in omega (arith, n.there, c.vectors_in-many.ensures.0)

pub read-requires : goal.read-requires
read-requires c = let n = number-fine c.args.number c.args.page.now c.requires in omega (arith, c.if-number-many.true, c.vectors_in-many.ensures.0, n.head.offsets)

pub overflow_sub-to : goal.overflow_sub-to
overflow_sub-to c = let n = number-fine c.args.number c.args.page.now c.requires in omega (arith, n.head.eight)

pub returns-then-number-many : goal.returns-then-number-many
returns-then-number-many c =
    let v = c.args.number in
    let page = c.args.page.now in
    let n = number-fine v page c.requires in
    let behind : suc v < vectors_of page = omega (arith, c.if-number-many.true, c.vectors_in-many.ensures.0) in
    let e : 12 + 4 * v ≡ 8 + 4 * suc v = omega arith in
    (span_is v page _ (c.read-from.ensures ∙ sym (span_from v page n.there)) (c.read.ensures ∙ ap (λ (x : ℕ). number (take 4 (drop x page))) e ∙ sym (span_to v page behind)), omega arith)

pub returns-else-number-many : goal.returns-else-number-many
returns-else-number-many c =
    let v = c.args.number in
    let page = c.args.page.now in
    let n = number-fine v page c.requires in
    (span_is v page _ (c.read-from.ensures ∙ sym (span_from v page n.there)) (sym (span_last v page (omega (arith, c.if-number-many.false, c.vectors_in-many.ensures.0)))), omega arith)
