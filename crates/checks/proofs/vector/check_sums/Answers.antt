-- `vector::check_sums` meets its contract: the first field above the headroom decides. Assumes nothing.
use mathlib.Core.Path.{◌∙◌}
use native.Mathlib.Omega.{arith}
use Rattle.rules.specs.Coded.{format_of}
use Rattle.rules.proofs.Encoded.{small_word}
use Rattle.checks.specs.Forms.{as_meta}
use Rattle.checks.proofs.Bounds.{held-meta, packed-inside, packed-holds}
use Rattle.checks.proofs.Sums.{sum_leaves, sums_stay}
use Rattle.checks.proofs.vector.check_sums.Goals as goal

pub slice_bounds-first_above-end : goal.slice_bounds-first_above-end
slice_bounds-first_above-end c =
    let a = c.args in
    let m = c.meta_at-m in
    let shown = held-meta (format_of a.kind) a.n a.part.now m.result m.ensures c.requires.1 in
    packed-inside (format_of a.kind) a.n (as_meta m.result) a.part.now shown.whole c.meta_bytes-front.result c.packed_size.result c.meta_bytes-front.ensures.0 c.packed_size.ensures.0

pub first_above-i-requires : goal.first_above-i-requires
first_above-i-requires c =
    let a = c.args in
    let m = c.meta_at-m in
    let shown = held-meta (format_of a.kind) a.n a.part.now m.result m.ensures c.requires.1 in
    let holds = packed-holds (format_of a.kind) a.n (as_meta m.result) a.part.now shown.whole c.meta_bytes-front.result c.packed_size.result c.meta_bytes-front.ensures.0 c.packed_size.ensures.0 in
    (omega (arith, shown.narrow, small_word (format_of a.kind)), omega arith, holds)

pub returns-then-i-n : goal.returns-then-i-n
returns-then-i-n c =
    let a = c.args in
    let m = c.meta_at-m in
    let i = c.first_above-i in
    c.refuses.ensures
    ∙ sum_leaves (format_of a.kind) a.v a.n a.part.now (as_meta m.result) m.ensures.meta_is c.headroom-most.result c.headroom-most.ensures
    c.meta_bytes-front.result c.packed_size.result i.result c.meta_bytes-front.ensures.0 c.packed_size.ensures.0 i.ensures c.if-i-n.true

pub returns : goal.returns
returns c =
    let a = c.args in
    let m = c.meta_at-m in
    let i = c.first_above-i in
    sums_stay (format_of a.kind) a.v a.n a.part.now (as_meta m.result) m.ensures.meta_is c.headroom-most.result c.headroom-most.ensures
    c.meta_bytes-front.result c.packed_size.result i.result c.meta_bytes-front.ensures.0 c.packed_size.ensures.0 i.ensures c.if-i-n.false
