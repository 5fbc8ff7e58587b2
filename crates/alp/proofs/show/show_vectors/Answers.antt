-- The layout of the vectors from v on has passed, so each stands in the page.
use Rattle.std.proofs.Common.{◌≡◌, ℕ, ◌+◌, ◌^◌, List, refl, ap, ◌∙◌, arith}
use lib.Ieee.{Format}
use Rattle.digits.proofs.Lists.{lent, lent_is}
use Rattle.rules.specs.Page.{vector_size, meta_at}
use Rattle.rules.proofs.Reading.{page_header, page_fine}
use Rattle.rules.specs.Coded.{format_of}
use Rattle.rules.specs.Kind.{meta_bytes}
use Rattle.rules.specs.declared.Kind.{Kind}
use Rattle.checks.proofs.Turns.{vectors_passed_start, vector-passed, vectors-passed, ends_inside}
use Rattle.alp.proofs.show.show_vectors.Goals as goal

pub s_of-requires : goal.s_of-requires
s_of-requires g c = (page_fine (format_of g.V.Value.KIND) c.args.page.now c.requires).0.eight

pub size_of-size-requires : goal.size_of-size-requires
size_of-size-requires g c = omega (arith, (page_fine (format_of g.V.Value.KIND) c.args.page.now c.requires).0.high, c.s_of.ensures)

pub vectors_in-many-requires : goal.vectors_in-many-requires
vectors_in-many-requires g c = page_header (format_of g.V.Value.KIND) c.args.page.now c.requires

pub count_of-left-requires : goal.count_of-left-requires
count_of-left-requires g c = (page_fine (format_of g.V.Value.KIND) c.args.page.now c.requires).0.eight

pub loop-v-init : goal.loop-v-init
loop-v-init g c =
    let fmt = format_of g.V.Value.KIND in
    let page = c.args.page.now in
    let many = c.vectors_in-many.ensures.0 in
    let size = c.size_of-size.ensures.0 ∙ ap (λ (x : ℕ). 2 ^ x) c.s_of.ensures in (
      omega (arith, (page_fine fmt page c.requires).0.offsets, many),
      vectors_passed_start fmt page c.size_of-size.result c.vectors_in-many.result c.count_of-left.result size many c.count_of-left.ensures.0 c.requires,
    )

pub meta_at-m-requires : goal.meta_at-m-requires
meta_at-m-requires g c =
    let l = c.loop-v in
    let part_at : List ℕ = lent (8 + l.at) c.args.page.now in
    omega (arith, (vector-passed (format_of g.V.Value.KIND) c.args.page.now part_at c.size_of-size.result c.vectors_in-many.result l.v-counter l.at l.left c.min-n.result _ c.loop-v-test.true (lent_is (8 + l.at) c.args.page.now) c.min-n.ensures refl l.invariant.1).room, ap (λ (k : Kind). meta_bytes (format_of k)) c.KIND.ensures)

pub overflow_add-at : goal.overflow_add-at
overflow_add-at g c =
    let l = c.loop-v in
    let fmt-at : Format = format_of g.V.Value.KIND in
    let page-at : List ℕ = c.args.page.now in
    let part_at : List ℕ = lent (8 + l.at) page-at in
    let size_is : c.vector_size-bytes.result ≡ vector_size fmt-at c.min-n.result (meta_at fmt-at part_at) =
    (rw c.KIND-in-loop-v.ensures at c.vector_size-bytes.ensures) ∙ ap (vector_size fmt-at c.min-n.result) (rw c.KIND.ensures at c.meta_at-m.ensures.meta_is)
    in
    let whole = (vector-passed fmt-at page-at part_at c.size_of-size.result c.vectors_in-many.result l.v-counter l.at l.left c.min-n.result _ c.loop-v-test.true (lent_is (8 + l.at) page-at) c.min-n.ensures refl l.invariant.1).whole in
    let inside = ends_inside page-at part_at l.at c.vector_size-bytes.result (lent_is (8 + l.at) page-at) l.invariant.0 (omega (arith, whole, size_is)) in
    omega (arith, inside)

pub loop-v-preserved : goal.loop-v-preserved
loop-v-preserved g c =
    let l = c.loop-v in
    let fmt-at : Format = format_of g.V.Value.KIND in
    let page-at : List ℕ = c.args.page.now in
    let part_at : List ℕ = lent (8 + l.at) page-at in
    let size_is : c.vector_size-bytes.result ≡ vector_size fmt-at c.min-n.result (meta_at fmt-at part_at) =
    (rw c.KIND-in-loop-v.ensures at c.vector_size-bytes.ensures) ∙ ap (vector_size fmt-at c.min-n.result) (rw c.KIND.ensures at c.meta_at-m.ensures.meta_is)
    in
    let whole = (vector-passed fmt-at page-at part_at c.size_of-size.result c.vectors_in-many.result l.v-counter l.at l.left c.min-n.result _ c.loop-v-test.true (lent_is (8 + l.at) page-at) c.min-n.ensures refl l.invariant.1).whole in (
      ends_inside page-at part_at l.at c.vector_size-bytes.result (lent_is (8 + l.at) page-at) l.invariant.0 (omega (arith, whole, size_is)),
      vectors-passed fmt-at page-at part_at c.size_of-size.result c.vectors_in-many.result l.v-counter l.at l.left c.min-n.result c.vector_size-bytes.result c.loop-v-test.true (lent_is (8 + l.at) page-at) c.min-n.ensures size_is l.invariant.1,
    )
