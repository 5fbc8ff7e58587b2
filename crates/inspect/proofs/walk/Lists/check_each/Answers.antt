-- `walk::Lists::check_each` meets its contract: what is found is found from position i on. Assumes nothing.
use Rattle.std.proofs.Common.{Bool, [], ap, ◌∙◌, arith}
use Rattle.rules.specs.Coded.{number_of}
use Rattle.inspect.specs.Seen.{behind}
use Rattle.inspect.specs.Looked.{of_lists}
use Rattle.inspect.proofs.Steps.{some_pair, next-below}
use Rattle.inspect.proofs.Scans.{seen_start, few-behind, walk-next, scan_start, scan_stops, scan_next, scan_end}
use Rattle.inspect.proofs.walk.Lists.check_each.Goals as goal

pub loop-i-init : goal.loop-i-init
loop-i-init g c =
    let k = c.args.self.now in
    (omega arith, λ p frame width packed. seen_start _ k.count _ packed k.bytes.now (k.laid p frame width), λ p frame width packed f finds. scan_start _ (of_lists k p frame width packed) (number_of c.args.row) c.args.number f)

pub at_fault-requires : goal.at_fault-requires
at_fault-requires g c =
    let k = c.args.self.now in
    let l = c.loop-i in
    c.requires l.i c.listed_at-index.result c.loop-i-test.true (next-below k.listed l.i l.j k.bytes.now c.listed_at-index.result c.listed_at-index.ensures)

pub returns-then-at_fault : goal.returns-then-at_fault
returns-then-at_fault g c p frame width packed f finds =
    let k = c.args.self.now in
    let r = of_lists k p frame width packed in
    let l = c.loop-i in
    let next = c.listed_at-index in
    c.refuses.ensures
    ∙ scan_stops _ r (number_of c.args.row) c.args.number f l.i (l.invariant.2 p frame width packed f finds) l.j (l.invariant.1 p frame width packed) c.loop-i-test.true next.result next.ensures c.at_fault.result
    (finds l.i next.result c.at_fault.result c.loop-i-test.true (next-below k.listed l.i l.j k.bytes.now next.result next.ensures) c.at_fault.ensures) c.if-at_fault.true

pub next_index-j-requires : goal.next_index-j-requires
next_index-j-requires g c = let k = c.args.self.now in let l = c.loop-i in few-behind _ k.count _ [] k.bytes.now (k.laid some_pair 0 0) l.i l.j (l.invariant.1 some_pair 0 0 [])

pub loop-i-preserved : goal.loop-i-preserved
loop-i-preserved g c =
    let k = c.args.self.now in
    let l = c.loop-i in
    let next = c.listed_at-index in (
      omega arith,
      λ p frame width packed.
          walk-next (of_lists k p frame width packed) l.i l.j (l.invariant.1 p frame width packed) c.loop-i-test.true next.result next.ensures c.next_index-j.result
          (c.next_index-j.ensures ∙ ap (λ (b : Bool). behind b l.j) c.is_some.ensures),
      λ p frame width packed f finds.
          scan_next _ (of_lists k p frame width packed) (number_of c.args.row) c.args.number f l.i (l.invariant.2 p frame width packed f finds) l.j (l.invariant.1 p frame width packed) c.loop-i-test.true next.result next.ensures c.at_fault.result
          (finds l.i next.result c.at_fault.result c.loop-i-test.true (next-below k.listed l.i l.j k.bytes.now next.result next.ensures) c.at_fault.ensures) c.if-at_fault.false,
    )

pub returns : goal.returns
returns g c p frame width packed f finds =
    let l = c.loop-i in
    scan_end _ (of_lists c.args.self.now p frame width packed) (number_of c.args.row) c.args.number f l.i (l.invariant.2 p frame width packed f finds) c.loop-i-test.false
