-- `head::vectors_in` meets its contract: rows 1 to 6 keep s and the count inside the limits. Assumes nothing.
use mathlib.Core.Path.{◌≡◌, ap, ap₂, ◌∙◌}
use Prim.Native.Nat.{ℕ, ◌+◌, ◌-◌, ◌/◌, ◌^◌}
use native.Mathlib.Omega.{arith}
use Rattle.rules.specs.Page.{s_of}
use Rattle.rules.proofs.Reading.{header-fine}
use Rattle.checks.proofs.head.vectors_in.Goals as goal

pub s_of-s-requires : goal.s_of-s-requires
s_of-s-requires c = (header-fine c.args.page.now c.requires).eight

pub count_of-n-requires : goal.count_of-n-requires
count_of-n-requires c = (header-fine c.args.page.now c.requires).eight

pub size_of-size-requires : goal.size_of-size-requires
size_of-size-requires c = let h = header-fine c.args.page.now c.requires in omega (arith, h.high, c.s_of-s.ensures)

pub vectors_of-requires : goal.vectors_of-requires
vectors_of-requires c = let h = header-fine c.args.page.now c.requires in (omega (arith, h.many), omega arith, omega arith)

pub returns : goal.returns
returns c =
    let h = header-fine c.args.page.now c.requires in
    let size : c.size_of-size.result ≡ 2 ^ s_of c.args.page.now = c.size_of-size.ensures.0 ∙ ap (λ (x : ℕ). 2 ^ x) c.s_of-s.ensures in
    (c.vectors_of.ensures.0 ∙ ap₂ (λ (n x : ℕ). (n + (x - 1)) / x) c.count_of-n.ensures.0 size, omega (arith, h.many))
