-- `walk::Lists::needless` meets its contract. Assumes nothing.
use Rattle.std.proofs.Common.{ℕ, ◌+◌, ◌*◌, ◌≤◌, true, length, drop, get_or, pos, sym, ap, ◌∙◌, subst, arith}
use Rattle.std.specs.Prelude as std
use Rattle.digits.specs.Digits.{numbers}
use Rattle.rules.specs.Coded.{format_of, as_pair}
use Rattle.rules.specs.Examine.{needless}
use Rattle.inspect.specs.Seen.{mark_of, mark_at}
use Rattle.inspect.specs.Looked.{values_in}
use Rattle.inspect.proofs.Steps.{some_pair}
use Rattle.inspect.proofs.walk.Lists.needless.Goals as goal

pub needless-requires : goal.needless-requires
needless-requires g c =
    let k = c.args.self.now in
    let laid = k.laid some_pair 0 0 in
    (omega (arith, laid.few, laid.many), subst (λ (n : ℕ). k.listed * (2 + n) ≤ length k.bytes.now) (sym g.met.V.Value.as_wide) laid.room, λ e. c.requires c.in-Some.j c.in-Some.is)

pub returns-in-Some : goal.returns-in-Some
returns-in-Some g c =
    let k = c.args.self.now in
    let fmt = format_of g.V.Value.KIND in
    let q = as_pair c.args.scale.now.pair in
    c.needless.ensures (pos 0)
    ∙ ap (λ (n : ℕ). needless fmt q (pos 0) (mark_of true (get_or (numbers n k.listed (drop (k.listed * 2) k.bytes.now)) c.in-Some.j 0))) g.met.V.Value.as_wide
    ∙ ap (λ (o : std.Option ℕ). needless fmt q (pos 0) (mark_at (values_in k) o)) (sym c.in-Some.is)
