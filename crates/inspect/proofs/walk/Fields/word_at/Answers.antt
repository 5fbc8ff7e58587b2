-- `walk::Fields::word_at` meets its contract: row 17 keeps the sum in the signed range. Assumes nothing.
use Rattle.std.proofs.Common.{ℕ, ◌+◌, ◌%◌, ◌^◌, ap, ◌∙◌, refl, sym, subst, arith, ◌≤◌}
use Rattle.rules.specs.Kind.{word_bits}
use Rattle.rules.specs.Coded.{format_of}
use Rattle.inspect.proofs.Steps.{some_pair, bits_of_bytes, field-is, whole-is}
use Rattle.inspect.proofs.Scans.{fields-room, bits_fit}
use Rattle.inspect.proofs.walk.Fields.word_at.Goals as goal

pub overflow_mul-self : goal.overflow_mul-self
overflow_mul-self g c = let k = c.args.self.now in omega (arith, bits_fit _ k.count _ k.packed.now (k.laid some_pair 0) c.args.i _ refl c.requires)

pub word_at-requires : goal.word_at-requires
word_at-requires g c =
    let k = c.args.self.now in
    let room = fields-room _ k.count _ k.packed.now (k.laid some_pair 0) c.args.i _ refl c.requires in
    (subst (λ (n : ℕ). k.width ≤ n) (sym (bits_of_bytes _ g.V.Word.BYTES g.met.V.Value.as_wide)) room.0, room.1)

pub returns : goal.returns
returns g c p listed lists =
    let k = c.args.self.now in
    whole-is _ k.count _ k.packed.now (k.laid p listed) lists c.args.i c.requires (g.V.Word.as_number c.word_at.result)
    (c.word_at.ensures ∙ ap (λ (d : ℕ). (g.V.Word.as_number k.frame + d) % 2 ^ word_bits (format_of g.V.Value.KIND)) (field-is _ k.count _ k.packed.now (k.laid p listed) lists c.args.i c.requires))
