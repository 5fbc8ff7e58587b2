-- `walk::Fields::field_at` meets its contract. Assumes nothing.
use Rattle.std.proofs.Common.{◌∙◌, refl, arith}
use Rattle.rules.specs.Coded.{format_of}
use Rattle.rules.proofs.Encoded.{small_word}
use Rattle.inspect.proofs.Steps.{some_pair, field-is}
use Rattle.inspect.proofs.Scans.{fields-room, bits_fit}
use Rattle.inspect.proofs.walk.Fields.field_at.Goals as goal

pub overflow_mul-self : goal.overflow_mul-self
overflow_mul-self g c = let k = c.args.self.now in omega (arith, bits_fit _ k.count _ k.packed.now (k.laid some_pair 0) c.args.i _ refl c.requires)

pub window-requires : goal.window-requires
window-requires g c =
    let k = c.args.self.now in
    let room = fields-room _ k.count _ k.packed.now (k.laid some_pair 0) c.args.i _ refl c.requires in
    (omega (arith, room.0, small_word (format_of g.V.Value.KIND)), room.1)

pub returns : goal.returns
returns g c p listed lists = let k = c.args.self.now in c.window.ensures ∙ field-is _ k.count _ k.packed.now (k.laid p listed) lists c.args.i c.requires
