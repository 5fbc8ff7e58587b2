-- `walk::FieldsClone::clone` meets its contract: a fact of which there is one at most is the same. Assumes nothing.
use Rattle.std.proofs.Common.{◌≡◌}
use Rattle.rules.specs.Coded.{format_of}
use Rattle.bits.specs.declared.word.Word as word
use Rattle.decimal.specs.declared.value.Value as value
use Rattle.inspect.specs.Seen.{FieldsFit, fields-fit-once}
use Rattle.inspect.specs.declared.walk.Fields.{Fields}
use Rattle.inspect.proofs.walk.FieldsClone.clone.Goals as goal

same : {A F : Type 0} {v : value.Ghosts A F} {w : word.Ghosts A} (k : Fields A F v w) (laid : FieldsFit (format_of v.KIND) k.count (w.as_number k.frame) k.width k.packed.now)
    → ◌≡◌ {A = Fields A F v w} record { count = k.count; width = k.width; frame = k.frame; packed = k.packed; laid = laid } k
same {v = v} {w = w} k laid i = record {
  count = k.count;
  width = k.width;
  frame = k.frame;
  packed = k.packed;
  laid = fields-fit-once (format_of v.KIND) k.count (w.as_number k.frame) k.width k.packed.now laid k.laid i;
}

pub returns : goal.returns
returns g c = record { cases = same c.args.self.now _ }
