-- `vector::put_fields` meets its contract: the fields are packed as far as the loop has come. Assumes nothing.
use Rattle.digits.proofs.Fields.{Packing}
use Rattle.rules.specs.Coded.{format_of, as_pair}
use Rattle.encode.specs.Vectors.{fields_in}
use Rattle.encode.proofs.vector.put_fields.Given as goal

abbrev pub invariant-loop-value : goal.invariant-loop-value
invariant-loop-value g l = Packing l.width (fields_in (format_of g.V.Value.KIND) (as_pair l.scale.pair) (g.V.Word.as_numbers l.values)) l.value-index l.start l.out
