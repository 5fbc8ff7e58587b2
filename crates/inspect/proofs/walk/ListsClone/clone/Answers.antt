-- `walk::ListsClone::clone` meets its contract: a fact of which there is one at most is the same. Assumes nothing.
use Rattle.std.proofs.Common.{◌≡◌}
use Rattle.rules.specs.Coded.{format_of}
use Rattle.bits.specs.declared.word.Word as word
use Rattle.decimal.specs.declared.value.Value as value
use Rattle.inspect.specs.Seen.{ListsFit, lists-fit-once}
use Rattle.inspect.specs.declared.walk.Lists.{Lists}
use Rattle.inspect.proofs.walk.ListsClone.clone.Goals as goal

same : {A F : Type 0} {v : value.Ghosts A F} {w : word.Ghosts A} (k : Lists A F v w) (laid : ListsFit (format_of v.KIND) k.count k.listed k.bytes.now)
    → ◌≡◌ {A = Lists A F v w} record { count = k.count; listed = k.listed; bytes = k.bytes; kind = k.kind; laid = laid } k
same {v = v} k laid i = record {
  count = k.count;
  listed = k.listed;
  bytes = k.bytes;
  kind = k.kind;
  laid = lists-fit-once (format_of v.KIND) k.count k.listed k.bytes.now laid k.laid i;
}

pub returns : goal.returns
returns g c = record { cases = same c.args.self.now _ }
