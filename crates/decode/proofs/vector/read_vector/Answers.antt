-- `vector::read_vector` meets its contract: what each step leaves is handed to `values-are`. Assumes nothing.
use mathlib.Core.Path.{◌≡◌, ap}
use lib.ListN.{length}
use borrow.Author.Rules.{rules}
use Rattle.rules.specs.Coded.{format_of, as_pair}
use Rattle.rules.specs.Kind.{meta_bytes}
use Rattle.decode.proofs.Laws.{listed-inside, places-below, values-are}
use Rattle.decode.proofs.vector.read_vector.Goals as goal

pub put_listed-requires : goal.put_listed-requires
put_listed-requires g c =
    let a = c.args in
    let fmt = format_of g.V.Value.KIND in
    let start = c.meta_bytes-front in
    let size = c.packed_size in
    let es : start.result ≡ meta_bytes fmt = rw c.KIND.ensures at start.ensures.0 in
    let len : length c.turn.new.out ≡ length a.out.now = search rules in (
      listed-inside fmt (length a.out.now) a.part.now a.m c.requires start.result size.result g.V.Word.BYTES es size.ensures.0 g.met.V.Value.as_wide,
      places-below fmt (length a.out.now) a.part.now a.m c.requires start.result size.result g.V.Word.BYTES es size.ensures.0 g.met.V.Value.as_wide (length c.turn.new.out) len,
    )

pub returns : goal.returns
returns g c =
    let a = c.args in
    let fmt = format_of g.V.Value.KIND in
    let start = c.meta_bytes-front in
    let size = c.packed_size in
    let es : start.result ≡ meta_bytes fmt = rw c.KIND.ensures at start.ensures.0 in
    values-are fmt (length a.out.now) a.part.now a.m c.requires start.result size.result g.V.Word.BYTES es size.ensures.0 g.met.V.Value.as_wide
    (as_pair c.scale_of.result.pair) _ _ _ _ (ap as_pair c.scale_of.ensures) c.from_number.ensures c.unpack.ensures c.turn.ensures c.put_listed.ensures
