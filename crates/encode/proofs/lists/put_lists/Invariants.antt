-- `lists::put_lists` meets its contract: both lists are written as far as the loop has come. Assumes nothing.
use Rattle.rules.specs.Coded.{format_of, as_pair}
use Rattle.encode.proofs.Listed.{Listing, positions_from, patterns_from}
use Rattle.encode.proofs.lists.put_lists.Given as goal

abbrev pub invariant-loop-position : goal.invariant-loop-position
invariant-loop-position g l =
    Listing (positions_from (format_of g.V.Value.KIND) (as_pair l.scale.pair) (g.V.Word.as_numbers l.values)) l.position l.positions l.initial.positions l.at
    × Listing (patterns_from (format_of g.V.Value.KIND) (as_pair l.scale.pair) (g.V.Word.as_numbers l.values) g.V.Word.BYTES) l.position l.patterns l.initial.patterns l.to
