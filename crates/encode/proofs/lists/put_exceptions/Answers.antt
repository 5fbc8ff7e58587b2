-- `lists::put_exceptions` meets its contract. Assumes nothing.
use Rattle.rules.specs.Coded.{format_of}
use Rattle.encode.proofs.Listed.{lists-none, first-room, second_room}
use Rattle.encode.proofs.lists.put_exceptions.Goals as goal

pub returns-then-listed-eq0 : goal.returns-then-listed-eq0
returns-then-listed-eq0 g c =
    let P = c.requires in
    lists-none (format_of g.V.Value.KIND) _ _ g.V.Word.BYTES c.args.listed c.args.out.now P.counted P.room c.if-listed-eq0.true

pub put_lists-requires-clause-room : goal.put_lists-requires-clause-room
put_lists-requires-clause-room g c =
    let P = c.requires in
    first-room (format_of g.V.Value.KIND) _ _ g.V.Word.BYTES c.args.listed c.args.out.now P.counted P.room _ c.split_at_mut-positions.ensures.front_len

pub put_lists-requires-clause-patterns_room : goal.put_lists-requires-clause-patterns_room
put_lists-requires-clause-patterns_room g c =
    let P = c.requires in
    second_room (format_of g.V.Value.KIND) _ _ g.V.Word.BYTES c.args.listed c.args.out.now P.counted P.room _ c.split_at_mut-positions.ensures.back_len
