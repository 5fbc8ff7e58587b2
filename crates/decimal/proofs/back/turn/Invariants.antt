-- `back::turn` meets its contract: the fields before the index are turned, those from it on are as they came. Assumes nothing.
use Rattle.std.proofs.Common.{◌≡◌, ◌++◌, map, take, drop}
use Rattle.rules.specs.Coded.{format_of, as_pair}
use Rattle.decimal.specs.Turn.{turned}
use Rattle.decimal.proofs.back.turn.Given as goal

abbrev pub invariant-loop-place : goal.invariant-loop-place
invariant-loop-place g l =
    let number = g.V.Word.as_number in
    let t = turned (format_of g.V.Value.KIND) (as_pair l.scale.pair) (number l.frame) in
    map t (map number l.initial.out) ≡ map number (take l.place-index l.out) ++ map t (map number (drop l.place-index l.out))
