-- `walk::is_next` meets its contract: the list's number at index j is the two bytes read. Assumes nothing.
use Rattle.std.proofs.Common.{◌∙◌, le-ltb}
use Rattle.inspect.proofs.Steps.{next-is, none_next}
use Rattle.inspect.proofs.walk.is_next.Goals as goal

pub returns-then-j-listed : goal.returns-then-j-listed
returns-then-j-listed c = let a = c.args in next-is a.listed a.i a.j a.lists.now c.if-j-listed.true (c.from.ensures ∙ c.read.ensures)

pub returns-else-j-listed : goal.returns-else-j-listed
returns-else-j-listed c = let a = c.args in le-ltb a.j a.listed c.if-j-listed.false ∙ none_next a.listed a.i a.j a.lists.now c.if-j-listed.false
