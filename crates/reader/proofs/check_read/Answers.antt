-- `check_read` meets its contract: rows 1 to 14 and 17, then 15. Assumes nothing.
use Rattle.rules.specs.Coded.{format_of}
use Rattle.reader.proofs.Answers.{in_order}
use Rattle.reader.proofs.check_read.Goals as goal

pub returns : goal.returns
returns c = in_order (format_of c.args.kind) c.args.room c.args.page.now c.check_page.result c.check_room.result c.and.result c.check_page.ensures c.check_room.ensures c.and.ensures
