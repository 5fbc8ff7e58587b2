-- `page::put_header` meets its contract. Assumes nothing.
use mathlib.Core.Path.{◌∙◌}
use Rattle.writer.proofs.Pages.{header-stored}
use Rattle.writer.proofs.page.put_header.Goals as goal

pub returns : goal.returns
returns c = let a = c.args in c.store.ensures ∙ header-stored a.s a.n a.out.now c.requires
