-- `walk::word_at` meets its contract. Assumes nothing.
use Rattle.inspect.proofs.Steps.{window_narrow, window_fits}
use Rattle.inspect.proofs.walk.word_at.Goals as goal

pub window-requires : goal.window-requires
window-requires g c = (window_narrow _ g.V.Word.BYTES g.met.V.Value.as_wide c.args.width c.requires.0, c.requires.1)

pub from_number-field-requires : goal.from_number-field-requires
from_number-field-requires g c = window_fits _ _ _ c.args.width c.requires.0 c.window.ensures
