-- What the fields of a vector become by the turn. Assumes nothing.
use Rattle.std.proofs.Common.{◌≡◌, ℕ, ◌+◌, ◌%◌, ◌^◌, ◌<◌, map, sym, ap, ◌∙◌, to_z}
use mathlib.Core.List.{map-map}
use lib.Ieee.{Format}
use Rattle.digits.specs.Lists.{Each}
use Rattle.rules.specs.Kind.{word, word_bits}
use Rattle.rules.specs.Decimal.{back}
use Rattle.rules.specs.Vector.{Raw, fields, wholes}
use Rattle.rules.proofs.Decoded.{words_summed}
use Rattle.rules.proofs.Tries.{Held}
use Rattle.decimal.specs.Turn.{turned}

-- the fields of a vector whose sums are held, turned: its whole numbers brought back
pub turned-fields : (fmt : Format) (r : Raw) → r.frame < 2 ^ word_bits fmt → Each (Held fmt) (wholes fmt r) → map (turned fmt r.pair r.frame) (fields r) ≡ map (back fmt r.pair) (wholes fmt r)
turned-fields fmt r framed held =
    sym (map-map (back fmt r.pair) (λ (d : ℕ). to_z (word fmt) ((r.frame + d) % 2 ^ word_bits fmt)) (fields r)) ∙ ap (map (back fmt r.pair)) (words_summed fmt r framed held)
