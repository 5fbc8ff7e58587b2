-- A float's exponent field. Assumes nothing.
use Rattle.std.specs.Prelude.{ℕ, ◌+◌}
use lib.Ieee.{Format, emax}
use mir.Val.{hbits}
use Rattle.rules.specs.Kind.{word}

-- the exponent's field from which on a value is beyond L: 158, 1086
abbrev pub cap : Format → ℕ
cap fmt = emax fmt + hbits (word fmt)
