-- The code's kinds, pairs and rows as the rules'. Assumes nothing.
use Rattle.std.specs.Prelude.{ℕ}
use Rattle.std.specs.Float.{Format, binary32, binary64}
use Rattle.rules.specs.Decimal as rule
use Rattle.rules.specs.declared.Kind.{Kind}
use Rattle.rules.specs.declared.Kind.TheVariants.{Single, Double}
use Rattle.rules.specs.declared.Pair.{Pair}
use Rattle.rules.specs.declared.Row.{Row}
use Rattle.rules.specs.declared.Row.TheVariants as row

abbrev pub format_of : Kind → Format
format_of Single = binary32
format_of Double = binary64

abbrev pub as_pair : Pair → rule.Pair
as_pair p = record { exponent = p.exponent.0; factor = p.factor.0 }

-- a row's number in document 01's table
abbrev pub number_of : Row → ℕ
number_of row.FewBytes = 1
number_of row.Version = 2
number_of row.Mode = 3
number_of row.IntegerEncoding = 4
number_of row.VectorSize = 5
number_of row.TooManyValues = 6
number_of row.PastEnd = 7
number_of row.Offset = 8
number_of row.Exponent = 9
number_of row.Factor = 10
number_of row.TooManyExceptions = 11
number_of row.Width = 12
number_of row.Position = 13
number_of row.BytesAfter = 14
number_of row.OutputTooShort = 15
number_of row.Pairs = 16
number_of row.SumOutOfRange = 17
number_of row.UnusedBit = 20
number_of row.Unlisted = 21
number_of row.Listed = 22
number_of row.StandIn = 23
number_of row.FrameOrWidth = 24
number_of row.NoSuchVector = 30
number_of row.NotOneVector = 31
