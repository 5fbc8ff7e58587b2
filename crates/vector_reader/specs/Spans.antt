-- The code's span as the rules'. Assumes nothing.
use Rattle.rules.specs.ReadVector as rule
use Rattle.vector_reader.specs.declared.Span.{Span}

abbrev pub as_span : Span → rule.Span
as_span l = record { from = l.from; to = l.to }
