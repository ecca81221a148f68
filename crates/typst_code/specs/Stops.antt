-- Where sequences of code stop.
use Rattle.std.specs.Prelude.{Bool}
use Rattle.typst_kinds.specs.declared.kind.SyntaxKind.{SyntaxKind}
use Rattle.typst_language.specs.Depth.{is_end}
use Rattle.typst_code.specs.declared.stops.CodeStop.{CodeStop}
use Rattle.typst_code.specs.declared.stops.CodeStop.TheVariants as stop
use Rattle.typst_code.specs.Sequences.{ends_code}

-- At which tokens the sequences of code stop.
abbrev pub stops_at : CodeStop → SyntaxKind → Bool
stops_at stop.End = is_end
stops_at stop.Block = ends_code
