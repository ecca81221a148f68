-- Where sequences of markup and of formulas stop.
use Rattle.std.specs.Prelude.{Bool}
use Rattle.typst_kinds.specs.declared.kind.SyntaxKind.{SyntaxKind}
use Rattle.typst_language.specs.Depth.{is_end}
use Rattle.typst_markup.specs.declared.stops.Stop.{Stop}
use Rattle.typst_markup.specs.declared.stops.Stop.TheVariants as stop
use Rattle.typst_markup.specs.declared.stops.MathStop.{MathStop}
use Rattle.typst_markup.specs.declared.stops.MathStop.TheVariants as math_stop
use Rattle.typst_markup.specs.Equations.{ends_equation, ends_delimited, ends_argument}
use Rattle.typst_markup.specs.Markup.{ends_block, ends_term, ends_heading, ends_strong, ends_emph}

-- At which tokens the sequences of markup stop.
abbrev pub stops_at : Stop → SyntaxKind → Bool
stops_at stop.End = is_end
stops_at stop.Block = ends_block
stops_at stop.Term = ends_term
stops_at stop.Heading = ends_heading
stops_at stop.Strong = ends_strong
stops_at stop.Emph = ends_emph

-- At which tokens the sequences of formulas stop.
abbrev pub math_stops_at : MathStop → SyntaxKind → Bool
math_stops_at math_stop.End = is_end
math_stops_at math_stop.Equation = ends_equation
math_stops_at math_stop.Delimited = ends_delimited
math_stops_at math_stop.Argument = ends_argument
