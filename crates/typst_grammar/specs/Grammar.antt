-- The whole grammar: what is read one level deeper, and the tree of a text.
use Rattle.std.specs.Prelude.{ℕ, Bool, true, List, []}
use Rattle.typst_kinds.specs.declared.kind.SyntaxKind.TheVariants as kind
use Rattle.typst_kinds.specs.declared.mode.SyntaxMode.{SyntaxMode}
use Rattle.typst_kinds.specs.declared.mode.SyntaxMode.TheVariants as mode
use Rattle.typst_lines.specs.Place.{Place}
use Rattle.typst_tree.specs.Tree.{Tree, forest, inner_of}
use Rattle.typst_lines.specs.Classes.{CharClasses}
use Rattle.typst_language.specs.declared.calls.Block.{Block}
use Rattle.typst_language.specs.declared.calls.Block.TheVariants as block
use Rattle.typst_language.specs.Calls.Call.{MarkupExpr, CodeExpr, MathExpr, Pattern}
use Rattle.typst_language.specs.Calls.{Call, Answer}
use Rattle.typst_language.specs.Syntax.{Parser, ◌>>◌}
use Rattle.typst_language.specs.Steps.{peek, flush_trivia}
use Rattle.typst_language.specs.Depth.{is_end}
use Rattle.typst_language.specs.Log.{Log, no_log, logged}
use Rattle.typst_language.specs.Meaning.{Outcome, Meaning, Level, start_point, run}
use Rattle.typst_language.specs.Knot.{Rules, meaning_of, level_of}
use Rattle.typst_code.specs.Markup.{content_block, markup_expr, markup_run, markup_reading}
use Rattle.typst_code.specs.Patterns.{pattern}
use Rattle.typst_code.specs.Sequences.{code_block, code_exprs, code_reading}
use Rattle.typst_code.specs.Expressions.{code_expr}
use Rattle.typst_code.specs.Equations.{math_exprs, math_reading}
use Rattle.typst_code.specs.MathExpressions.{math_expr}

-- what a call reads
abbrev pub production : CharClasses → (call : Call) → Parser (Answer call)
production k (MarkupExpr at_start nesting) = markup_expr at_start nesting
production k (CodeExpr atomic least) = code_expr atomic least
production k (MathExpr least stops) = math_expr k least stops
production k (Pattern role names) = pattern role names

-- each block may be read
abbrev pub has : Block → Bool
has b = true

-- what a block reads, from the current token on
abbrev pub block_production : Block → Parser (Unit {0})
block_production block.Content = content_block
block_production block.Code = code_block

-- the rules of the whole grammar
abbrev pub rules : CharClasses → Rules
rules k = record { production = production k; has = has; block_production = block_production }

-- what a call gives where a given number of levels are left
abbrev pub meaning : CharClasses → ℕ → (call : Call) → Meaning (Answer call)
meaning k levels call = meaning_of (rules k) k levels call

-- where a parser runs with a given number of levels left
abbrev pub level_at : CharClasses → ℕ → Level
level_at k levels = level_of (rules k) k levels

-- how deep calls may nest
abbrev pub max_depth : ℕ
max_depth = 256

-- the place at the start of a text
abbrev pub start_of : List ℕ → Place
start_of text = record { before = []; ahead = text }

-- the run of a whole text, with all trivia
unfoldable pub whole : Parser (Unit {0})
whole = markup_run is_end >> flush_trivia

-- what is read of the characters of a text, where a given number of levels are left
abbrev pub parsed : CharClasses → ℕ → List ℕ → Outcome (Unit {0})
parsed k levels text = run (level_at k levels) whole (start_of text) (start_point markup_reading)

-- what is looked at and noted in reading the characters of a text
unfoldable pub log : CharClasses → List ℕ → Log
log k text = logged max_depth (start_of text) no_log (parsed k max_depth text).asks

-- the tree of the characters of a text
unfoldable pub tree : CharClasses → List ℕ → Tree
tree k text = inner_of kind.Markup (forest (parsed k max_depth text).nodes)

-- the statements of a whole text of code, with all trivia
unfoldable pub whole_code : Parser (Unit {0})
whole_code = peek >> code_exprs is_end >> flush_trivia

-- what is read of the characters of a text of code, where a given number of levels are left
abbrev pub parsed_code : CharClasses → ℕ → List ℕ → Outcome (Unit {0})
parsed_code k levels text = run (level_at k levels) whole_code (start_of text) (start_point code_reading)

-- the tree of the characters of a text of code
unfoldable pub tree_code : CharClasses → List ℕ → Tree
tree_code k text = inner_of kind.Code (forest (parsed_code k max_depth text).nodes)

-- the expressions of the whole text of a formula, with all trivia
unfoldable pub whole_math : Parser (Unit {0})
whole_math = peek >> math_exprs is_end >> flush_trivia

-- what is read of the characters of the text of a formula, where a given number of levels are left
abbrev pub parsed_math : CharClasses → ℕ → List ℕ → Outcome (Unit {0})
parsed_math k levels text = run (level_at k levels) whole_math (start_of text) (start_point math_reading)

-- the tree of the characters of the text of a formula
unfoldable pub tree_math : CharClasses → List ℕ → Tree
tree_math k text = inner_of kind.Math (forest (parsed_math k max_depth text).nodes)

-- a whole text in a mode, with all trivia
abbrev pub whole_in : SyntaxMode → Parser (Unit {0})
whole_in mode.Markup = whole
whole_in mode.Code = whole_code
whole_in mode.Math = whole_math

-- what is read of the characters of a text in a mode, where a given number of levels are left
abbrev pub parsed_in : SyntaxMode → CharClasses → ℕ → List ℕ → Outcome (Unit {0})
parsed_in mode.Markup = parsed
parsed_in mode.Code = parsed_code
parsed_in mode.Math = parsed_math
