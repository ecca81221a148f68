-- What the grammar adds to the language. No law of the language looks at a single case of these.
use Rattle.std.specs.Prelude.{ℕ, Bool, List}
use Rattle.typst_lines.specs.Classes.{CharClasses}
use Rattle.typst_tokens.specs.Reader.{Reader}
use Rattle.typst_tokens.specs.declared.token.Token.{Token}
use Rattle.typst_tokens.specs.Memory.{Memory}
use Rattle.typst_lexer.specs.Tokens.{token}
use Rattle.typst_lexer.specs.ArgumentTokens.{named_argument, spread_argument}
use Rattle.typst_language.specs.declared.calls.ChainSet.{ChainSet}
use Rattle.typst_language.specs.declared.calls.Role.{Role}
use Rattle.typst_language.specs.declared.calls.Way.{Way}
use Rattle.typst_language.specs.declared.calls.Way.TheVariants.{InMode, NamedArgument, SpreadArgument}

-- what is read one level deeper
pub data Call : Type 0 where
  -- an expression of markup, whether at the start of a line, and in how many brackets
  MarkupExpr : Bool → ℕ → Call
  -- an expression of code, whether atomic, and how tightly its operators bind at least
  CodeExpr : Bool → ℕ → Call
  -- an expression of a formula, how tightly its operators bind at least, and at which signs of attachments it ends
  MathExpr : ℕ → ChainSet → Call
  -- a pattern, what its names are, and which names were seen before it
  Pattern : Role → List (List ℕ) → Call

-- what a call answers: of an expression of markup in how many brackets what comes after it is, of one of code
-- or of a formula nothing, of a pattern which names were seen
abbrev pub Answer : Call → Type 0
Answer (MarkupExpr at_start nesting) = ℕ
Answer (CodeExpr atomic least) = Unit {0}
Answer (MathExpr least chain) = Unit {0}
Answer (Pattern role names) = List (List ℕ)

-- the answer where no call is made
abbrev pub no_answer : (call : Call) → Answer call
no_answer (MarkupExpr at_start nesting) = 0
no_answer (CodeExpr atomic least) = tt
no_answer (MathExpr least chain) = tt
no_answer (Pattern role names) = names

-- the token that another way of reading finds at a place
abbrev pub token_so : CharClasses → Way → Reader Memory Token
token_so k (InMode mode) = token k mode
token_so k NamedArgument = named_argument k
token_so k SpreadArgument = spread_argument
