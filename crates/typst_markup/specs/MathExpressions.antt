-- Expressions of formulas.
use Rattle.std.specs.Prelude.{ℕ, Bool, true, false, ◌||◌, if◌then◌else◌, nat_le, List, [], ◌∷◌, Option, Some, None, option_map, codes}
use Rattle.std.specs.List.{list_all}
use Rattle.std.specs.Str.{chars}
use Rattle.typst_lines.specs.Classes.{CharClasses}
use Rattle.typst_lines.specs.declared.classes.MathClass.{MathClass}
use Rattle.typst_lines.specs.declared.classes.MathClass.TheVariants.{Alphabetic}
use Rattle.typst_kinds.specs.declared.kind.SyntaxKind.{SyntaxKind}
use Rattle.typst_kinds.specs.declared.kind.SyntaxKind.TheVariants as kind
use Rattle.typst_language.specs.declared.calls.ChainSet.{ChainSet}
use Rattle.typst_language.specs.Shape.{Shape, Seen, becomes}
use Rattle.typst_language.specs.Shape.NodeChange.{unparened}
use Rattle.typst_language.specs.Shape.Seen.{leaf_seen}
use Rattle.typst_language.specs.Shape.Shape.{holds}
use Rattle.typst_language.specs.Syntax.{Parser, ◌>>=◌, ◌>>◌}
use Rattle.typst_language.specs.Syntax.Parser.{gives}
use Rattle.typst_language.specs.Steps.{peek, eat, convert_and_eat, expected, node, grow}
use Rattle.typst_language.specs.Expected.{seeing}
use Rattle.typst_markup.specs.Embedded.{embedded}
use Rattle.typst_markup.specs.Equations.{no_signs}
use Rattle.typst_markup.specs.declared.math_heads.Callee.{Callee}
use Rattle.typst_markup.specs.declared.math_heads.Callee.TheVariants as callee
use Rattle.typst_markup.specs.declared.math_heads.MathHead.{MathHead}
use Rattle.typst_markup.specs.declared.math_heads.MathHead.TheVariants as head
use Rattle.typst_markup.specs.declared.math_heads.MathTail.{MathTail}
use Rattle.typst_markup.specs.declared.math_heads.MathTail.TheVariants as tail
use Rattle.typst_markup.specs.declared.math_heads.Grown.{Grown}
use Rattle.typst_markup.specs.declared.math_heads.Grown.TheVariants as grown
use Rattle.typst_markup.specs.MathArguments.{math_arguments}
use Rattle.typst_markup.specs.Attachments.{is_in, operand, attachments, primes}
use Rattle.typst_markup.specs.Delimited.{delimiter, delimited}

-- ---- what an expression begins with

-- what the current token begins
abbrev pub math_head : SyntaxKind → MathHead
math_head kind.Hash = head.Embedded
math_head kind.MathIdent = head.Name
math_head kind.MathFieldAccess = head.Name
math_head kind.LeftBrace = head.Delimited
math_head kind.LeftParen = head.Delimited
math_head kind.RightBrace = head.Closer
math_head kind.RightParen = head.Closer
math_head kind.Dot = head.Plain
math_head kind.Bang = head.Plain
math_head kind.Comma = head.Plain
math_head kind.Semicolon = head.Plain
math_head kind.MathText = head.Text
math_head kind.Linebreak = head.Itself
math_head kind.MathAlignPoint = head.Itself
math_head kind.MathShorthand = head.Itself
math_head kind.MathPrimes = head.Symbol
math_head kind.Escape = head.Symbol
math_head kind.Str = head.Symbol
math_head kind.Root = head.Root
math_head _ = head.Missing

-- the class of letters in math
abbrev pub is_alphabetic : Option MathClass → Bool
is_alphabetic (Some Alphabetic) = true
is_alphabetic _ = false

-- a text is a letter, also by its class in math, or several letters
abbrev pub are_letters : CharClasses → List ℕ → Bool
are_letters k (c ∷ []) = k.alphabetic c || is_alphabetic (k.math c)
are_letters k cs = list_all k.alphabetic cs

-- what a text is to a delimiter after it: letters may be called
abbrev pub text_callee : CharClasses → List Seen → Callee
text_callee k (leaf_seen kind text ∷ more) = if are_letters k (chars text) then callee.Symbol else callee.Other
text_callee k _ = callee.Other

-- a text; answers what it is to a delimiter after it
unfoldable pub math_text : CharClasses → Parser Callee
math_text k = do
  seen ← seeing eat
  gives (text_callee k seen.1)

-- a root sign and what the root is taken of
unfoldable pub root : Parser (Unit {0})
root = node (λ _. becomes kind.MathRoot) (eat >> operand 2 no_signs)

-- the production for what a token begins; answers what it is to a delimiter directly after it
abbrev pub math_by : CharClasses → MathHead → Parser Callee
math_by k head.Embedded = embedded >> gives callee.Other
math_by k head.Name = eat >> gives callee.Name
math_by k head.Delimited = delimited >> gives callee.Other
math_by k head.Closer = delimiter >> gives callee.Other
math_by k head.Plain = convert_and_eat kind.MathText >> gives callee.Other
math_by k head.Text = math_text k
math_by k head.Itself = eat >> gives callee.Other
math_by k head.Symbol = eat >> gives callee.Symbol
math_by k head.Root = root >> gives callee.Other
math_by k head.Missing = expected (codes "expression") >> gives callee.Other

-- what an expression begins with
unfoldable pub math_primary : CharClasses → Parser Callee
math_primary k = do
  ahead ← peek
  math_by k (math_head ahead.kind)

-- ---- what comes after it

-- what a paren directly after an expression begins: arguments after a name, a delimited part after
-- what else may be called
abbrev pub paren_tail : Callee → MathTail
paren_tail callee.Name = tail.Call
paren_tail callee.Symbol = tail.Delimited
paren_tail callee.Other = tail.Nothing

-- what another delimiter directly after an expression begins: a delimited part, if the expression
-- may be called
abbrev pub brace_tail : Callee → MathTail
brace_tail callee.Name = tail.Delimited
brace_tail callee.Symbol = tail.Delimited
brace_tail callee.Other = tail.Nothing

-- a tail that has to come directly after its expression
abbrev pub directly : Bool → MathTail → MathTail
directly has_trivia t = if has_trivia then tail.Nothing else t

-- what the current token makes of the expression before it
abbrev pub tail_at : Callee → SyntaxKind → Bool → MathTail
tail_at callee kind.Slash has_trivia = tail.Fraction
tail_at callee kind.Underscore has_trivia = tail.Attachments
tail_at callee kind.Hat has_trivia = tail.Attachments
tail_at callee kind.MathPrimes has_trivia = directly has_trivia tail.Primes
tail_at callee kind.Bang has_trivia = directly has_trivia tail.Factorial
tail_at callee kind.LeftParen has_trivia = directly has_trivia (paren_tail callee)
tail_at callee kind.LeftBrace has_trivia = directly has_trivia (brace_tail callee)
tail_at callee _ has_trivia = tail.Nothing

-- how tightly an operator or a call binds, by the tail that it begins
abbrev pub precedence : MathTail → ℕ
precedence tail.Fraction = 1
precedence tail.Attachments = 2
precedence tail.Primes = 2
precedence tail.Call = 2
precedence tail.Delimited = 2
precedence tail.Factorial = 3
precedence tail.Nothing = 0

-- a tail, if it binds at least so tightly
abbrev pub bound_tail : ℕ → MathTail → MathTail
bound_tail least t = if nat_le least (precedence t) then t else tail.Nothing

-- what the current token makes of the expression before it, which ends at some signs and whose
-- operators bind at least so tightly
abbrev pub math_tail : Callee → ℕ → ChainSet → SyntaxKind → Bool → MathTail
math_tail callee least stops k has_trivia =
    if is_in stops k then tail.Nothing else bound_tail least (tail_at callee k has_trivia)

-- a slash and what is below it
unfoldable pub fraction : Parser (Unit {0})
fraction = eat >> operand 2 no_signs

-- what an expression becomes with what is read after it; parens around what is above a slash aren't
-- delimiters
abbrev pub grown_shape : Grown → Shape
grown_shape grown.Call = becomes kind.MathCall
grown_shape grown.Math = becomes kind.Math
grown_shape grown.Fraction = holds unparened kind.MathFrac
grown_shape grown.Attach = becomes kind.MathAttach

-- the answer of a turn: the node that all goes into, which can't be called
abbrev pub growth : Option Grown → Option Shape × Callee
growth g = (option_map grown_shape g, callee.Other)

-- the production for what a token makes of the expression before it
abbrev pub tail_by : ChainSet → MathTail → Parser (Option Shape × Callee)
tail_by stops tail.Call = math_arguments >> gives (growth (Some grown.Call))
tail_by stops tail.Delimited = delimited >> gives (growth (Some grown.Math))
tail_by stops tail.Fraction = fraction >> gives (growth (Some grown.Fraction))
tail_by stops tail.Attachments = attachments >> gives (growth (Some grown.Attach))
tail_by stops tail.Primes = primes stops >> gives (growth (Some grown.Attach))
tail_by stops tail.Factorial = convert_and_eat kind.MathText >> gives (growth (Some grown.Math))
tail_by stops tail.Nothing = gives (growth None)

-- one turn: what the current token makes of the expression before it
unfoldable pub math_tail_turn : ℕ → ChainSet → Callee → Parser (Option Shape × Callee)
math_tail_turn least stops callee = do
  ahead ← peek
  tail_by stops (math_tail callee least stops ahead.kind ahead.has_trivia)

-- an expression, of operators that bind at least so tightly, up to one of some signs; answers what
-- its beginning is to a delimiter
unfoldable pub math_grown : CharClasses → ℕ → ChainSet → Parser Callee
math_grown k least stops = grow (math_primary k) (math_tail_turn least stops)

-- an expression, of operators that bind at least so tightly, up to one of some signs
unfoldable pub math_expr : CharClasses → ℕ → ChainSet → Parser (Unit {0})
math_expr k least stops = do
  callee ← math_grown k least stops
  gives tt
