-- Operands, and what is attached by `^`, `_` and primes.
use Rattle.std.specs.Prelude.{ℕ, Bool, true, false, not, ◌||◌, ◌&&◌}
use Rattle.typst_kinds.specs.Kinds.{same}
use Rattle.typst_kinds.specs.declared.kind.SyntaxKind.{SyntaxKind}
use Rattle.typst_kinds.specs.declared.kind.SyntaxKind.TheVariants as kind
use Rattle.typst_language.specs.Calls.Call.{MathExpr}
use Rattle.typst_language.specs.declared.calls.ChainSet.{ChainSet}
use Rattle.typst_language.specs.Shape.NodeChange.{unparened}
use Rattle.typst_language.specs.Shape.Shape.{keeps}
use Rattle.typst_language.specs.Syntax.{Parser, ◌>>=◌}
use Rattle.typst_language.specs.Syntax.Parser.{gives, pick, repeat}
use Rattle.typst_language.specs.Steps.{peek, eat, node}
use Rattle.typst_language.specs.Depth.{deeper}

-- both signs of attachments
abbrev pub both_signs : ChainSet
both_signs = record { hat = true; underscore = true }

-- whether a token is one of the signs
abbrev pub is_in : ChainSet → SyntaxKind → Bool
is_in signs k = (same kind.Hat k && signs.hat) || (same kind.Underscore k && signs.underscore)

-- the signs without this one
abbrev pub without : SyntaxKind → ChainSet → ChainSet
without k signs = record { hat = signs.hat && not (same kind.Hat k); underscore = signs.underscore && not (same kind.Underscore k) }

-- an operand, of operators that bind at least so tightly, up to one of some signs; parens around it
-- aren't delimiters
unfoldable pub operand : ℕ → ChainSet → Parser (Unit {0})
operand least signs = node (λ _. keeps unparened) (deeper (MathExpr least signs) tt)

-- one of the signs with its operand, which ends at the others, if a sign comes; answers the signs
-- that may still follow
unfoldable pub attachment_turn : ChainSet → Parser (Bool × ChainSet)
attachment_turn signs = do
  ahead ← peek
  pick (is_in signs ahead.kind) (do
    sign ← eat
    attached ← operand 2 (without ahead.kind signs)
    gives (true, without ahead.kind signs))
      (gives (false, signs))

-- each sign with its operand, at most once
unfoldable pub attachments : Parser (Unit {0})
attachments = do
  signs ← repeat attachment_turn both_signs
  gives tt

-- primes, and attachments after them unless the expression ends there
unfoldable pub primes : ChainSet → Parser (Unit {0})
primes stops = do
  sign ← eat
  ahead ← peek
  pick (is_in stops ahead.kind) (gives tt) attachments
