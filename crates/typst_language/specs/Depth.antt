-- The limit of depth, and what is in place of what lies deeper.
use Rattle.std.specs.Prelude.{ℕ, ◌+◌, ◌-◌, ◌^◌, min, Bool, true, false, not, ◌||◌, ◌&&◌, ◌==◌, codes}
use Rattle.typst_kinds.specs.declared.kind.SyntaxKind.{SyntaxKind}
use Rattle.typst_kinds.specs.declared.kind.SyntaxKind.TheVariants as kind
use Rattle.typst_language.specs.declared.reading.AtNewline.TheVariants.{Continue}
use Rattle.typst_language.specs.Calls.{Call, Answer}
use Rattle.typst_language.specs.Shape.Shape.{fails}
use Rattle.typst_language.specs.Syntax.{Parser, ◌>>=◌, ◌>>◌}
use Rattle.typst_language.specs.Syntax.Op.{is_deepest}
use Rattle.typst_language.specs.Syntax.Parser.{gives, does, pick, repeat, calls}
use Rattle.typst_language.specs.Steps.{peek, eat, within, node}

-- the end of what may be read
abbrev pub is_end : SyntaxKind → Bool
is_end kind.End = true
is_end _ = false

-- every token stops what lies too deep, as in place of one expression
abbrev pub anywhere : SyntaxKind → Bool
anywhere k = true

-- one more, but at most as many as a machine word counts
abbrev pub one_more : ℕ → ℕ
one_more n = min (n + 1) (2 ^ 64 - 1)

-- how many delimiters are open after a token; closing ones that match none don't count
abbrev pub balance : SyntaxKind → ℕ → ℕ
balance kind.LeftBracket n = one_more n
balance kind.LeftBrace n = one_more n
balance kind.LeftParen n = one_more n
balance kind.RightBracket n = n - 1
balance kind.RightBrace n = n - 1
balance kind.RightParen n = n - 1
balance _ n = n

-- more is skipped while delimiters are open or no stop comes, up to the end
abbrev pub skips : (SyntaxKind → Bool) → ℕ → SyntaxKind → Bool
skips stops open_ones k = not ((open_ones == 0 && stops k) || is_end k)

-- one token is skipped, with how many delimiters are open
unfoldable pub skip_one : (SyntaxKind → Bool) → ℕ → Parser (Bool × ℕ)
skip_one stops n = do
  ahead ← peek
  skipped ← eat
  after ← peek
  gives (skips stops (balance ahead.kind n) after.kind, balance ahead.kind n)

-- what lies too deep becomes one error: at least one token, on until delimiters are balanced and a stop comes
unfoldable pub too_deep : (SyntaxKind → Bool) → Parser (Unit {0})
too_deep stops = do
  count ← node (λ _. fails (codes "maximum parsing depth exceeded")) (within (λ r. record r { at_newline = Continue }) (repeat (skip_one stops) 0))
  gives tt

-- what is read one level deeper, if a level is left; what is too deep answers as if it were not
-- there
unfoldable pub deeper : (call : Call) → Answer call → Parser (Answer call)
deeper call answer = do
  is_deep ← does is_deepest
  pick is_deep (too_deep anywhere >> gives answer) (calls call)
