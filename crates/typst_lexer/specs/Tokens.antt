-- The definition of a token.
use Rattle.std.specs.Prelude.{ℕ, if◌then◌else◌, ◌==◌, is_none, Some, None}
use Rattle.typst_kinds.specs.declared.kind.SyntaxKind.TheVariants as kind
use Rattle.typst_kinds.specs.declared.mode.SyntaxMode.{SyntaxMode}
use Rattle.typst_kinds.specs.declared.mode.SyntaxMode.TheVariants.{Markup, Math, Code}
use Rattle.typst_lines.specs.Place.{passes}
use Rattle.typst_tokens.specs.Characters.{is_space}
use Rattle.typst_lines.specs.Classes.{CharClasses}
use Rattle.typst_tokens.specs.Common.{whitespace, shebang, line_comment, block_comment, comment_end}
use Rattle.typst_tokens.specs.Code.{code}
use Rattle.typst_tokens.specs.Markup.{markup}
use Rattle.typst_tokens.specs.Raw.{raw}
use Rattle.typst_lexer.specs.Math.{math}
use Rattle.typst_tokens.specs.Reader.{Reader}
use Rattle.typst_tokens.specs.Reader.Reader.{answer, peek, glance}
use Rattle.typst_tokens.specs.Token.{plain}
use Rattle.typst_tokens.specs.declared.token.Token.{Token}
use Rattle.typst_tokens.specs.Memory.{Memory}

-- A token that only one mode has, at the character that comes next.
unfoldable pub of_mode : CharClasses → SyntaxMode → ℕ → Reader Memory Token
of_mode k Markup c = markup k c
of_mode k Math c = math k
of_mode k Code c = code k c

-- A hash comes next: at the text's start `#!` begins a shebang.
unfoldable pub hash : CharClasses → SyntaxMode → Reader Memory Token
hash k mode = glance 0 (λ before.
    if is_none before then peek 1 (λ d. if passes (λ d. d == 33) d then shebang else of_mode k mode 35)
    else of_mode k mode 35)

-- A slash comes next: before another one or a star it begins a comment.
unfoldable pub slash : CharClasses → SyntaxMode → Reader Memory Token
slash k mode = peek 1 (λ d.
    if passes (λ d. d == 47) d then line_comment
    else (if passes (λ d. d == 42) d then block_comment else of_mode k mode 47))

-- A star comes next: before a slash it ends a comment, where none is open.
unfoldable pub star : CharClasses → SyntaxMode → Reader Memory Token
star k mode = peek 1 (λ d. if passes (λ d. d == 47) d then comment_end else of_mode k mode 42)

-- A backtick comes next: in markup and in code it begins a raw text.
unfoldable pub backtick : CharClasses → SyntaxMode → Reader Memory Token
backtick k Markup = raw
backtick k Math = of_mode k Math 96
backtick k Code = raw

-- The token of the mode that comes next: the end, whitespace, a shebang, a comment, a raw text, or
-- one that only the mode has.
unfoldable pub token : CharClasses → SyntaxMode → Reader Memory Token
token k mode = peek 0 (λ c. elim c [
  | None ↦ answer (plain kind.End)
  | Some c ↦
      if is_space mode c then whitespace mode
      else (if c == 35 then hash k mode
      else (if c == 47 then slash k mode
      else (if c == 42 then star k mode
      else (if c == 96 then backtick k mode
      else of_mode k mode c))))
])
