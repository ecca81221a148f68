-- The tokens that all modes share.
use Rattle.std.specs.Prelude.{ℕ, suc, ◌+◌, ◌-◌, Bool, false, not, ◌&&◌, if◌then◌else◌, ◌==◌, nat_lt, List, [], ◌∷◌, None}
use Rattle.typst_kinds.specs.declared.kind.SyntaxKind.{SyntaxKind}
use Rattle.typst_kinds.specs.declared.kind.SyntaxKind.TheVariants as kind
use Rattle.typst_kinds.specs.declared.mode.SyntaxMode.{SyntaxMode}
use Rattle.typst_kinds.specs.declared.mode.SyntaxMode.TheVariants.{Markup, Math, Code}
use Rattle.typst_lines.specs.Newline.{is_newline}
use Rattle.typst_tokens.specs.Characters.{is_space}
use Rattle.typst_lines.specs.Classes.{in_line}
use Rattle.typst_tokens.specs.Reader.{Reader, Machine, Turn, by_character, eat_span}
use Rattle.typst_tokens.specs.Reader.Reader.{answer, eat, skip, eat_run}
use Rattle.typst_tokens.specs.Reader.Turn.{leave, last, go}
use Rattle.typst_tokens.specs.Memory.Memory.{blank, comment}
use Rattle.typst_tokens.specs.Token.{plain, faulty}
use Rattle.typst_tokens.specs.declared.token.Token.{Token}
use Rattle.typst_tokens.specs.declared.token.Fault.TheVariants as fault
use Rattle.typst_tokens.specs.Memory.{Memory}

-- A token of one character.
unfoldable pub sign : SyntaxKind → Reader Memory Token
sign k = eat (answer (plain k))

-- How many lines end in characters: a line feed directly after a carriage return ends none.
unfoldable pub line_ends : Bool → List ℕ → ℕ
line_ends after_cr [] = 0
line_ends after_cr (c ∷ cs) = if is_newline c && not (after_cr && c == 10) then suc (line_ends (c == 13) cs) else line_ends (c == 13) cs

-- In markup two line ends make whitespace a Parbreak.
abbrev pub is_parbreak : SyntaxMode → ℕ → Bool
is_parbreak Markup ends = nat_lt 1 ends
is_parbreak Math ends = false
is_parbreak Code ends = false

-- Whitespace in which a given number of lines end.
abbrev pub space : SyntaxMode → ℕ → Token
space mode ends = record { kind = if is_parbreak mode ends then kind.Parbreak else kind.Space; newline = nat_lt 0 ends; fault = None }

-- Whitespace: the whole run.
unfoldable pub whitespace : SyntaxMode → Reader Memory Token
whitespace mode = eat_run (is_space mode) (λ cs. answer (space mode (line_ends false cs)))

-- `#!` comes next, and what is on its line.
unfoldable pub shebang : Reader Memory Token
shebang = eat_run in_line (λ _. answer (plain kind.Shebang))

-- `//` comes next, and what is on its line.
unfoldable pub line_comment : Reader Memory Token
line_comment = eat_run in_line (λ _. answer (plain kind.LineComment))

-- At `*/` the innermost comment ends, and at `/*` one begins; no character is part of two of these.
abbrev pub comment_turn : ℕ → ℕ → ℕ → Turn Memory
comment_turn before depth c =
    if before == 42 && c == 47 then (if depth == 0 then last blank else go (comment 0 (depth - 1)))
    else (if before == 47 && c == 42 then go (comment 0 (depth + 1)) else go (comment c depth))

-- A step through a block comment.
abbrev pub comment_step : Memory → ℕ → Turn Memory
comment_step (comment before depth) c = comment_turn before depth c
comment_step _ c = leave

-- The machine that takes a block comment from after its `/*` on.
abbrev pub in_comment : Machine Memory
in_comment = by_character comment_step

-- `/*` comes next, and all up to its `*/`, or to the end.
unfoldable pub block_comment : Reader Memory Token
block_comment = skip 2 (eat_span in_comment (comment 0 0) (λ _. answer (plain kind.BlockComment)))

-- `*/` comes next, where no comment is open.
unfoldable pub comment_end : Reader Memory Token
comment_end = skip 2 (answer (faulty fault.CommentEnd))
