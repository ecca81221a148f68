-- What a lexer shows.
use Rattle.std.specs.Prelude.{ℕ, Bool, List}
use Rattle.typst_kinds.specs.declared.mode.SyntaxMode.{SyntaxMode}
use Rattle.typst_lines.specs.Place.{Place}
use Rattle.typst_lines.specs.Scanner as scanner
use Rattle.typst_lexer.specs.declared.lexer.Lexer.{Lexer}

-- The text that a lexer reads.
abbrev pub text_of : {C : Type 0} → Lexer C → List ℕ
text_of l = l.at.s.text.now

-- The place of a lexer in its text.
abbrev pub place : {C : Type 0} → Lexer C → Place
place l = scanner.place l.at.s

-- The byte offset of a lexer's place.
abbrev pub cursor_of : {C : Type 0} → Lexer C → ℕ
cursor_of l = l.at.s.cursor

-- The mode in which a lexer reads.
abbrev pub mode_of : {C : Type 0} → Lexer C → SyntaxMode
mode_of l = l.mode

-- Whether a line ended in the token that a lexer read last.
abbrev pub newline_of : {C : Type 0} → Lexer C → Bool
newline_of l = l.newline
