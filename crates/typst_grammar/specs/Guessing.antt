-- What the parser of the code knows of first readings of parens, at each level.
use Rattle.std.specs.Prelude.{ℕ}
use Rattle.typst_lines.specs.Classes.{CharClasses}
use Rattle.typst_language.specs.Meaning.{Guessing, Level, guessing}
use Rattle.typst_code.specs.Parens.{guess_of}
use Rattle.typst_grammar.specs.Grammar.{level_at}

-- what first readings find where a given number of levels are left
abbrev pub guesses : CharClasses → Guessing
guesses k levels z outer = guess_of (level_at k levels) z outer

-- where a parser runs with a given number of levels left, and what first readings find there is known
abbrev pub guessing_at : CharClasses → ℕ → Level
guessing_at k levels = guessing (guesses k) (level_at k levels)
