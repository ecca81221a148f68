-- The token that is read ahead.
use Rattle.std.specs.Prelude.{◌≡◌, ◌-◌, ℕ, List, true, None, length}
use Rattle.typst_lines.specs.Place.{moved}
use Rattle.typst_lines.specs.Scanner.{place}
use Rattle.typst_lines.specs.declared.scanner.Scanner.{Scanner}
use Rattle.typst_lines.specs.Classes.{CharClasses}
use Rattle.typst_tree.specs.Tree.{Tree}
use Rattle.typst_language.specs.declared.reading.Reading.{Reading}
use Rattle.typst_language.specs.Hand.{Hand, hand_at}
use Rattle.typst_language.specs.declared.ahead.ReadAhead.{ReadAhead}
use Rattle.typst_language.specs.Bytes.{token_hull, column_hull}

-- how many characters are between two scanners
abbrev pub distance : Scanner → Scanner → ℕ
distance from to = length (place to).before - length (place from).before

-- the token that was read ahead, with the trivia before it
abbrev pub hand_of_ahead : ReadAhead → List Tree → Hand
hand_of_ahead a trivia = record {
  kind = a.kind;
  trivia = trivia;
  gap = distance a.before a.start;
  len = distance a.start a.after;
  newlines = a.newlines;
  token = a.token;
}

-- the token is where its trivia end, in the same text
pub record Stands (a : ReadAhead) : Type 0 where
  pub start : place a.start ≡ moved (distance a.before a.start) (place a.before)
  pub after : place a.after ≡ moved (distance a.start a.after) (place a.start)
  pub start_text : a.start.text.now ≡ a.before.text.now
  pub after_text : a.after.text.now ≡ a.start.text.now
  pub line_text : a.line.text.now ≡ a.before.text.now

-- the trivia and the token are those at a place of which nothing was known
pub record IsAhead (k : CharClasses) (held : Reading) (from : Scanner) (trivia : List Tree) (a : ReadAhead) : Type 0 where
  pub before : a.before ≡ from
  pub is_read : a.is_read ≡ true
  pub stands : Stands a
  pub hand : hand_of_ahead a trivia ≡ hand_at k held None (place from)
  pub own : a.own ≡ token_hull k held.mode (moved (distance a.before a.start) (place from))
  pub here : a.here ≡ column_hull held a.newlines (moved (distance a.before a.start) (place from)) a.own
