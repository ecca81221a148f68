-- What was looked at for the current token, and what is left, in bytes.
use Rattle.std.specs.Prelude.{ℕ, zero, suc, ◌≤◌, max, min, if◌then◌else◌, length, encode_utf8_all}
use Rattle.typst_kinds.specs.declared.mode.SyntaxMode.{SyntaxMode}
use Rattle.typst_lines.specs.Place.{Place, moved}
use Rattle.typst_lines.specs.Classes.{CharClasses}
use Rattle.typst_tokens.specs.Reader.{look}
use Rattle.typst_tokens.specs.Sight.{hull_of}
use Rattle.typst_tokens.specs.declared.hull.Hull.{Hull}
use Rattle.typst_lexer.specs.Tokens.{token}
use Rattle.typst_language.specs.declared.reading.Newlines.{Newlines}
use Rattle.typst_language.specs.declared.reading.Reading.{Reading}
use Rattle.typst_language.specs.Hand.{len_at, at_trivia, ahead, asks_column, column_look}

-- how many bytes the characters ahead take
abbrev pub bytes_left : Place → ℕ
bytes_left z = length (encode_utf8_all z.ahead)

-- two stretches of bytes, and what lies between them
abbrev pub joined_hull : Hull → Hull → Hull
joined_hull a b = record { reach = max a.reach b.reach; least = min a.least b.least }

-- one stretch lies in another
pub record LiesIn (u v : Hull) : Type 0 where
  pub reach : u.reach ≤ v.reach
  pub least : v.least ≤ u.least

-- what was looked at for the token at a place
abbrev pub token_hull : CharClasses → SyntaxMode → Place → Hull
token_hull k m z = hull_of (look (token k m) z) z

-- what was looked at for the trivia at a place and the token after them, where there are no more
-- trivia tokens than the number says
abbrev pub tokens_by : CharClasses → SyntaxMode → ℕ → Place → Hull
tokens_by k m zero z = token_hull k m z
tokens_by k m (suc n) z = if at_trivia k m z then joined_hull (token_hull k m z) (tokens_by k m n (moved (len_at k m z) z)) else token_hull k m z

-- what was looked at for the trivia at a place and the token after them
unfoldable pub tokens_at : CharClasses → SyntaxMode → Place → Hull
tokens_at k m z = tokens_by k m (length z.ahead) z

-- a stretch of bytes with what was looked at for the column, if the newline rule asks for it
abbrev pub column_hull : Reading → Newlines → Place → Hull → Hull
column_hull held newlines z h = if asks_column held newlines then joined_hull h (hull_of (column_look z) z) else h

-- all that was looked at for the current token and the trivia before it
unfoldable pub whole_at : CharClasses → Reading → Place → Hull
whole_at k held z =
    let a = ahead k held.mode z in
    let w = moved a.gap z in
    joined_hull (tokens_at k held.mode z) (column_hull held a.newlines w (token_hull k held.mode w))
