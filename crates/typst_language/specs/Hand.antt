-- The current token: the trivia ahead, and the token after them.
use Rattle.std.specs.Prelude.{ℕ, zero, suc, ◌+◌, min, Bool, true, false, not, ◌||◌, ◌&&◌, if◌then◌else◌, nat_lt, nat_le, List, [], ◌∷◌, ◌++◌, length, take, encode_utf8_all, Option, Some, None}
use Rattle.typst_kinds.specs.declared.kind.SyntaxKind.{SyntaxKind}
use Rattle.typst_kinds.specs.declared.kind.SyntaxKind.TheVariants as kind
use Rattle.typst_kinds.specs.Kinds.{is_trivia}
use Rattle.typst_kinds.specs.declared.mode.SyntaxMode.{SyntaxMode}
use Rattle.typst_kinds.specs.declared.mode.SyntaxMode.TheVariants as mode
use Rattle.typst_lines.specs.Place.{Place, moved}
use Rattle.typst_lexer.specs.Tree.{Tree}
use Rattle.typst_tokens.specs.declared.token.Token.{Token}
use Rattle.typst_tokens.specs.Memory.{Memory}
use Rattle.typst_lines.specs.Classes.{CharClasses}
unfoldable pub use Rattle.typst_tokens.specs.Column.{column_at}
pub use Rattle.typst_tokens.specs.Column.{column_look}
use Rattle.typst_tokens.specs.Reader.{Reader, exec, eaten, look}
use Rattle.typst_lexer.specs.Tokens.{token}
use Rattle.typst_lexer.specs.Nodes.{token_node}
use Rattle.typst_language.specs.declared.reading.AtNewline.TheVariants.{Continue, Stop, ContextualContinue, StopParBreak, RequireColumn}
use Rattle.typst_language.specs.declared.reading.Newlines.{Newlines}
use Rattle.typst_language.specs.declared.reading.Reading.{Reading}
use Rattle.typst_language.specs.Point.{Trivia, is_nil, no_newlines}
use Rattle.typst_language.specs.Ask.{Ask, shift}
use Rattle.typst_language.specs.Ask.Ask.{looked}

-- the first characters ahead
abbrev pub text_ahead : ℕ → Place → List ℕ
text_ahead n z = take n z.ahead

-- the first characters ahead, as bytes
abbrev pub utf8_ahead : ℕ → Place → List ℕ
utf8_ahead n z = encode_utf8_all (take n z.ahead)

-- a paragraph break
abbrev pub is_parbreak : SyntaxKind → Bool
is_parbreak kind.Parbreak = true
is_parbreak _ = false

-- the token that a reader finds at a place, and how many characters it takes
abbrev pub token_by : Reader Memory Token → Place → Token
token_by r z = (exec r z).0

-- how many characters the token takes that a reader finds at a place
abbrev pub len_by : Reader Memory Token → Place → ℕ
len_by r z = min (eaten r z) (length z.ahead)

-- the token of a mode
abbrev pub token_at : CharClasses → SyntaxMode → Place → Token
token_at k m z = token_by (token k m) z

-- how many characters the token of a mode takes
abbrev pub len_at : CharClasses → SyntaxMode → Place → ℕ
len_at k m z = len_by (token k m) z

-- trivia, as nodes and as characters, with the newlines in them, and the token after them
pub record Ahead : Type 0 where
  pub trivia : List Tree
  pub gap : ℕ
  pub newlines : Newlines
  pub token : Token
  pub len : ℕ

-- no trivia, and this token
abbrev pub direct : Token → ℕ → Ahead
direct t n = record { trivia = []; gap = 0; newlines = no_newlines; token = t; len = n }

-- the newlines of either
abbrev pub both_newlines : Newlines → Newlines → Newlines
both_newlines a b = record { any = a.any || b.any; parbreak = a.parbreak || b.parbreak }

-- the newlines that a trivia token holds
abbrev pub newlines_of : Token → Newlines
newlines_of t = record { any = t.newline; parbreak = is_parbreak t.kind }

-- one trivia token more before the others, of a given number of characters
abbrev pub after_trivia : Token → ℕ → Tree → Ahead → Ahead
after_trivia t n node a = record a {
  trivia = node ∷ a.trivia;
  gap = n + a.gap;
  newlines = both_newlines (newlines_of t) a.newlines;
}

-- whether the token at a place is trivia
abbrev pub at_trivia : CharClasses → SyntaxMode → Place → Bool
at_trivia k m z = is_trivia (token_at k m z).kind && nat_lt 0 (len_at k m z)

-- the trivia at a place and the token after them, where there are no more trivia tokens than the
-- number says
abbrev pub ahead_by : CharClasses → SyntaxMode → ℕ → Place → Ahead
ahead_by k m zero z = direct (token_at k m z) (len_at k m z)
ahead_by k m (suc n) z =
    if at_trivia k m z
    then after_trivia (token_at k m z) (len_at k m z) (token_node k (token_at k m z) (text_ahead (len_at k m z) z)) (ahead_by k m n (moved (len_at k m z) z))
    else direct (token_at k m z) (len_at k m z)

-- the trivia at a place and the token after them
unfoldable pub ahead : CharClasses → SyntaxMode → Place → Ahead
ahead k m z = ahead_by k m (length z.ahead) z

-- the looks for the trivia at a place and the token after them, where there are no more trivia
-- tokens than the number says
abbrev pub asks_by : CharClasses → SyntaxMode → ℕ → Place → List Ask
asks_by k m zero z = looked 0 (look (token k m) z) ∷ []
asks_by k m (suc n) z =
    looked 0 (look (token k m) z) ∷ (if at_trivia k m z then shift (len_at k m z) (asks_by k m n (moved (len_at k m z) z)) else [])

-- the looks for the trivia at a place and the token after them
unfoldable pub ahead_asks : CharClasses → SyntaxMode → Place → List Ask
ahead_asks k m z = asks_by k m (length z.ahead) z

-- a line that begins with `else` or `.` goes on with the line before it
abbrev pub goes_on : SyntaxKind → Bool
goes_on kind.Else = true
goes_on kind.Dot = true
goes_on _ = false

-- the mode of markup
abbrev pub is_markup : SyntaxMode → Bool
is_markup mode.Markup = true
is_markup _ = false

-- whether the newline rule stops at a token of this kind and column, with these newlines before it.
-- Only in markup is a column known
abbrev pub stops : Reading → Newlines → SyntaxKind → ℕ → Bool
stops reading newlines k column = newlines.any && (elim reading.at_newline [
  | Continue ↦ false
  | Stop ↦ true
  | ContextualContinue ↦ not (goes_on k)
  | StopParBreak ↦ newlines.parbreak
  | RequireColumn least ↦ is_markup reading.mode && nat_le column least
])

-- a token's kind, or End if the newline rule stops
abbrev pub judged : Reading → Newlines → SyntaxKind → ℕ → SyntaxKind
judged reading newlines k column = if stops reading newlines k column then kind.End else k

-- whether the newline rule asks for the column
abbrev pub asks_column : Reading → Newlines → Bool
asks_column reading newlines = newlines.any && (elim reading.at_newline [ RequireColumn least ↦ is_markup reading.mode | _ ↦ false ])

-- the current token with the trivia before it
pub record Hand : Type 0 where
  -- End if the newline rule stops
  pub kind : SyntaxKind
  pub trivia : List Tree
  -- how many characters the trivia and the token take
  pub gap : ℕ
  pub len : ℕ
  -- the newlines before the token, also in trivia that became nodes already
  pub newlines : Newlines
  -- the token itself, whatever the newline rule says
  pub token : Token

-- what a production gets to know of the current token: its kind, whether there are trivia, and the
-- newlines
pub record AtHand : Type 0 where
  pub kind : SyntaxKind
  pub has_trivia : Bool
  pub newlines : Newlines

-- what a production gets to know of a current token
abbrev pub as_at_hand : Hand → AtHand
as_at_hand h = record { kind = h.kind; has_trivia = not (is_nil h.trivia); newlines = h.newlines }

-- what is known of the pending trivia once they were asked for
abbrev pub known_by : Hand → Option Trivia
known_by h = Some (record { nodes = h.trivia; gap = h.gap; newlines = h.newlines })

-- the trivia at a place and the token after them; if the trivia are known, only the token is asked
-- for
abbrev pub ahead_of : CharClasses → SyntaxMode → Option Trivia → Place → Ahead
ahead_of k m None z = ahead k m z
ahead_of k m (Some t) z = record { trivia = t.nodes; gap = t.gap; newlines = t.newlines; token = token_at k m (moved t.gap z); len = len_at k m (moved t.gap z) }

-- the looks for the trivia at a place and the token after them, or for the token alone if the
-- trivia are known
abbrev pub ahead_asks_of : CharClasses → SyntaxMode → Option Trivia → Place → List Ask
ahead_asks_of k m None z = ahead_asks k m z
ahead_asks_of k m (Some t) z = looked t.gap (look (token k m) (moved t.gap z)) ∷ []

-- the current token, by how it is read, its column, and what is ahead
abbrev pub hand_by : Reading → ℕ → Ahead → Hand
hand_by held column a = record {
  kind = judged held a.newlines a.token.kind column;
  trivia = a.trivia;
  gap = a.gap;
  len = a.len;
  newlines = a.newlines;
  token = a.token;
}

-- the current token, by how it is read and what is known of the trivia before it
unfoldable pub hand_at : CharClasses → Reading → Option Trivia → Place → Hand
hand_at k held known z = let a = ahead_of k held.mode known z in hand_by held (column_at (moved a.gap z)) a

-- the look for the column, if the newline rule asks for it
abbrev pub column_asks : Reading → Newlines → ℕ → Place → List Ask
column_asks held newlines gap z = if asks_column held newlines then looked gap (column_look (moved gap z)) ∷ [] else []

-- the looks for the current token
unfoldable pub hand_asks : CharClasses → Reading → Option Trivia → Place → List Ask
hand_asks k held known z =
    let a = ahead_of k held.mode known z in
    ahead_asks_of k held.mode known z ++ column_asks held a.newlines a.gap z
