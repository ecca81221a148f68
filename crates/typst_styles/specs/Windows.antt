-- Which tokens an edit leaves as they were: those of lines that an edge parts from what was read again.
use Rattle.std.specs.Prelude.{◌≡◌, ℕ, ◌+◌, ◌-◌, ◌<◌, ◌≤◌, ◌⊎◌, ◌^◌, true, List, ◌∷◌, ◌++◌, length, map, get_or}
use Rattle.std.specs.declared.ops.Range.{Range}
use Rattle.typst_tree.specs.Tree.{Forest, Tree, forest, text_of}
use Rattle.typst_highlight.specs.Edges.{is_edge}
use Rattle.typst_highlight.specs.RootEdits.{IsRootEdit, bytes_of}
use Rattle.typst_styles.specs.Tokens.{tokens_in}
use Rattle.typst_styles.specs.declared.tokens.Token.{Token}

-- an edge among some trees, with a byte
pub record HasEdge (kids : Forest) : Type 0 where
  pub front : List Tree
  pub edge : Tree
  pub back : List Tree
  pub whole : kids ≡ forest (front ++ edge ∷ back)
  pub parts : is_edge edge ≡ true
  pub some : 0 < length (text_of edge)

-- an LF stands before a byte
pub record FollowsFeed (text : List ℕ) (at : ℕ) : Type 0 where
  pub some : 0 < at
  pub feed : get_or text (at - 1) 0 ≡ 10

-- a line starts at a byte before an edge that ends before some bytes
pub record StartsBefore (root : Tree) (text : List ℕ) (read : Range ℕ) (at : ℕ) : Type 0 where
  pub edge : HasEdge root.kids
  pub ends : bytes_of edge.front + length (text_of edge.edge) < read.start
  pub within : at ≤ bytes_of edge.front
  pub line : FollowsFeed text at

-- a line starts at a byte behind an edge that begins after some bytes
pub record StartsBehind (root : Tree) (text : List ℕ) (read : Range ℕ) (at : ℕ) : Type 0 where
  pub edge : HasEdge root.kids
  pub begins : read.end < bytes_of edge.front
  pub behind : bytes_of edge.front + length (text_of edge.edge) ≤ at
  pub within : at ≤ length text
  pub line : FollowsFeed text at

-- the start of an edge that ends before a byte, or 0 (of private clauses, and so are the next four)
pub record BeginsOne (kids : Forest) (limit at : ℕ) : Type 0 where
  pub edge : HasEdge kids
  pub ends : bytes_of edge.front + length (text_of edge.edge) < limit
  pub here : at ≡ bytes_of edge.front

abbrev pub BeginsEdge : Forest → ℕ → ℕ → Type 0
BeginsEdge kids limit at = (at ≡ 0) ⊎ BeginsOne kids limit at

-- a node is an edge, from a byte to a greater one that isn't the largest usize
pub record IsEdgeTo (node : Tree) (start end : ℕ) : Type 0 where
  pub parts : is_edge node ≡ true
  pub some : start < end
  pub counted : end < 2 ^ 64 - 1

-- the end of an edge that begins after a byte, or the text's end
pub record EndsOne (kids : Forest) (limit at : ℕ) : Type 0 where
  pub edge : HasEdge kids
  pub begins : limit < bytes_of edge.front
  pub here : at ≡ bytes_of edge.front + length (text_of edge.edge)

abbrev pub EndsEdge : Forest → ℕ → ℕ → ℕ → Type 0
EndsEdge kids limit len at = (at ≡ len) ⊎ EndsOne kids limit at

-- the start of a line from a byte on, or the text's end
abbrev pub IsLineAfter : List ℕ → ℕ → ℕ → Type 0
IsLineAfter text at line = (line ≡ length text) ⊎ ((at ≤ line) × ((line ≤ length text) × FollowsFeed text line))

-- THE LINES WHOSE TOKENS MAY HAVE CHANGED where some bytes were read again: up to a line that an edge parts from these, or up to the text's ends
pub record IsWindow (root : Tree) (text : List ℕ) (read window : Range ℕ) : Type 0 where
  pub start : (window.start ≡ 0) ⊎ StartsBefore root text read window.start
  pub end : (window.end ≡ length text) ⊎ StartsBehind root text read window.end

-- an edit of a root's children, with the texts of the trees, whose bytes can be counted
pub record IsEdit (text was_text : List ℕ) (was now : Tree) (read : Range ℕ) : Type 0 where
  pub edit : IsRootEdit was now read
  pub whole_was : was_text ≡ text_of was
  pub whole_now : text ≡ text_of now
  pub few_was : length was_text ≤ 2 ^ 64 - 1
  pub few_now : length text ≤ 2 ^ 64 - 1

-- TWO EDITS IN A ROW are one, by the bytes that both read again: whatever trees they were of, if the text had so many bytes before the second one and has so many after it
abbrev pub IsOfBoth : Range ℕ → Range ℕ → ℕ → ℕ → Range ℕ → Type 0
IsOfBoth first second before after both =
    (was_text middle_text text : List ℕ) (was middle now : Tree) → before ≡ length middle_text → after ≡ length text → IsEdit middle_text was_text was middle first → IsEdit text middle_text middle now second → IsEdit text was_text was now both

abbrev pub range_of : ℕ → ℕ → Range ℕ
range_of a b = record { start = a; end = b }

-- a token that is as far behind byte n as it was behind byte m
abbrev pub moved : ℕ → ℕ → Token → Token
moved m n t = record t { start = t.start - m + n }

-- the tokens from one byte on are those that there were from another byte on, moved
pub record AreKept (text was_text : List ℕ) (was now : Tree) (at from : ℕ) : Type 0 where
  pub m : ℕ
  pub n : ℕ
  pub low : m ≤ from
  pub by : at + m ≡ from + n
  pub same : tokens_in (range_of at (length text)) text now ≡ map (moved m n) (tokens_in (range_of from (length was_text)) was_text was)

-- all tokens are those before a byte, those from it to another one, and those from there on
abbrev pub InThree : List ℕ → Tree → ℕ → ℕ → Type 0
InThree text root a e = tokens_in (range_of 0 (length text)) text root ≡ tokens_in (range_of 0 a) text root ++ (tokens_in (range_of a e) text root ++ tokens_in (range_of e (length text)) text root)

-- WHAT STAYS of the tokens: those before the window, and those behind it, moved. `from` is where the window ended in the old text
pub record Stays (text was_text : List ℕ) (was now : Tree) (window : Range ℕ) (from : ℕ) : Type 0 where
  pub ordered : window.start ≤ window.end
  pub ordered_was : window.start ≤ from
  pub front : tokens_in (range_of 0 window.start) text now ≡ tokens_in (range_of 0 window.start) was_text was
  pub back : AreKept text was_text was now window.end from
  pub parts : InThree text now window.start window.end
  pub parts_was : InThree was_text was window.start from

-- the law of windows
abbrev pub WindowLaw : Type 0
WindowLaw =
    (text was_text : List ℕ) (was now : Tree) (read window : Range ℕ) (from : ℕ) → IsEdit text was_text was now read → IsWindow now text read window → from + length text ≡ window.end + length was_text → Stays text was_text was now window from
