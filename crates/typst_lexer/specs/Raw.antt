-- The node of a raw text.
use Rattle.std.specs.Prelude.{ℕ, zero, suc, Bool, ◌==◌, ◌&&◌, nat_lt, if◌then◌else◌, List, [], ◌∷◌, ◌++◌, length, take, drop, reverse, Option, Some, None, option_map, encode_utf8_all}
use Rattle.std.specs.List.{prefix_len}
use Rattle.typst_kinds.specs.declared.kind.SyntaxKind.TheVariants as kind
use Rattle.typst_tree.specs.Tree.{Tree, forest, inner_of, error_of}
use Rattle.typst_tokens.specs.declared.token.Fault.TheVariants as fault
use Rattle.typst_lexer.specs.Faults.{message}
use Rattle.typst_lexer.specs.RawLines.{leaf, is_tick, block_leaves, inline_leaves}
use Rattle.typst_lexer.specs.RawTag.{tag, warned}

-- The backticks that characters begin with.
abbrev pub ticks : List ℕ → List ℕ
ticks cs = take (prefix_len is_tick cs) cs

-- Characters without the n backticks that they begin with, or nothing if they don't.
abbrev pub past_ticks : ℕ → List ℕ → Option (List ℕ)
past_ticks zero cs = Some cs
past_ticks (suc n) [] = None
past_ticks (suc n) (c ∷ cs) = if is_tick c then past_ticks n cs else None

-- Characters without the n backticks that they end in, or nothing if they don't.
abbrev pub before_ticks : ℕ → List ℕ → Option (List ℕ)
before_ticks n cs = option_map reverse (past_ticks n (reverse cs))

-- The leaf of a tag, if there is one.
abbrev pub tag_leaves : List ℕ → List Tree
tag_leaves [] = []
tag_leaves (c ∷ cs) = leaf kind.RawLang (c ∷ cs) ∷ []

-- The node of a raw text: its leaves between two delimiters.
abbrev pub delimited : List ℕ → List Tree → Tree
delimited delim leaves = inner_of kind.Raw (forest (leaf kind.RawDelim delim ∷ (leaves ++ leaf kind.RawDelim delim ∷ [])))

-- The node of a raw text with one backtick on each side.
abbrev pub inline_node : List ℕ → List ℕ → Tree
inline_node delim inner = delimited delim (inline_leaves inner)

-- The node of a raw text with three or more backticks on each side: a tag, and lines.
abbrev pub block_node : List ℕ → List ℕ → Tree
block_node delim inner =
    warned (length delim) (tag inner) inner
    (delimited delim (tag_leaves (tag inner) ++ block_leaves (drop (length (tag inner)) inner)))

-- The node of a raw text, by its delimiter and what is between the two.
abbrev pub closed_node : List ℕ → List ℕ → Tree
closed_node delim inner = if nat_lt 2 (length delim) then block_node delim inner else inline_node delim inner

-- Two backticks and nothing else.
abbrev pub is_pair : List ℕ → List ℕ → Bool
is_pair delim rest = length delim == 2 && length rest == 0

-- The node of two backticks alone.
abbrev pub two_delimiters : Tree
two_delimiters = inner_of kind.Raw (forest (leaf kind.RawDelim (96 ∷ []) ∷ (leaf kind.RawDelim (96 ∷ []) ∷ [])))

-- The node of characters, by their backticks and what follows them: two backticks alone are two
-- delimiters; others are a delimiter that has to be at the end again, else the text is unclosed.
abbrev pub delimited_node : List ℕ → List ℕ → List ℕ → Tree
delimited_node cs delim rest =
    if is_pair delim rest then two_delimiters
    else (elim (before_ticks (length delim) rest)
    [ None ↦ error_of (message fault.UnclosedRaw cs) (encode_utf8_all cs) | Some inner ↦ closed_node delim inner ])

-- The node of the characters of a raw text.
unfoldable pub raw_node : List ℕ → Tree
raw_node cs = delimited_node cs (ticks cs) (drop (length (ticks cs)) cs)
