-- The tokens of a text after an edit, by those before it.
use Rattle.std.specs.Prelude.{◌≡◌, ℕ, ◌+◌, ◌-◌, ◌%◌, ◌^◌, nat_lt, nat_le, List, [], ◌∷◌, ◌++◌, length, map, take, drop, if◌then◌else◌}
use Rattle.std.specs.declared.ops.Range.{Range}
use Rattle.typst_tree.specs.Tree.{Tree}
use Rattle.typst_styles.specs.Tokens.{tokens_in}
use Rattle.typst_styles.specs.Windows.{IsEdit, IsWindow, range_of}
use Rattle.typst_styles.specs.declared.renewed.Outside.{Outside}
use Rattle.typst_styles.specs.declared.tokens.Token.{Token}

-- of some tokens those that begin before a byte (of private clauses, and so are the next five)
abbrev pub begun_before : ℕ → List Token → List Token
begun_before byte [] = []
begun_before byte (t ∷ ts) = if nat_lt t.start byte then t ∷ begun_before byte ts else begun_before byte ts

-- of some tokens those that begin at a byte or after it
abbrev pub begun_from : ℕ → List Token → List Token
begun_from byte [] = []
begun_from byte (t ∷ ts) = if nat_le byte t.start then t ∷ begun_from byte ts else begun_from byte ts

-- how many of some tokens begin before a byte, where all after them begin at it or after it
pub record IsParted (byte : ℕ) (tokens : List Token) (count : ℕ) : Type 0 where
  pub before : take count tokens ≡ begun_before byte tokens
  pub behind : drop count tokens ≡ begun_from byte tokens

-- a token moved by a distance, in a machine's numbers, which wrap round
abbrev pub wrapped : ℕ → Token → Token
wrapped distance t = record t { start = (t.start + distance) % 2 ^ 64 }

-- a token moved so that it is as far after byte `to` as it was after byte `from`, in these numbers
abbrev pub carried : ℕ → ℕ → Token → Token
carried from to t = wrapped ((to + (2 ^ 64 - from)) % 2 ^ 64) t

-- some tokens in the place of those that begin from one byte to another, `end`, with those behind these as far after byte `to`
abbrev pub replaced : ℕ → ℕ → ℕ → List Token → List Token → List Token
replaced start end to made tokens = begun_before start tokens ++ (made ++ map (carried end to) (begun_from end tokens))

-- ALL TOKENS OF A TEXT, made of those that there were before an edit with this window: whatever text of so many bytes these were of, and whatever tree
abbrev pub AreRenewed : List ℕ → Tree → Range ℕ → List Token → ℕ → List Token → Type 0
AreRenewed text root window was was_len tokens =
    (was_text : List ℕ) (was_root : Tree) (read : Range ℕ) → IsEdit text was_text was_root root read → IsWindow root text read window → was_len ≡ length was_text → was ≡ tokens_in (range_of 0 (length was_text)) was_text was_root
    → tokens ≡ tokens_in (range_of 0 (length text)) text root

-- how many of all tokens of a text stand before a window, and how many after it, where it ended at a byte of that text
pub record IsOutside (was_text : List ℕ) (was_root : Tree) (start from : ℕ) (outside : Outside) : Type 0 where
  pub front : outside.front ≡ length (tokens_in (range_of 0 start) was_text was_root)
  pub back : outside.back ≡ length (tokens_in (range_of from (length was_text)) was_text was_root)

-- HOW MANY TOKENS AN EDIT LEAVES before its window and behind it: whatever text of so many bytes they were of, and whatever the trees
abbrev pub AreOutside : List ℕ → Range ℕ → List Token → ℕ → Outside → Type 0
AreOutside text window was was_len outside =
    (was_text : List ℕ) (was_root root : Tree) (read : Range ℕ) → IsEdit text was_text was_root root read → IsWindow root text read window → was_len ≡ length was_text → was ≡ tokens_in (range_of 0 (length was_text)) was_text was_root
    → IsOutside was_text was_root window.start (length was_text - (length text - window.end)) outside
