-- The language tag of a raw text, and the warning of a text that is only a tag.
use Rattle.std.specs.Prelude.{ℕ, ◌+◌, Bool, not, ◌==◌, ◌&&◌, ◌||◌, if◌then◌else◌, List, ◌++◌, length, take, Some, None, codes, encode_utf8_all}
use Rattle.std.specs.Char.{is_whitespace}
use Rattle.std.specs.List.{prefix_len}
use Rattle.typst_kinds.specs.Span.{Bytes}
use Rattle.typst_tree.specs.Diagnostic.{warning_with, hint_with}
use Rattle.typst_tree.specs.Tree.{Tree, remarked, advised}
use Rattle.typst_lexer.specs.RawLines.{is_tick}

-- A character that a tag can have: neither whitespace nor a backtick.
abbrev pub in_tag : ℕ → Bool
in_tag c = not (is_whitespace c || is_tick c)

-- The tag: the characters after the backticks, up to whitespace or a backtick.
unfoldable pub tag : List ℕ → List ℕ
tag cs = take (prefix_len in_tag cs) cs

-- How many bytes characters take.
abbrev pub width : List ℕ → ℕ
width cs = length (encode_utf8_all cs)

-- The bytes of a tag that comes after n backticks.
abbrev pub stretch : ℕ → List ℕ → Bytes
stretch n tag = record { start = n; end = n + width tag }

-- The hint that these characters are read as the tag.
abbrev pub treated : List ℕ → List ℕ
treated tag = codes "Typst is treating `" ++ (encode_utf8_all tag ++ codes "` as the language tag")

-- The node with the warning that there is a tag and nothing else.
abbrev pub only_tag : ℕ → List ℕ → Tree → Tree
only_tag n tag t =
    advised (hint_with (Some (stretch n tag)) (codes "to treat this as text, add a space after the initial backticks"))
    (advised (hint_with None (treated tag))
    (remarked (warning_with None (codes "empty raw text")) t))

-- There is a tag, which is all that there is.
abbrev pub is_whole : List ℕ → List ℕ → Bool
is_whole tag inner = not (width tag == 0) && width tag == width inner

-- The node of a raw text with n backticks on each side, with a warning if its tag is all that is
-- between them.
unfoldable pub warned : ℕ → List ℕ → List ℕ → Tree → Tree
warned n tag inner t = if is_whole tag inner then only_tag n tag t else t
