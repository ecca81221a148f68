-- The law of the node of a raw text, and what some raw texts become.
use Rattle.std.specs.Prelude.{◌≡◌, ℕ, List, [], ◌∷◌, Some, None, codes, encode_utf8_all}
use Rattle.typst_kinds.specs.Span.{Bytes}
use Rattle.typst_kinds.specs.declared.kind.SyntaxKind.TheVariants as kind
use Rattle.typst_tree.specs.Diagnostic.{warning_with, hint_with}
use Rattle.typst_tree.specs.Tree.{Tree, forest, text_of, inner_of, leaf_of, error_of, remarked, advised}
use Rattle.typst_lexer.specs.Raw.{raw_node}

-- The leaves joined are the characters.
abbrev pub RawLeaves : Type 0
RawLeaves = (cs : List ℕ) → text_of (raw_node cs) ≡ encode_utf8_all cs

-- A raw text of these leaves.
abbrev pub raw : List Tree → Tree
raw leaves = inner_of kind.Raw (forest leaves)

-- A delimiter.
abbrev pub delim : List ℕ → Tree
delim cs = leaf_of kind.RawDelim cs

-- A language tag.
abbrev pub lang : List ℕ → Tree
lang cs = leaf_of kind.RawLang cs

-- A text.
abbrev pub text : List ℕ → Tree
text cs = leaf_of kind.Text cs

-- What is trimmed.
abbrev pub trim : List ℕ → Tree
trim cs = leaf_of kind.RawTrimmed cs

-- The bytes a..e.
abbrev pub range : ℕ → ℕ → Bytes
range a e = record { start = a; end = e }

-- Texts between single backticks, and texts that aren't closed.
pub record InlineRaws : Type 0 where
  pub empty : raw_node (codes "``") ≡ raw (delim (codes "`") ∷ (delim (codes "`") ∷ []))
  pub lines : raw_node (codes "`a\nb`") ≡ raw (delim (codes "`") ∷ (text (codes "a") ∷ (trim (codes "\n") ∷ (text (codes "b") ∷ (delim (codes "`") ∷ [])))))
  pub unclosed : raw_node (codes "`a") ≡ error_of (codes "unclosed raw text") (codes "`a")
  pub unclosed_by_two : raw_node (codes "```a``") ≡ error_of (codes "unclosed raw text") (codes "```a``")

-- Texts between three backticks.
pub record BlockRaws : Type 0 where
  -- the indent of the closing delimiter's line is trimmed
  pub dedented : raw_node (codes "```py\n  a\n   b\n  ```") ≡ raw (delim (codes "```") ∷ (lang (codes "py") ∷ (trim (codes "\n  ") ∷ (text (codes "a") ∷ (trim (codes "\n  ") ∷ (text (codes " b") ∷ (trim (codes "\n  ") ∷ (delim (codes "```") ∷ []))))))))
  -- a space beside a backtick is trimmed
  pub spare_space : raw_node (codes "``` `a` ```") ≡ raw (delim (codes "```") ∷ (trim (codes " ") ∷ (text (codes "`a`") ∷ (trim (codes " ") ∷ (delim (codes "```") ∷ [])))))
  -- a space beside anything else is kept
  pub kept_space : raw_node (codes "``` a ```") ≡ raw (delim (codes "```") ∷ (trim (codes " ") ∷ (text (codes "a ") ∷ (delim (codes "```") ∷ []))))
  -- two blank lines are trimmed as one
  pub blank : raw_node (codes "``` \n```") ≡ raw (delim (codes "```") ∷ (trim (codes " \n") ∷ (delim (codes "```") ∷ [])))

-- Tags of texts between three backticks, and the warning of a text that is only a tag.
pub record TaggedRaws : Type 0 where
  -- a tag goes up to whitespace
  pub signs : raw_node (codes "```c++ x```") ≡ raw (delim (codes "```") ∷ (lang (codes "c++") ∷ (trim (codes " ") ∷ (text (codes "x") ∷ (delim (codes "```") ∷ [])))))
  -- or up to a backtick
  pub backtick : raw_node (codes "```a`b```") ≡ raw (delim (codes "```") ∷ (lang (codes "a") ∷ (text (codes "`b") ∷ (delim (codes "```") ∷ []))))
  -- there is none after a space
  pub untagged : raw_node (codes "``` a```") ≡ raw (delim (codes "```") ∷ (trim (codes " ") ∷ (text (codes "a") ∷ (delim (codes "```") ∷ []))))
  pub only_tag : raw_node (codes "```++c```") ≡
      advised (hint_with (Some (range 3 6)) (codes "to treat this as text, add a space after the initial backticks"))
      (advised (hint_with None (codes "Typst is treating `++c` as the language tag"))
      (remarked (warning_with None (codes "empty raw text"))
      (raw (delim (codes "```") ∷ (lang (codes "++c") ∷ (delim (codes "```") ∷ []))))))
