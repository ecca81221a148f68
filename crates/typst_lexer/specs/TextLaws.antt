-- What the node of a token keeps.
use Rattle.std.specs.Prelude.{◌≡◌, ℕ, List, encode_utf8_all}
use Rattle.typst_lines.specs.Classes.{CharClasses}
use Rattle.typst_tree.specs.Tree.{text_of}
use Rattle.typst_lexer.specs.Nodes.{token_node}
use Rattle.typst_tokens.specs.declared.token.Token.{Token}

-- The leaves of a token's node joined are the characters that it took.
abbrev pub TokenText : Type 0
TokenText = (k : CharClasses) (t : Token) (taken : List ℕ) → text_of (token_node k t taken) ≡ encode_utf8_all taken
