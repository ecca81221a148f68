-- The node that a token makes of the characters that it took.
use Rattle.std.specs.Prelude.{ℕ, Bool, true, false, not, ◌&&◌, ◌||◌, if◌then◌else◌, List, [], ◌∷◌, Some, None, encode_utf8_all}
use Rattle.typst_lines.specs.Classes.{CharClasses}
use Rattle.typst_kinds.specs.Kinds.{is_error}
use Rattle.typst_kinds.specs.declared.kind.SyntaxKind.{SyntaxKind}
use Rattle.typst_kinds.specs.declared.kind.SyntaxKind.TheVariants as kind
use Rattle.typst_tree.specs.Tree.{Tree, leaf_of, error_of, all_advised}
use Rattle.typst_lexer.specs.Raw.{raw_node}
use Rattle.typst_tokens.specs.declared.token.Token.{Token}
use Rattle.typst_tokens.specs.declared.token.Fault.{Fault}
use Rattle.typst_lexer.specs.Faults.{hints, message}
use Rattle.typst_lexer.specs.Fields.{access_node}

-- An error leaf of the characters, with message and hints.
abbrev pub fault_node : Fault → List ℕ → Tree
fault_node f taken = all_advised (hints f taken) (error_of (message f taken) (encode_utf8_all taken))

-- A raw text: its node is more than a leaf.
abbrev pub is_raw : SyntaxKind → Bool
is_raw kind.Raw = true
is_raw _ = false

-- A name with fields: its node is more than a leaf.
abbrev pub has_fields : SyntaxKind → Bool
has_fields kind.MathFieldAccess = true
has_fields _ = false

-- The node of a token without a fault: that of a raw text or of a name with fields, or a leaf. An
-- error without a fault, which is never read, would say nothing. No class of a character matters
-- here.
abbrev pub plain_node : CharClasses → Token → List ℕ → Tree
plain_node _ t taken =
    if is_error t.kind then error_of [] (encode_utf8_all taken)
    else (if is_raw t.kind then raw_node taken
    else (if has_fields t.kind then access_node taken else leaf_of t.kind (encode_utf8_all taken)))

-- Whether the node of a token is a leaf of its kind.
abbrev pub is_leaf : Token → Bool
is_leaf t = elim t.fault [ None ↦ not (is_error t.kind) && not (is_raw t.kind || has_fields t.kind) | Some f ↦ false ]

-- The node of a token: an error leaf if it has a fault, else its own.
abbrev pub token_node : CharClasses → Token → List ℕ → Tree
token_node k t taken = elim t.fault [ None ↦ plain_node k t taken | Some f ↦ fault_node f taken ]
