-- Facts on the texts of error tokens.
use Rattle.typst_lexer.proofs.Cited.{◌≡◌, ℕ, true, List, [], append-nil, encode_utf8_all, ap, sym, ◌∙◌, Some, None, arith, chars, place_at, moved, hints, message, Token, CharClasses, moved-more}
use Rattle.typst_lexer.specs.Nodes.{is_leaf, token_node, plain_node, fault_node}
use Rattle.typst_lexer.proofs.Accesses.{text-access}
use Rattle.typst_lexer.proofs.Suffixes.{start-of}
use Rattle.typst_tokens.specs.Reader.{place}
use Rattle.typst_tokens.specs.declared.token.Fault.{Fault}
use Rattle.typst_lexer.proofs.Leaves.{raw-leaves}
use Rattle.typst_tree.specs.Tree.{Tree, text_of, leaf_of, error_of, all_advised}
use Rattle.typst_tree.proofs.Texts.{text_all_advised}

-- three characters on from a text's start
pub thrice : (text : List ℕ) → moved 1 (moved 1 (moved 1 (place_at text 0))) ≡ moved 3 (place [] (chars text))
thrice text = grind (arith, start-of, moved-more)

-- ---- the text of a node

text-fault : (f : Fault) (taken : List ℕ) → text_of (fault_node f taken) ≡ encode_utf8_all taken
text-fault f taken = text_all_advised (hints f taken) (error_of (message f taken) (encode_utf8_all taken)) ∙ append-nil (encode_utf8_all taken)

text-plain : (k : CharClasses) (t : Token) (taken : List ℕ) → text_of (plain_node k t taken) ≡ encode_utf8_all taken
text-plain k t taken = grind (arith, append-nil, raw-leaves, text-access)

-- a token's node has the text of the characters that it took
pub text-token : (k : CharClasses) (t : Token) (taken : List ℕ) → text_of (token_node k t taken) ≡ encode_utf8_all taken
text-token k t taken = elim t.fault as (λ o. text_of (elim o as (λ _. Tree) [ None ↦ plain_node k t taken | Some f ↦ fault_node f taken ]) ≡ encode_utf8_all taken) [
  | None ↦ text-plain k t taken
  | Some f ↦ text-fault f taken
]

-- what is a leaf of its kind
pub leaf-is : (k : CharClasses) (t : Token) (taken : List ℕ) → is_leaf t ≡ true → token_node k t taken ≡ leaf_of t.kind (encode_utf8_all taken)
leaf-is k t taken h = grind arith

-- a node that was made with a message, and got hints
pub fault-is : (f : Fault) (taken bytes said : List ℕ) (node made : Tree) → encode_utf8_all taken ≡ bytes → node ≡ error_of said bytes → said ≡ message f taken → made ≡ all_advised (hints f taken) node → made ≡ fault_node f taken
fault-is f taken bytes said node made u e m h = h ∙ ap (all_advised (hints f taken)) (e ∙ ap (λ x. error_of x bytes) m ∙ ap (error_of (message f taken)) (sym u))
