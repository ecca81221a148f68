-- What is printed of a tree doesn't depend on its spans.
use Rattle.std.proofs.Common.{◌≡◌, ℕ, ◌+◌, List, ◌++◌, length, refl, sym, ap, ◌∙◌}
use Rattle.typst_parser.specs.Head.{Head}
use Rattle.typst_parser.specs.Tree.{Forest, none, more, Tree, bare, bare_forest, joined, text_of}
use Rattle.typst_parser.proofs.Numbering.{joined_bare}
use Rattle.std.specs.Prelude.{[]}
use Rattle.std.specs.Str.{chars}
use Rattle.std.specs.declared.ops.Range.{Range}
use Rattle.typst_parser.specs.UnicodeTables.{unicode_classes}
use Rattle.typst_parser.specs.Grammar.{tree}
use Rattle.typst_report.specs.PrintedTree.{lines, node_lines, deeper, tree_printed}
use Rattle.typst_cli.specs.PrintedEdit.{range_line, edit_printed}

lines-bare : (indent : List ℕ) (start : ℕ) (f : Forest) → lines indent start (bare_forest f) ≡ lines indent start f
lines-bare indent start none = refl
lines-bare indent start (more h ks r) =
    let end : ℕ = start + length (h.text ++ joined ks) in
    rw (joined_bare ks, lines-bare (deeper indent) start ks, lines-bare indent end r) refl

node-bare : (indent : List ℕ) (start : ℕ) (t : Tree) → node_lines indent start (bare t) ≡ node_lines indent start t
node-bare indent start t = rw (joined_bare t.kids, lines-bare (deeper indent) start t.kids) refl

pub same-printed : (indent : List ℕ) (start : ℕ) (t u : Tree) → bare t ≡ bare u → node_lines indent start t ≡ node_lines indent start u
same-printed indent start t u e = sym (node-bare indent start t) ∙ ap (node_lines indent start) e ∙ node-bare indent start u

-- a range, and after it a tree that is, spans aside, the tree of the new text
pub whole-answer : (parsed : Range ℕ) (new wanted b0 b1 b2 : List ℕ) (shown root : Tree) → new ≡ wanted → bare root ≡ bare (tree unicode_classes (chars new)) → shown ≡ root
    → b0 ≡ [] → b1 ≡ b0 ++ range_line parsed → b2 ≡ b1 ++ node_lines [] 0 shown → b2 ≡ edit_printed parsed wanted
whole-answer parsed new wanted b0 b1 b2 shown root e same is empty line node =
    let tail : node_lines [] 0 shown ≡ tree_printed unicode_classes wanted =
    ap (node_lines [] 0) is ∙ same-printed [] 0 root (tree unicode_classes (chars new)) same ∙ ap (tree_printed unicode_classes) e in
    node ∙ ap (λ x. x ++ node_lines [] 0 shown) (line ∙ ap (λ x. x ++ range_line parsed) empty) ∙ ap (λ x. range_line parsed ++ x) tail
