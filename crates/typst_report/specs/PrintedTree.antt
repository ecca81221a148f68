-- A tree as it is printed: a line for each node, two spaces deeper than its parent's, and below it
-- a line for each warning and each hint.
use Rattle.std.specs.Prelude.{ℕ, ◌+◌, List, [], ◌∷◌, ◌++◌, length, codes, encode_utf8, if◌then◌else◌}
use Rattle.std.specs.Str.{chars}
use Rattle.std.specs.Fmt.{decimal}
use Rattle.typst_lines.specs.Newline.{is_newline}
use Rattle.typst_kinds.specs.declared.diagnostic.Severity.{Severity}
use Rattle.typst_kinds.specs.declared.diagnostic.Severity.TheVariants as severity
use Rattle.typst_kinds.specs.Diagnostic.{Diagnostic, Hint}
use Rattle.typst_kinds.specs.Head.{Head}
use Rattle.typst_tree.specs.Tree.{Forest, none, more, Tree, joined, text_of}
use Rattle.typst_lines.specs.Classes.{CharClasses}
use Rattle.typst_grammar.specs.Grammar.{tree, tree_code, tree_math}
use Rattle.typst_kinds.specs.Names.{variant_name}

-- characters as bytes, with a space for each newline character
abbrev pub spaced : List ℕ → List ℕ
spaced [] = []
spaced (c ∷ cs) = encode_utf8 (if is_newline c then 32 else c) ++ spaced cs

-- a message with a space for each newline character
abbrev pub one_line : List ℕ → List ℕ
one_line message = spaced (chars message)

-- the message of an error after a space, and nothing for a warning
abbrev pub error_of : Severity → List ℕ → List ℕ
error_of severity.Error message = 32 ∷ one_line message
error_of severity.Warning message = []

-- the messages of the errors
abbrev pub errors : List Diagnostic → List ℕ
errors [] = []
errors (d ∷ ds) = error_of d.severity d.message ++ errors ds

-- a node's own line: its kind, its range in bytes, and what is wrong with it
abbrev pub own_line : List ℕ → ℕ → ℕ → Head → List ℕ
own_line indent start end h =
    indent ++ (variant_name h.kind ++ (32 ∷ (decimal start ++ (codes ".." ++ (decimal end ++ (errors h.diagnostics ++ (10 ∷ [])))))))

-- a line that a word begins
abbrev pub remark : List ℕ → List ℕ → List ℕ → List ℕ
remark indent word message = indent ++ (word ++ (codes ": " ++ (one_line message ++ (10 ∷ []))))

-- the line of a warning, and nothing for an error
abbrev pub warning : List ℕ → Severity → List ℕ → List ℕ
warning indent severity.Error message = []
warning indent severity.Warning message = remark indent (codes "warning") message

-- a line for each hint
abbrev pub hints : List ℕ → List Hint → List ℕ
hints indent [] = []
hints indent (h ∷ hs) = remark indent (codes "hint") h.message ++ hints indent hs

-- a line for each warning, and for each hint after its error or warning
abbrev pub remarks : List ℕ → List Diagnostic → List ℕ
remarks indent [] = []
remarks indent (d ∷ ds) = warning indent d.severity d.message ++ (hints indent d.hints ++ remarks indent ds)

-- the indentation of what is one level deeper
abbrev pub deeper : List ℕ → List ℕ
deeper indent = indent ++ codes "  "

-- a node's own line, and below it its warnings and hints
abbrev pub head_lines : List ℕ → ℕ → ℕ → Head → List ℕ
head_lines indent start end h = own_line indent start end h ++ remarks (deeper indent) h.diagnostics

-- the lines of nodes that follow one another from a byte on, each with what is below it
abbrev pub lines : List ℕ → ℕ → Forest → List ℕ
lines indent start none = []
lines indent start (more h ks r) =
    let end : ℕ = start + length (h.text ++ joined ks) in
    head_lines indent start end h ++ (lines (deeper indent) start ks ++ lines indent end r)

-- the lines of one node from a byte on, with what is below it
abbrev pub node_lines : List ℕ → ℕ → Tree → List ℕ
node_lines indent start t = head_lines indent start (start + length (text_of t)) t.head ++ lines (deeper indent) start t.kids

-- the tree of a text, by some classes of characters, as it is printed
abbrev pub tree_printed : CharClasses → List ℕ → List ℕ
tree_printed k text = node_lines [] 0 (tree k (chars text))

-- the tree of a text of code, by some classes of characters, as it is printed
abbrev pub code_tree_printed : CharClasses → List ℕ → List ℕ
code_tree_printed k text = node_lines [] 0 (tree_code k (chars text))

-- the tree of the text of a formula, by some classes of characters, as it is printed
abbrev pub math_tree_printed : CharClasses → List ℕ → List ℕ
math_tree_printed k text = node_lines [] 0 (tree_math k (chars text))
