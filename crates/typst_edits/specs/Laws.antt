-- Laws of edits of a text.
use Rattle.std.specs.Prelude.{◌≡◌, ℕ, List}
use Rattle.typst_tree.specs.Tree.{Tree, forest, inner_of}
use Rattle.typst_kinds.specs.declared.kind.SyntaxKind.TheVariants as kind
use Rattle.typst_lines.specs.Classes.{CharClasses}
use Rattle.typst_language.specs.declared.calls.Block.{Block}
use Rattle.typst_language.specs.Knot.{blocks_of, meaning_of}
use Rattle.typst_language.specs.Meaning.{Meaning, start_point}
use Rattle.typst_grammar.specs.Markup.{markup_reading}
use Rattle.typst_grammar.specs.Grammar.{rules, max_depth, start_of, whole, parsed, tree}
use Rattle.std.specs.Prelude.{◌++◌}
use Rattle.typst_edits.specs.Hole.{path_of}
use Rattle.typst_edits.specs.Named.{Named}
use Rattle.typst_edits.specs.Spot.{Spot, Fits, unit_at, last_node}
use Rattle.typst_edits.specs.Occurrences.{level_spots}
use Rattle.typst_edits.specs.Edit.{Among, Passes, replaced, Edited}
use Rattle.typst_edits.specs.TextReplacement.{TextReplacement, text_before, text_after, start_before, start_after}

-- the blocks of a text, each with what stands around it
unfoldable pub blocks_of_text : CharClasses → List ℕ → List (Spot (Unit {0}))
blocks_of_text k text = level_spots (rules k) k max_depth whole (start_of text) (start_point markup_reading)

-- What the reading and the tree of the new text are, where an edit inside a block passes the test, and the block's node is this one.
pub record Kept (k : CharClasses) (edit : TextReplacement) (c : Spot (Unit {0})) (x : Tree) : Type 0 where
  -- the block leaves the state that it left, and gives this node of its kind where it gave its node
  pub fits : Fits c (unit_at c (start_after edit)) x
  pub reading : Edited (parsed k max_depth (text_before edit)) (parsed k max_depth (text_after edit)) c (unit_at c (start_before edit)) (unit_at c (start_after edit)) x
  pub tree : tree k (text_after edit) ≡ inner_of kind.Markup (forest (replaced (path_of c.hole) x (parsed k max_depth (text_before edit)).nodes))

-- The block law: where an edit inside a block passes the test, the reading of the new text is the old one with the block's node and its part of the log exchanged.
abbrev pub BlockLaw : Type 0
BlockLaw = (k : CharClasses) (edit : TextReplacement) (c : Spot (Unit {0})) (past : ℕ)
    → Among c (blocks_of_text k (text_before edit)) → Passes edit c past → Kept k edit c (last_node (unit_at c (start_after edit)).nodes)

-- what a block reads, where a given number of levels are left
abbrev pub block_at : CharClasses → ℕ → Block → Meaning (Unit {0})
block_at k levels b = blocks_of (rules k) k levels (meaning_of (rules k) k levels) b

-- Each block of a text is read as its name, its level and its state say, and its two marks stand in the log directly around what it asked.
abbrev pub NamesLaw : Type 0
NamesLaw = (k : CharClasses) (text : List ℕ) (c : Spot (Unit {0})) → Among c (blocks_of_text k text) → Named (block_at k) max_depth c
