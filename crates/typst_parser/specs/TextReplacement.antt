-- An edit of a text.
use Rattle.std.specs.Prelude.{◌≡◌, ℕ, ◌<◌, ◌-◌, ◌^◌, List, ◌++◌}
use Rattle.std.specs.Str.{chars}
use Rattle.typst_lines.specs.Classes.{CharClasses}
use Rattle.typst_tokens.specs.Sight.{width}
use Rattle.typst_tree.specs.Tree.{Tree, bare}
use Rattle.typst_candidates.specs.Entries.{Units, units_of}
pub use Rattle.typst_edits.specs.Answer.{candidates}
pub use Rattle.typst_edits.specs.TextReplacement.{TextReplacement, text_before, text_after}
use Rattle.typst_edits.specs.Grammar.{tree, log}
use Rattle.typst_parser.specs.declared.replacement.Replacement.{Replacement}

-- A replacement, in bytes, makes this change, and `new` is the new text; a machine word counts both
-- texts.
pub record Makes (c : TextReplacement) (new : List ℕ) (e : Replacement) : Type 0 where
  pub is : chars new ≡ text_after c
  pub start : e.start ≡ width c.front
  pub old_end : e.old_end ≡ width (c.front ++ c.old)
  pub new_end : e.new_end ≡ width (c.front ++ c.new)
  pub fits : width (text_before c) < 2 ^ 64 - 1
  pub fits_now : width (text_after c) < 2 ^ 64 - 1

-- A tree is that of the text before, spans aside, and these are its units.
pub record Holds (k : CharClasses) (c : TextReplacement) (root : Tree) (units : Units) : Type 0 where
  pub tree_is : bare root ≡ bare (tree k (text_before c))
  pub units_are : units ≡ units_of (log k (text_before c))
