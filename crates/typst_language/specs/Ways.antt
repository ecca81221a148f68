-- The current token, read from its start in another way.
use Rattle.std.specs.Prelude.{◌≡◌, [], ◌∷◌, ◌++◌}
use Rattle.typst_lines.specs.Place.{Place}
use Rattle.typst_kinds.specs.Kinds.{is_error}
use Rattle.typst_tree.specs.Tree.{Tree, text_of}
use Rattle.typst_language.specs.Shape.{after_node}
use Rattle.typst_language.specs.Meaning.{renewed}
use Rattle.typst_language.specs.View.{View}

-- the pending trivia and this node were given, up to a place
pub record GaveUpTo (end : Place) (node : Tree) (v w : View) : Type 0 where
  pub nodes : w.nodes ≡ v.nodes ++ (v.hand.trivia ++ node ∷ [])
  pub place : w.place ≡ end
  pub state : w.state ≡ renewed (after_node (is_error node.head.kind) (text_of node) v.state)
  pub log : w.log ≡ v.log
  pub memo : w.memo ≡ v.memo
