-- What a source promises of its tree.
use Rattle.std.specs.Prelude.{◌≡◌, ℕ, ◌^◌, ◌<◌, List, ◌++◌, take, drop, All, Option, Some, None}
use Rattle.std.specs.Str.{chars}
use Rattle.std.specs.declared.ops.Range.{Range}
use Rattle.typst_kinds.specs.Span.{number_of}
use Rattle.typst_tree.specs.Tree.{Tree, places, nodes, bare, text_of}
use Rattle.typst_tree.specs.Order.{AreInOrder, numbers_of}
use Rattle.typst_lines.specs.Classes.{CharClasses}
use Rattle.typst_edits.specs.Grammar.{tree}
use Rattle.typst_parser.specs.Held.{Held}
-- The file in which a tree is numbered, and the tree numbered over all numbers of a file, if they are enough, or without numbers if
-- there is no file.
pub use Rattle.typst_edits.specs.Answer.{file_of, numbered_in}

-- the text with another one in the place of a range of bytes
abbrev pub edited : List ℕ → Range ℕ → List ℕ → List ℕ
edited text range new = take range.start text ++ new ++ drop range.end text

-- each node has a number of the file, above those of the nodes before it in preorder
pub record IsNumberedIn (file : ℕ) (t : Tree) : Type 0 where
  pub spans : All (λ n. n.head.span ≡ Some (file, number_of n.head.span)) (places t)
  pub order : AreInOrder (numbers_of t)
  pub few : nodes t < 2 ^ 47

-- each node has a number of the file, or if there is no file, no node has one
abbrev pub AreNumbered : Option ℕ → Tree → Type 0
AreNumbered None t = All (λ n. n.head.span ≡ None) (places t)
AreNumbered (Some file) t = IsNumberedIn file t

-- the numbers are in order, if there is a file
abbrev pub AreOrdered : Option ℕ → Tree → Type 0
AreOrdered None t = Unit {0}
AreOrdered (Some file) t = AreInOrder (numbers_of t)

-- THE HEADLINE. The tree is, spans aside, the tree that the written grammar gives to the whole
-- present text, and its leaves joined are that text. Its nodes are numbered in order. The line
-- table is that of the text, since contracts see lines as their text alone
pub record Headline {C : Type 0} (k : CharClasses) (s : Held C) : Type 0 where
  pub tree : bare s.root ≡ bare (tree k (chars s.text))
  pub leaves : text_of s.root ≡ s.text
  pub numbers : AreNumbered (file_of s.root) s.root
