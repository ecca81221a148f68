-- An edit of a root's children.
use Rattle.std.specs.Prelude.{◌≡◌, ℕ, ◌+◌, ◌≤◌, List, [], ◌∷◌, ◌++◌, length}
use Rattle.std.specs.declared.ops.Range.{Range}
use Rattle.typst_kinds.specs.declared.kind.SyntaxKind.TheVariants as kind
use Rattle.typst_tree.specs.Tree.{Tree, bare_forest, forest, joined, text_of}

-- how many bytes some trees have
abbrev pub bytes_of : List Tree → ℕ
bytes_of ts = length (joined (forest ts))

-- how many bytes the first of some trees has, and the last one
abbrev pub first_bytes : List Tree → ℕ
first_bytes [] = 0
first_bytes (t ∷ ts) = length (text_of t)

abbrev pub last_bytes : List Tree → ℕ
last_bytes [] = 0
last_bytes (t ∷ []) = length (text_of t)
last_bytes (t ∷ u ∷ ts) = last_bytes (u ∷ ts)

-- of a root's children some gave way to others, spans aside; what was read again begins in the first of these or at its end, and ends in the last one or at its start
pub record IsRootEdit (was now : Tree) (read : Range ℕ) : Type 0 where
  pub front : List Tree
  pub old : List Tree
  pub new : List Tree
  pub back : List Tree
  pub kind_was : was.head.kind ≡ kind.Markup
  pub kind_now : now.head.kind ≡ kind.Markup
  pub text_was : was.head.text ≡ []
  pub text_now : now.head.text ≡ []
  pub before : bare_forest was.kids ≡ bare_forest (forest (front ++ (old ++ back)))
  pub after : bare_forest now.kids ≡ bare_forest (forest (front ++ (new ++ back)))
  pub starts : bytes_of front ≤ read.start
  pub begins : read.start ≤ bytes_of front + first_bytes new
  pub ordered : read.start ≤ read.end
  pub ends : bytes_of front + bytes_of new ≤ read.end + last_bytes new
