-- Numbers that are in order.
use Rattle.std.specs.Prelude.{◌≡◌, ℕ, ◌+◌, ◌<◌, ◌≤◌, false, List, [], ◌∷◌, ◌++◌, AllPairs, if◌then◌else◌}
use Rattle.typst_kinds.specs.Span.{number_of}
use Rattle.typst_kinds.specs.Head.{Head}
use Rattle.typst_tree.specs.Tree.{Forest, none, more, Tree}

-- the leaves of a forest have no children
abbrev pub IsWholeForest : Forest → Type 0
IsWholeForest none = Unit {0}
IsWholeForest (more h ks r) = (h.is_inner ≡ false → ks ≡ none) × IsWholeForest ks × IsWholeForest r

-- the leaves of a tree have no children
abbrev pub IsWhole : Tree → Type 0
IsWhole t = (t.head.is_inner ≡ false → t.kids ≡ none) × IsWholeForest t.kids

-- the numbers of a forest's nodes in preorder
abbrev pub numbers : Forest → List ℕ
numbers none = []
numbers (more h ks r) = number_of h.span ∷ (numbers ks ++ numbers r)

-- the numbers of a tree's nodes in preorder
abbrev pub numbers_of : Tree → List ℕ
numbers_of t = number_of t.head.span ∷ numbers t.kids

-- each number is below all that come later, so that no two are the same
abbrev pub AreInOrder : List ℕ → Type 0
AreInOrder ns = AllPairs (λ x y. x < y) ns

-- where the numbers of a node and of those below it end
abbrev pub upper_at : Head → ℕ
upper_at h = if h.is_inner then h.upper else number_of h.span + 1

-- the numbers of the trees go one tree after another from a on and are below e, and those below a
-- node are between its number and its upper end
abbrev pub IsOrdered : ℕ → Forest → ℕ → Type 0
IsOrdered a none e = a ≤ e
IsOrdered a (more h ks r) e = (a ≤ number_of h.span) × IsOrdered (number_of h.span + 1) ks (upper_at h) × IsOrdered (upper_at h) r e

-- a tree that was numbered: the numbers below its root are between the root's number and upper end
abbrev pub IsNumbered : Tree → Type 0
IsNumbered t = IsOrdered (number_of t.head.span + 1) t.kids (upper_at t.head)
