-- What replacing keeps, as statements about its definition.
use Rattle.std.specs.Prelude.{◌≡◌, ℕ, ◌+◌, ◌-◌, ◌<◌, max, ◌⊎◌, List, [], ◌∷◌, ◌++◌, length, take, drop, slice_get, slice_set, slice_range, Option, Some, None, option_map}
use Rattle.typst_kinds.specs.Span.{number_of}
use Rattle.typst_kinds.specs.Head.{Head}
use Rattle.typst_tree.specs.Tree.{Tree, forest, joined, text_of, count, bare, at_child}
use Rattle.typst_tree.specs.Same.{front}
use Rattle.typst_tree.specs.Order.{IsWhole, IsNumbered, AreInOrder, numbers_of}
use Rattle.typst_tree.specs.Replace.{kids_of, with_kids, fit, middle, back, replaced_at, At, Reaches}

-- the tree with new children in place of from..to of the node that the path leads to
abbrev pub put_at : List ℕ → ℕ → ℕ → List Tree → Tree → Tree
put_at [] from to new t = with_kids t (take from (kids_of t) ++ (new ++ drop to (kids_of t)))
put_at (i ∷ path) from to new t = at_child (put_at path from to new) i t

-- the new tree is, spans aside, the old one with the children replaced
abbrev pub ReplacesChildren : Type 0
ReplacesChildren =
    (path : List ℕ) (from to : ℕ) (new : List Tree) (t u : Tree) → Reaches path from to t → replaced_at path from to new t ≡ Some u → bare u ≡ bare (put_at path from to new t)

-- where child i of a node begins in the node's text, or where its children end
abbrev pub start_in : ℕ → Tree → ℕ
start_in i t = length t.head.text + length (joined (forest (take i (kids_of t))))

-- a number of the tree that is there, or 0
abbrev pub or_none : (Tree → ℕ) → Option Tree → ℕ
or_none f None = 0
or_none f (Some t) = f t

-- where child i of the node that the path leads to begins in the text of the whole tree
abbrev pub start_at : List ℕ → ℕ → Tree → ℕ
start_at [] i t = start_in i t
start_at (j ∷ path) i t = start_in j t + or_none (start_at path i) (slice_get (kids_of t) j)

-- the new text is the old one with the stretch of the children replaced
abbrev pub ReplacesText : Type 0
ReplacesText =
    (path : List ℕ) (from to : ℕ) (new : List Tree) (t u : Tree) →
    Reaches path from to t → replaced_at path from to new t ≡ Some u → text_of u ≡ take (start_at path from t) (text_of t) ++ (joined (forest new) ++ drop (start_at path to t) (text_of t))

-- the stretch of children that are taken out or numbered again for the new ones, if there is room
abbrev pub touched_by : Head → List Tree → ℕ → ℕ → List Tree → Option (ℕ × ℕ)
touched_by h xs from to [] = Some (from, to)
touched_by h xs from to (n ∷ ns) = option_map (λ w. (w.left, w.right)) (fit h xs from to (count (forest (n ∷ ns))))

-- the stretch of children taken out or numbered again, after equal nodes at the front and at the
-- end of old and new children are set aside
abbrev pub touched : ℕ → ℕ → List Tree → Tree → Option (ℕ × ℕ)
touched from to new t =
    let old = slice_range (kids_of t) from to in let a = front old new in let b = back a old new in touched_by t.head (kids_of t) (from + a) (to - b) (middle a b new)

-- the children before that stretch and after it are as they were, with their numbers, and so is
-- the node itself
abbrev pub Keeps : Option (ℕ × ℕ) → Tree → Tree → Type 0
Keeps None t u = ⊥
Keeps (Some p) t u =
    (u.head ≡ t.head) × (take p.0 (kids_of u) ≡ take p.0 (kids_of t)) × (drop (length (kids_of u) - (length (kids_of t) - p.1)) (kids_of u) ≡ drop p.1 (kids_of t))

-- the trees are the same except the nodes that the path leads to, of which R holds
abbrev pub Along : (Tree → Tree → Type 0) → List ℕ → Tree → Tree → Type 0
Along R [] t u = R t u
Along R (i ∷ path) t u =
    (k : Tree) × (k' : Tree) × (slice_get (kids_of t) i ≡ Some k) × (u ≡ with_kids t (slice_set (kids_of t) i k')) × Along R path k k'

-- every node outside the stretch that is numbered again keeps its number
abbrev pub KeepsOthers : Type 0
KeepsOthers =
    (path : List ℕ) (from to : ℕ) (new : List Tree) (t u : Tree) → Reaches path from to t → replaced_at path from to new t ≡ Some u → Along (λ n m. Keeps (touched from to new n) n m) path t u

-- numbers that were distinct and in order stay so
abbrev pub KeepsOrder : Type 0
KeepsOrder =
    (path : List ℕ) (from to : ℕ) (new : List Tree) (t u : Tree) → IsWhole u → Reaches path from to t → replaced_at path from to new t ≡ Some u → IsNumbered t → IsNumbered u × AreInOrder (numbers_of u)

-- the node has no file, or with the new children more nodes are below it than it has numbers
abbrev pub IsFull : ℕ → ℕ → List Tree → Tree → Type 0
IsFull from to new t =
    (t.head.span ≡ None) ⊎ (t.head.upper - max 2 (number_of t.head.span + 1) < count (put_at [] from to new t).kids)

-- P holds of the node that the path leads to
abbrev pub AtPath : (Tree → Type 0) → List ℕ → Tree → Type 0
AtPath P [] t = P t
AtPath P (i ∷ path) t = At (AtPath P path) (slice_get (kids_of t) i)

-- replacing is refused only where the node that the path leads to is full
abbrev pub RefusesFull : Type 0
RefusesFull =
    (path : List ℕ) (from to : ℕ) (new : List Tree) (t : Tree) → Reaches path from to t → replaced_at path from to new t ≡ None → AtPath (IsFull from to new) path t
