-- The nodes of a tree in preorder, by their numbers from 0 on: where each begins, and which are found.
use Rattle.std.specs.Prelude.{◌≡◌, ℕ, ◌+◌, ◌==◌, nat_le, nat_lt, Bool, true, false, ◌&&◌, not, List, [], ◌∷◌, ◌++◌, ◌≤◌, length, take, drop, Option, None, Some, if◌then◌else◌}
use Rattle.std.specs.List.{list_any}
use Rattle.typst_kinds.specs.Kinds.{is_error, is_trivia}
use Rattle.typst_tree.specs.Tree.{Forest, none, more, Tree, count, text_of, saturated}

-- the texts of nodes themselves, without their children's
abbrev pub texts : List Tree → List ℕ
texts [] = []
texts (t ∷ ts) = t.head.text ++ texts ts

-- the numbers of trees that are side by side, where the first has the number n
abbrev pub numbers : ℕ → Forest → List ℕ
numbers n none = []
numbers n (more h ks r) = n ∷ numbers (n + 1 + count ks) r

-- of nodes in preorder, numbered from n on and beginning at byte a, the first that passes a test of
-- number, offset and node
abbrev pub first_at : (ℕ → ℕ → Tree → Bool) → ℕ → ℕ → List Tree → Option ℕ
first_at p n a [] = None
first_at p n a (t ∷ ts) = if p n (saturated a) t then Some n else first_at p (n + 1) (a + length t.head.text) ts

-- there is no tree
abbrev pub is_childless : Forest → Bool
is_childless none = true
is_childless (more h ks r) = false

-- a leaf that counts: without children, and neither trivia nor an error
abbrev pub is_leaf : Tree → Bool
is_leaf t = is_childless t.kids && (not (is_trivia t.head.kind) && not (is_error t.head.kind))

-- the first number if there is one, or else the second
abbrev pub if_none : Option ℕ → Option ℕ → Option ℕ
if_none None y = y
if_none (Some x) y = Some x

-- of nodes in preorder, numbered from n on, the last leaf that counts and has a number below b
abbrev pub last_leaf : ℕ → ℕ → List Tree → Option ℕ
last_leaf b n [] = None
last_leaf b n (t ∷ ts) = if_none (last_leaf b (n + 1) ts) (if nat_lt n b && is_leaf t then Some n else None)

-- the node with a child of the number k
abbrev pub has_child : ℕ → ℕ → ℕ → Tree → Bool
has_child k n a t = list_any (λ m. m == k) (numbers (n + 1) t.kids)

-- a leaf that counts and has at least the number k
abbrev pub is_leaf_from : ℕ → ℕ → ℕ → Tree → Bool
is_leaf_from k n a t = nat_le k n && is_leaf t

-- a leaf, also of trivia or an error, whose range holds the byte b
abbrev pub holds_byte : ℕ → ℕ → ℕ → Tree → Bool
holds_byte b n a t = is_childless t.kids && (nat_le a b && nat_lt b (saturated (a + length (text_of t))))

-- whether two spans are the same
abbrev pub same_place : Option (ℕ × ℕ) → Option (ℕ × ℕ) → Bool
same_place None None = true
same_place None (Some q) = false
same_place (Some p) None = false
same_place (Some p) (Some q) = (p.0 == q.0) && (p.1 == q.1)

-- a node with this span
abbrev pub has_span : Option (ℕ × ℕ) → ℕ → ℕ → Tree → Bool
has_span span n a t = same_place t.head.span span

-- whether a span has the number m
abbrev pub is_numbered : ℕ → Option (ℕ × ℕ) → Bool
is_numbered m None = false
is_numbered m (Some p) = p.1 == m

-- a node whose span has this number
abbrev pub has_number : ℕ → ℕ → ℕ → Tree → Bool
has_number m n a t = is_numbered m t.head.span

-- of several nodes one with those below it: xs begins with the number n and at byte a, and holds ys
-- from the number k and byte b on
pub record Within (n a : ℕ) (xs : List Tree) (k b : ℕ) (ys : List Tree) : Type 0 where
  pub front : List Tree
  pub back : List Tree
  pub whole : xs ≡ front ++ (ys ++ back)
  pub number : k ≡ n + length front
  pub offset : b ≡ saturated (a + length (texts front))

-- xs holds ys from the number k on, where the bytes of the leaves before ys are b
pub record Stands (xs : List Tree) (k b : ℕ) (ys : List Tree) : Type 0 where
  pub within : k + length ys ≤ length xs
  pub here : take (length ys) (drop k xs) ≡ ys
  pub begins : b ≡ saturated (length (texts (take k xs)))
