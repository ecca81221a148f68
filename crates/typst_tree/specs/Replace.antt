-- Children replaced along a path.
use Rattle.std.specs.Prelude.{◌≡◌, ◌^◌, ℕ, zero, suc, ◌+◌, ◌-◌, ◌*◌, ◌≤◌, ◌<◌, Bool, nat_le, ◌==◌, ◌&&◌, ◌||◌, min, max, IsTrue, List, [], ◌∷◌, ◌++◌, length, take, drop, reverse, Option, Some, None, option_map, option_and_then, unwrap_or, slice_get, slice_set, slice_range, if◌then◌else◌}
use Rattle.typst_tree.specs.declared.replace.Counts.{Counts}
use Rattle.typst_tree.specs.declared.replace.Stretch.{Stretch}
use Rattle.typst_kinds.specs.Span.{SpanValue, number_of}
use Rattle.typst_kinds.specs.Head.{Head, has_any}
use Rattle.typst_tree.specs.Tree.{Tree, forest, trees, count, nodes, saturated, text_of, have_diagnostics, has_diagnostics}
use Rattle.typst_tree.specs.Numbers.{numbered_list, stride}
use Rattle.typst_tree.specs.Same.{front}

-- a node's children
abbrev pub kids_of : Tree → List Tree
kids_of t = trees t.kids

-- the node with other children
abbrev pub with_kids : Tree → List Tree → Tree
with_kids t ts = record { head = t.head; kids = forest ts }

-- where a node's numbers end: `upper_at` (Order.antt) of its head
abbrev pub upper_of : Tree → ℕ
upper_of t = if t.head.is_inner then t.head.upper else number_of t.head.span + 1

-- where the numbers of the tree that is there end, or else n
abbrev pub upper_or : ℕ → Option Tree → ℕ
upper_or n None = n
upper_or n (Some t) = upper_of t

-- the number of the tree that is there, or else n
abbrev pub number_or : ℕ → Option Tree → ℕ
number_or n None = n
number_or n (Some t) = number_of t.head.span

-- where the numbers for the children from l on begin: after the child before or the node itself,
-- and not below the first of all numbers
abbrev pub start_of : Head → List Tree → ℕ → ℕ
start_of h xs l = max 2 (if l == 0 then number_of h.span + 1 else upper_or (number_of h.span + 1) (slice_get xs (l - 1)))

-- where the numbers for the children below r end: at the child r, or else where the node's end
abbrev pub end_of : Head → List Tree → ℕ → ℕ
end_of h xs r = number_or h.upper (slice_get xs r)

-- how many children are before the stretch that begins k children before `from`, or at the first
abbrev pub left_of : ℕ → ℕ → ℕ
left_of from k = from - k

-- how many children are before the end of the stretch that ends k children after `to`, or at the
-- last
abbrev pub right_of : List Tree → ℕ → ℕ → ℕ
right_of xs to k = min (to + k) (length xs)

-- how many nodes are in the stretch of k children on each side, with n new ones in place of
-- from..to
abbrev pub wanted : List Tree → ℕ → ℕ → ℕ → ℕ → ℕ
wanted xs from to n k = n + count (forest (slice_range xs (left_of from k) from)) + count (forest (slice_range xs to (right_of xs to k)))

-- how many numbers there are for the nodes of that stretch
abbrev pub room : Head → List Tree → ℕ → ℕ → ℕ → ℕ
room h xs from to k = end_of h xs (right_of xs to k) - start_of h xs (left_of from k)

-- whether that stretch has a number for each of its nodes
abbrev pub has_room : Head → List Tree → ℕ → ℕ → ℕ → ℕ → Bool
has_room h xs from to n k = nat_le (wanted xs from to n k) (room h xs from to k)

-- k children on each side are all that there are
abbrev pub is_all : List Tree → ℕ → ℕ → ℕ → Bool
is_all xs from to k = nat_le from k && nat_le (length xs) (to + k)

-- by how many children on each side the stretch grows until there is room: 0, 1, 2, 4 and so on,
-- until it has all. One try more than there are children is always enough
abbrev pub growth : Head → List Tree → ℕ → ℕ → ℕ → ℕ → ℕ → Option ℕ
growth h xs from to n zero k = None
growth h xs from to n (suc tries) k =
    if has_room h xs from to n k then Some k else (if is_all xs from to k then None else growth h xs from to n tries (max 1 (2 * k)))

-- the children that are numbered again, and their numbers' start and stride
abbrev pub stretch : Head → List Tree → ℕ → ℕ → ℕ → ℕ → Stretch
stretch h xs from to n k = record {
  left = left_of from k;
  right = right_of xs to k;
  start = start_of h xs (left_of from k);
  stride = stride (room h xs from to k) (wanted xs from to n k);
}

-- the first of the stretches that `growth` tries that has room, as it is numbered again
abbrev pub fit : Head → List Tree → ℕ → ℕ → ℕ → Option Stretch
fit h xs from to n = option_map (stretch h xs from to n) (growth h xs from to n (length xs + 1) 0)

-- the stretch is around from..to, and has room for the numbers of its nodes
pub record IsFit (xs : List Tree) (from to n : ℕ) (w : Stretch) : Type 0 where
  pub before : w.left ≤ from
  pub behind : to ≤ w.right
  pub within : w.right ≤ length xs
  pub low : 2 ≤ w.start
  pub step : 0 < w.stride
  pub fits : w.start + (n + count (forest (slice_range xs w.left from)) + count (forest (slice_range xs to w.right))) * w.stride ≤ 2 ^ 47

-- the children xs with ns in place of from..to, where those of the stretch are numbered again
abbrev pub renumbered : ℕ → List Tree → ℕ → ℕ → List Tree → Stretch → List Tree
renumbered file xs from to ns w =
    take w.left xs ++ (numbered_list file w.stride w.start (slice_range xs w.left from ++ (ns ++ slice_range xs to w.right)) ++ drop w.right xs)

-- the children with new ones in place of from..to, numbered again if there is room. Without new
-- children no number is needed
abbrev pub exchanged : ℕ → Head → List Tree → ℕ → ℕ → List Tree → Option (List Tree)
exchanged file h xs from to [] = Some (take from xs ++ drop to xs)
exchanged file h xs from to (n ∷ ns) = option_map (renumbered file xs from to (n ∷ ns)) (fit h xs from to (count (forest (n ∷ ns))))

-- a list without its first a and its last b elements
abbrev pub middle : ℕ → ℕ → List Tree → List Tree
middle a b xs = take (length xs - a - b) (drop a xs)

-- how many of the trees old and new are set aside at the end, where a are at the front
abbrev pub back : ℕ → List Tree → List Tree → ℕ
back a old new = front (reverse (drop a old)) (reverse (drop a new))

-- the children with `new` in place of from..to, after equal nodes at the front and then at the end
-- of old and new children are set aside
abbrev pub swapped : ℕ → Head → List Tree → ℕ → ℕ → List Tree → List Tree → Option (List Tree)
swapped file h xs from to old new =
    let a = front old new in let b = back a old new in exchanged file h xs (from + a) (to - b) (middle a b new)

-- the children of a node of a file with `new` in place of from..to. A node without a file takes no
-- child
abbrev pub in_file : SpanValue → Head → List Tree → ℕ → ℕ → List Tree → Option (List Tree)
in_file None h xs from to new = None
in_file (Some p) h xs from to new = swapped p.0 h xs from to (slice_range xs from to) new

-- the node with new children in place of from..to
abbrev pub replaced : ℕ → ℕ → List Tree → Tree → Option Tree
replaced from to new t = option_map (with_kids t) (in_file t.head.span t.head (kids_of t) from to new)

-- the tree with new children in place of from..to of the node that the path leads to
abbrev pub replaced_at : List ℕ → ℕ → ℕ → List Tree → Tree → Option Tree
replaced_at [] from to new t = replaced from to new t
replaced_at (i ∷ path) from to new t =
    option_map (λ k. with_kids t (slice_set (kids_of t) i k)) (option_and_then (replaced_at path from to new) (slice_get (kids_of t) i))

-- the node that the path leads to
abbrev pub node_at : List ℕ → Tree → Option Tree
node_at [] t = Some t
node_at (i ∷ path) t = option_and_then (node_at path) (slice_get (kids_of t) i)

-- the tree with the node u where the path leads to
abbrev pub put_at : List ℕ → Tree → Tree → Option Tree
put_at [] u t = Some u
put_at (i ∷ path) u t = option_map (λ k. with_kids t (slice_set (kids_of t) i k)) (option_and_then (put_at path u) (slice_get (kids_of t) i))

-- the length of a tree's text, how many nodes it has, and whether one has a diagnostic
pub record ComesTo (t : Tree) (n : Counts) : Type 0 where
  pub len : n.len ≡ saturated (length (text_of t))
  pub nodes : n.nodes ≡ saturated (nodes t)
  pub mark : n.is_marked ≡ has_diagnostics t

-- one of the trees has a diagnostic, the one at i left out
abbrev pub have_others : ℕ → List Tree → Bool
have_others i xs = have_diagnostics (forest (take i xs)) || have_diagnostics (forest (drop (i + 1) xs))

-- one level above n levels, or the first one if there is something
abbrev pub levels_above : Bool → ℕ → ℕ
levels_above b zero = if b then 1 else 0
levels_above b (suc n) = suc (suc n)

-- how many nodes on a path have a diagnostic, at them or below them, that isn't in the node at the
-- path's end. They are the first ones
abbrev pub marked_levels : List ℕ → Tree → ℕ
marked_levels [] t = 0
marked_levels (i ∷ path) t =
    unwrap_or (option_map (λ k. levels_above (has_any t.head.diagnostics || have_others i (kids_of t)) (marked_levels path k)) (slice_get (kids_of t) i)) 0

-- there is a tree, and P holds of it
abbrev pub At : (Tree → Type 0) → Option Tree → Type 0
At P None = ⊥
At P (Some t) = P t

-- the path leads to an inner node that has children from..to
abbrev pub Reaches : List ℕ → ℕ → ℕ → Tree → Type 0
Reaches [] from to t = IsTrue t.head.is_inner × (from ≤ to) × (to ≤ length (kids_of t))
Reaches (i ∷ path) from to t = At (Reaches path from to) (slice_get (kids_of t) i)
