-- Places between the children of a tree's root.
use Rattle.typst_tree.proofs.Cited.{◌≡◌, ℕ, ◌+◌, ◌-◌, ◌^◌, ◌<◌, ◌≤◌, List, ◌++◌, length, length-append, length-take-le, map, take, drop, get_or, ap, sym, ◌∙◌, arith, [], take-append-le, take-map, take-take, take_all, Tree, forest, trees, count, nodes, places, preorder, joined, text_of, saturated, bare, bare_forest, at, children, Stands, numbers, AreCounted, IsBoundary}
use Rattle.typst_tree.specs.declared.boundary.Boundary.{Boundary}
use Rattle.typst_tree.proofs.NodesOfStretch.{node_here, stands_whole}
use Rattle.typst_tree.proofs.Numbering.{count_bare, count_take, joined_bare}
use Rattle.typst_tree.proofs.ReplacesChildren.{start_le}
use Rattle.typst_tree.proofs.Rows.{index_counted, length_row, prior, row_stands, tree_at}
use Rattle.typst_tree.proofs.Siblings.{drop_numbers}
use Rattle.typst_tree.proofs.SpansAside.{forest_bare, forest_trees, lengths_from_bare, trees_forest}

-- the children as a list
pub kids_are : (root : Tree) (xs : List Tree) → forest xs ≡ root.kids → xs ≡ trees root.kids
kids_are root xs e = sym (trees_forest xs) ∙ ap trees e

-- ---- the ends

pub rear : (root : Tree) (xs : List Tree) (n len : ℕ) → AreCounted root → forest xs ≡ root.kids → n ≡ saturated (nodes root) → len ≡ saturated (length (text_of root)) → IsBoundary root (record { index = length xs; nodes = n - 1; bytes = len })
rear root xs n len counted e n_is len_is = grind (arith, length_row, take_all, forest_trees, length-append)

-- ---- steps

-- what is before the place after the next child
pub record Onward (root : Tree) (b : Boundary) (x : Tree) : Type 0 where
  pub counts : count (forest (take (b.index + 1) (trees root.kids))) ≡ b.nodes + nodes x
  pub lengths : length root.head.text + length (joined (forest (take (b.index + 1) (trees root.kids)))) ≡ b.bytes + length (text_of x)
  pub indexed : b.index + 1 < 2 ^ 64
  pub counted : b.nodes + nodes x < 2 ^ 64 - 1
  pub measured : b.bytes + length (text_of x) < 2 ^ 64

pub onward : (root : Tree) (b : Boundary) (xs : List Tree) (x : Tree) → AreCounted root → IsBoundary root b → b.index < length (trees root.kids) → forest xs ≡ root.kids → x ≡ get_or xs b.index x → Onward root b x
onward root b xs x fits is more e here =
    let got : x ≡ get_or (trees root.kids) b.index x = here ∙ ap (λ (us : List Tree). get_or us b.index x) (kids_are root xs e) in
    let all : count (forest (trees root.kids)) ≡ count root.kids = ap count (forest_trees root.kids) in
    let most : length root.head.text + length (joined (forest (take (b.index + 1) (trees root.kids)))) ≤ length (text_of root) = start_le [] (b.index + 1) root in
    grind (arith, tree_at (trees root.kids) b.index x got more, index_counted)

-- what is before the place before the last child before it
pub record Backward (root : Tree) (b : Boundary) (x : Tree) : Type 0 where
  pub counts : b.nodes ≡ count (forest (take (b.index - 1) (trees root.kids))) + nodes x
  pub lengths : b.bytes ≡ length root.head.text + length (joined (forest (take (b.index - 1) (trees root.kids)))) + length (text_of x)
  pub counted : nodes x < 2 ^ 64 - 1
  pub measured : length (text_of x) < 2 ^ 64

pub backward : (root : Tree) (b : Boundary) (xs : List Tree) (x : Tree) → AreCounted root → IsBoundary root b → 0 < b.index → forest xs ≡ root.kids → x ≡ get_or xs (b.index - 1) x → Backward root b x
backward root b xs x fits is some e here =
    let got : x ≡ get_or (trees root.kids) (b.index - 1) x = here ∙ ap (λ (us : List Tree). get_or us (b.index - 1) x) (kids_are root xs e) in
    let all : count (forest (trees root.kids)) ≡ count root.kids = ap count (forest_trees root.kids) in
    let most : length root.head.text + length (joined (forest (take b.index (trees root.kids)))) ≤ length (text_of root) = start_le [] b.index root in
    grind (arith, prior (trees root.kids) b.index x some is.within got, count_take)

-- ---- the children after a place

pub nodes_below : (root : Tree) (b : Boundary) → nodes root < 2 ^ 64 - 1 → IsBoundary root b → b.nodes + 1 < 2 ^ 64 - 1
nodes_below root b fits is = omega (arith, is.nodes, count_take (trees root.kids) b.index, ap count (forest_trees root.kids), fits)

pub stands_behind : (root : Tree) (b : Boundary) (xs ys : List Tree) → forest xs ≡ root.kids → ys ≡ drop b.index xs → b.bytes < 2 ^ 64 → IsBoundary root b → Stands (places root) (b.nodes + 1) b.bytes (preorder (forest ys))
stands_behind root b xs ys e rest fits is =
    let same : trees root.kids ≡ xs = sym (kids_are root xs e) in
    let number : b.nodes + 1 ≡ 0 + 1 + count (forest (take b.index xs)) = omega (arith, is.nodes, ap (λ (us : List Tree). count (forest (take b.index us))) same) in
    let offset : b.bytes ≡ saturated (0 + length root.head.text + length (joined (forest (take b.index xs)))) = omega (arith, fits, is.bytes, ap (λ (us : List Tree). length (joined (forest (take b.index us)))) same) in
    rw (number, offset, rest) (row_stands root root 0 0 b.index xs e (stands_whole root))

pub left_behind : (root : Tree) (b : Boundary) (xs ys : List Tree) → forest xs ≡ root.kids → ys ≡ drop b.index xs → IsBoundary root b → map (at root) (numbers (b.nodes + 1) (forest ys)) ≡ drop b.index (children (at root 0))
left_behind root b xs ys e rest is = grind (arith, kids_are, drop_numbers, node_here, stands_whole)

-- ---- trees that begin alike

-- a place among the first children is one of each tree that begins with these, spans aside
pub shared : (was now : Tree) (m : ℕ) (rest : List Tree) (b : Boundary) → length was.head.text ≡ length now.head.text → m ≤ length (trees was.kids) → map bare (trees now.kids) ≡ map bare (take m (trees was.kids) ++ rest) → b.index ≤ m → IsBoundary was b → IsBoundary now b
shared was now m rest b own within same low is =
    let front : length (take m (trees was.kids)) ≡ m = length-take-le m (trees was.kids) within in
    let long : length (trees now.kids) ≡ length (take m (trees was.kids) ++ rest) = lengths_from_bare (trees now.kids) (take m (trees was.kids) ++ rest) same in
    let first : map bare (take b.index (trees now.kids)) ≡ map bare (take b.index (trees was.kids)) =
    sym (take-map bare b.index (trees now.kids))
    ∙ (ap (λ (ts : List Tree). take b.index ts) same
    ∙ (take-map bare b.index (take m (trees was.kids) ++ rest)
    ∙ ap (λ (ts : List Tree). map bare ts) (take-append-le b.index (take m (trees was.kids)) rest (omega (arith, front, low)) ∙ take-take b.index m (trees was.kids) low))) in
    let alike : bare_forest (forest (take b.index (trees now.kids))) ≡ bare_forest (forest (take b.index (trees was.kids))) =
    sym (forest_bare (take b.index (trees now.kids))) ∙ (ap (λ (ts : List Tree). forest ts) first ∙ forest_bare (take b.index (trees was.kids))) in
    grind (arith, count_bare, joined_bare, length-append)
