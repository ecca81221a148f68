-- Steps up from a node.
use Rattle.typst_tree.proofs.Cited.{common_steps, ◌≡◌, ℕ, zero, suc, ◌+◌, ◌-◌, ◌^◌, ◌<◌, ◌≤◌, List, ◌∷◌, ◌++◌, true, false, length, take, drop, Option, Some, None, refl, ap, sym, subst, ◌∙◌, arith, append_assoc, length-append, get_or, rules, [], drop-append_seam, drop-append-add, nat_tests, Tree, trees, nodes, places, forest, count, preorder, first_at, last_leaf, is_leaf_from, if_none, Stands, IsChild, IsFork, IsAbove, leaf_after, leaf_until, reach_of, index_of, linked, LinkedNode, nat_le, find}
use Rattle.std.proofs.lemmas.List.{drop-append-le, length-drop}
use Rattle.typst_tree.proofs.LastLeaf.{last_append, last_none, preorder_split}
use Rattle.typst_tree.proofs.SpansAside.{forest_trees}
use Rattle.typst_tree.proofs.Siblings.{find_behind}
use Rattle.std.specs.Option.{option_map, option_or}
use Rattle.typst_tree.proofs.Rows.{Beside, beside, Over, here_in, over_at}
use Rattle.typst_tree.specs.declared.known.Reach.TheVariants as reach
use Rattle.typst_tree.proofs.Forks.{Tops, tops}
use Rattle.typst_tree.specs.Steps.{At, at, children, is_sibling_after, parent, first_below, start_of, node_of, next_leaf}
use Rattle.typst_tree.specs.declared.linked.Above.{Above}
use Rattle.typst_tree.proofs.WalksInPreorder.{first_append, length_places, length_preorder}
use Rattle.typst_tree.proofs.NodesOfStretch.{node_here, same_node, standing, stands_whole}
use Rattle.typst_tree.proofs.Parents.{parent_is, none_from}
use Rattle.typst_tree.proofs.LastFrom.{last_all}

pub above_is : (a : LinkedNode) (b : Above) → IsAbove a b → Some (linked b.parent) ≡ parent (linked a)
above_is a b w = cc (parent_is b.parent.root.now b.parent.node.now b.parent.number b.parent.offset a.node.now a.number b.index b.parent.stands w.child)

pub no_parent : (a : LinkedNode) → a.number ≡ 0 → None ≡ parent (linked a)
no_parent a e = ap (option_map (at a.root.now)) (sym (none_from a.number 0 0 (places a.root.now) (omega (arith, e))))

-- a node stands in its tree, however that is named
pub stands_in : (a : LinkedNode) {r : Tree} → a.root.now ≡ r → Stands (places r) a.number a.offset (places a.node.now)
stands_in a e = subst (λ r. Stands (places r) a.number a.offset (places a.node.now)) e a.stands

-- the tree of the first long row that a node is or is below, where its place is known
pub tops_of : (a o : LinkedNode) (xs : List Tree) (x : Tree) → o.root.now ≡ a.root.now → reach_of a.known ≡ reach.Placed → IsFork a.root.now a.number o.node.now o.number → forest xs ≡ o.node.now.kids → x ≡ get_or xs (index_of a.known) x → a.offset < 2 ^ 64 - 1 → Tops a.root.now o.node.now o.number a.number a.offset (nodes a.node.now) a.known x
tops_of a o xs x root e f g at small = search (rules, tops, stands_in)

-- the first leaf from a number on, where some trees begin there
leaf_free : (n a b : ℕ) (k j : ℕ) (xs : List Tree) → k ≤ n → j ≤ n → first_at (is_leaf_from k) n a xs ≡ first_at (is_leaf_from j) n b xs
leaf_free n a b k j [] h l = refl
leaf_free n a b k j (x ∷ xs) h l =
    let first : nat_le k n ≡ true = grind (arith, nat_tests, h) in
    let second : nat_le j n ≡ true = grind (arith, nat_tests, l) in
    rw (first, second, leaf_free (n + 1) (a + length x.head.text) (b + length x.head.text) k j xs (omega (arith, h)) (omega (arith, l))) refl

-- leaves are looked for from the number k on: what stands before it doesn't count
pub leaf_drop : (k n a m : ℕ) (xs : List Tree) → k ≡ n + m → m ≤ length xs → first_at (is_leaf_from k) n a xs ≡ first_at (is_leaf_from 0) k 0 (drop m xs)
leaf_drop k n a zero xs e h = let same : n ≡ k = omega (arith, e) in grind (arith, leaf_free)
leaf_drop k n a (suc m) [] e h = absurd (omega (arith, h))
leaf_drop k n a (suc m) (x ∷ xs) e h =
    let fails : nat_le k n ≡ false = grind (arith, nat_tests, e) in
    rw fails (leaf_drop k (n + 1) (a + length x.head.text) m xs (omega (arith, e)) (omega (arith, h)))

pub leaf_split : (k : ℕ) (xs ys zs : List Tree) → xs ≡ ys ++ zs → first_at (is_leaf_from 0) k 0 xs ≡ if_none (first_at (is_leaf_from 0) k 0 ys) (first_at (is_leaf_from 0) (k + length ys) 0 zs)
leaf_split k xs ys zs e = grind (arith, first_append, leaf_free)

-- the nodes from a number on that is within some trees' nodes
cut_within : (xs : List Tree) (k b d m : ℕ) (ys : List Tree) → Stands xs k b ys → d ≤ length ys → m ≡ k + length ys → drop (k + d) xs ≡ drop d ys ++ drop m xs
cut_within xs k b d m ys s l e =
    let w = standing xs k b ys s in
    grind (arith, common_steps, length-append, append_assoc, drop-append_seam, drop-append-add, drop-append-le)

-- of the leaves from a number on, those below a node come before those behind it
pub leaf_within : (b : LinkedNode) (k m : ℕ) → b.number ≤ k → k ≤ b.number + nodes b.node.now → m ≡ b.number + nodes b.node.now → leaf_after b.root.now k ≡ option_map (at b.root.now) (if_none (first_at (is_leaf_from k) b.number (start_of (linked b)) (places b.node.now)) (first_at (is_leaf_from 0) m 0 (drop m (places b.root.now))))
leaf_within b k m l h e =
    let there : k ≡ b.number + (k - b.number) = omega (arith, l) in
    let short : k - b.number ≤ length (places b.node.now) = omega (arith, l, h, length_places b.node.now) in
    let end : m ≡ b.number + length (places b.node.now) = omega (arith, e, length_places b.node.now) in
    let rest : drop k (places b.root.now) ≡ drop (k - b.number) (places b.node.now) ++ drop m (places b.root.now) =
    ap (λ j. drop j (places b.root.now)) there ∙ cut_within (places b.root.now) b.number b.offset (k - b.number) m (places b.node.now) b.stands short end in
    let behind : k + length (drop (k - b.number) (places b.node.now)) ≡ m = omega (arith, end, there, short, length-drop (k - b.number) (places b.node.now)) in
    ap (option_map (at b.root.now)) (leaf_split k (drop k (places b.root.now)) (drop (k - b.number) (places b.node.now)) (drop m (places b.root.now)) rest
    ∙ (ap (λ o. if_none o (first_at (is_leaf_from 0) (k + length (drop (k - b.number) (places b.node.now))) 0 (drop m (places b.root.now)))) (sym (leaf_drop k b.number (start_of (linked b)) (k - b.number) (places b.node.now) there short))
    ∙ ap (λ j. if_none (first_at (is_leaf_from k) b.number (start_of (linked b)) (places b.node.now)) (first_at (is_leaf_from 0) j 0 (drop m (places b.root.now)))) behind))

-- the next leaf is the first one behind the node
pub next_is : (a : LinkedNode) (k : ℕ) → k ≡ a.number + nodes a.node.now → next_leaf (linked a) ≡ leaf_after a.root.now k
next_is a k e =
    let end : a.number + nodes (node_of (linked a)) ≡ k = omega (arith, e, ap nodes (node_here a.root.now a.number a.offset a.node.now a.stands)) in
    ap (λ j. option_map (at a.root.now) (first_at (is_leaf_from j) 0 0 (places a.root.now))) end
    ∙ ap (option_map (at a.root.now)) (leaf_drop k 0 0 k (places a.root.now) (omega arith) (omega (arith, e, a.stands.within, length_places a.node.now)))

-- and so is the search for a leaf from a number on
pub leaf_from_root : (root : Tree) (k : ℕ) → k ≤ nodes root → option_map (at root) (first_at (is_leaf_from k) 0 0 (places root)) ≡ leaf_after root k
leaf_from_root root k h = ap (option_map (at root)) (leaf_drop k 0 0 k (places root) (omega arith) (omega (arith, h, length_places root)))

pub root_node : (a : LinkedNode) → a.number ≡ 0 → a.node.now ≡ a.root.now
root_node a z = same_node (places a.root.now) a.number 0 a.offset 0 a.node.now a.root.now z a.stands (stands_whole a.root.now)

pub room : (a : LinkedNode) → a.number + nodes a.node.now < 2 ^ 64 - 1
room a = omega (arith, a.stands.within, length_places a.node.now, length_places a.root.now, a.counted)

-- a node's number is below the count of its tree's nodes
pub inside_root : (a : LinkedNode) → a.number < nodes a.root.now
inside_root a = omega (arith, a.stands.within, length_places a.node.now, length_places a.root.now)

pub inside_top : (a t : LinkedNode) → t.root.now ≡ a.root.now → t.number ≡ 0 → a.number < t.number + nodes t.node.now
inside_top a t root z = omega (arith, z, ap nodes (root_node t z ∙ root), inside_root a)

pub beside_of : (a : LinkedNode) (b : Above) (xs : List Tree) → IsAbove a b → forest xs ≡ b.parent.node.now.kids → Beside a.root.now b.parent.node.now b.parent.number b.parent.offset a.node.now a.number a.offset b.index xs
beside_of a b xs w e =
    beside a.root.now b.parent.node.now b.parent.number b.parent.offset a.node.now a.number a.offset b.index xs e (stands_in b.parent w.root) w.child a.stands

-- the siblings before a node are passed over, and the node is the next
pub over_above : (a : LinkedNode) (b : Above) (xs : List Tree) → IsAbove a b → forest xs ≡ b.parent.node.now.kids → Over b.parent.node.now b.parent.number b.parent.offset xs b.index a.number a.offset a.node.now
over_above a b xs w e =
    let s = beside_of a b xs w e in
    over_at b.parent.node.now b.parent.number b.parent.offset xs b.index a.number a.offset a.node.now e (here_in _ _ _ _ _ xs e w.child)
    (record { within = omega (arith, s.within); number = s.number; offset = omega (arith, s.start, a.stands.begins) })

map_some : (f : ℕ → At) (x y : Option ℕ) (a : At) → Some a ≡ option_map f x → option_map f (if_none x y) ≡ Some a
map_some f x y a e = grind arith

map_none : (f : ℕ → At) (x y : Option ℕ) → None ≡ option_map f x → option_map f (if_none x y) ≡ option_map f y
map_none f x y e = grind arith

leaf_here : (b : LinkedNode) (k : ℕ) → first_below (is_leaf_from k) (linked b) ≡ option_map (at b.root.now) (first_at (is_leaf_from k) b.number (start_of (linked b)) (places b.node.now))
leaf_here b k =
    ap (λ t. option_map (at b.root.now) (first_at (is_leaf_from k) b.number (start_of (linked b)) (places t))) (node_here b.root.now b.number b.offset b.node.now b.stands)

-- what is found within a node comes before what is behind it
pub leaf_found : (b : LinkedNode) (k : ℕ) (a : At) → b.number ≤ k → k ≤ b.number + nodes b.node.now → Some a ≡ first_below (is_leaf_from k) (linked b) → leaf_after b.root.now k ≡ Some a
leaf_found b k a l h e =
    leaf_within b k (b.number + nodes b.node.now) l h refl
    ∙ map_some (at b.root.now) _ _ a (e ∙ leaf_here b k)

pub leaf_not_found : (b : LinkedNode) (k : ℕ) → b.number ≤ k → k ≤ b.number + nodes b.node.now → None ≡ first_below (is_leaf_from k) (linked b) → leaf_after b.root.now k ≡ leaf_after b.root.now (b.number + nodes b.node.now)
leaf_not_found b k l h e =
    leaf_within b k (b.number + nodes b.node.now) l h refl
    ∙ map_none (at b.root.now) _ _ (e ∙ leaf_here b k)

if_none_right : (x y z : Option ℕ) → x ≡ None → y ≡ z → if_none x y ≡ z
if_none_right x y z e f = ap (λ o. if_none o y) e ∙ f

-- the leaves before a number within a row come after those before the row
pub until_within : (xs : List Tree) (k b m : ℕ) (ys : List Tree) → Stands xs k b ys → k ≤ m → m ≤ k + length ys → last_leaf m 0 xs ≡ if_none (last_leaf m k ys) (last_leaf k 0 xs)
until_within xs k b m ys s l h = let w = standing xs k b ys s in grind (arith, last_append, if_none_right, last_none, last_all)

map_or : (f : ℕ → At) (x y : Option ℕ) → option_map f (if_none x y) ≡ option_or (option_map f x) (option_map f y)
map_or f x y = grind arith

pub until_here : (b : LinkedNode) (m : ℕ) (o : Option ℕ) → b.number ≤ m → m ≤ b.number + nodes b.node.now → o ≡ last_leaf m b.number (places b.node.now) → leaf_until b.root.now m ≡ option_or (option_map (at b.root.now) o) (leaf_until b.root.now b.number)
until_here b m o l h e =
    ap (option_map (at b.root.now)) (until_within (places b.root.now) b.number b.offset m (places b.node.now) b.stands l (omega (arith, h, length_places b.node.now)) ∙ ap (λ x. if_none x (last_leaf b.number 0 (places b.root.now))) (sym e))
    ∙ map_or (at b.root.now) o (last_leaf b.number 0 (places b.root.now))

or_nothing : (x y : Option At) → y ≡ None → option_or x y ≡ x
or_nothing x y e = grind arith

-- before the root there is no leaf
pub until_top : (r : Option LinkedNode) (root t : Tree) (n z : ℕ) → t ≡ root → z ≡ 0 → leaf_until t n ≡ option_or (option_map linked r) (leaf_until t z) → option_map linked r ≡ leaf_until root n
until_top r root t n z e f w = grind (arith, or_nothing, last_none)

-- a loop over the children before one begins with those before it
pub until_row : (o : Tree) (n m i : ℕ) (xs : List Tree) → forest xs ≡ o.kids → m ≡ n + 1 + count (forest (take i xs)) → last_leaf m n (places o) ≡ last_leaf m n (o ∷ preorder (forest (take i xs)))
until_row o n m i xs e h =
    let rows : places o ≡ (o ∷ preorder (forest (take i xs))) ++ preorder (forest (drop i xs)) = ap (λ f. o ∷ preorder f) (sym e) ∙ ap (λ ys. o ∷ ys) (preorder_split i xs) in
    grind (arith, length_preorder, last_append, if_none_right, last_none)

pub none_alone : (o : Tree) (n m j : ℕ) (t : Tree) (k : ℕ) (xs : List Tree) {i : ℕ} → IsChild o n t m i → n < k → j ≡ 0 → last_leaf k n (o ∷ preorder (forest (take j xs))) ≡ None
none_alone o n m j t k xs {i} c l e = grind arith

-- the siblings up to a node aren't behind it
pub behind_above : (a : LinkedNode) (b : Above) → IsAbove a b → find (is_sibling_after (linked a)) (children (linked b.parent)) ≡ find (is_sibling_after (linked a)) (drop b.index (children (linked b.parent)))
behind_above a b w =
    let here : (node_of (linked b.parent)).kids ≡ forest (trees b.parent.node.now.kids) = ap (λ t. t.kids) (node_here b.parent.root.now b.parent.number b.parent.offset b.parent.node.now b.parent.stands) ∙ sym (forest_trees b.parent.node.now.kids) in
    grind (arith, beside_of, forest_trees, find_behind)
