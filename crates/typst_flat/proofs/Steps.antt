-- The steps of a walk.
use Rattle.typst_flat.proofs.Cited.{◌≡◌, ℕ, zero, suc, ◌+◌, ◌-◌, ◌^◌, ◌<◌, ◌≤◌, true, false, List, [], ◌∷◌, ◌++◌, length, take, map, Option, None, Some, refl, ap, sym, subst, ◌∙◌, arith, get_or, set, length-append, reverse, reverse-append, take_all, take_more, take_more_set, filter, Head, Forest, none, more, Tree, count, nodes, places, preorder, saturated, numbers, texts, At, at, node_of, offset_of, parent, children, left, length_places, length_preorder, tree_of, Stand, here, below, behind, alone, numbers_from, number_if, meets, RowStands, IsReady, IsAt, ahead_from, up_number, Stretch, Row}
use Rattle.std.proofs.Math.ListN.{length-set}
use Rattle.std.specs.Option.{option_map}
use Rattle.typst_flat.proofs.Passed.{outside, passed_over}

-- trees that stand side by side end before the tree's nodes do
pub within_nodes : (root : Tree) (k : ℕ) (f : Forest) (front back : List Tree) (up : Option ℕ) → Stand root k f front back up → k + count f ≤ nodes root
within_nodes root k f front back up s =
    omega (arith, s.number, length_places root, ap length s.whole, length-append front (preorder f ++ back), length-append (preorder f) back, length_preorder f)

-- how many nodes the first of some trees has
first_size : (root : Tree) (n : ℕ) (h : Head) (ks r : Forest) (front back : List Tree) (up : Option ℕ) → Stand root n (more h ks r) front back up → nodes (node_of (at root n)) ≡ 1 + count ks
first_size root n h ks r front back up s = ap nodes (here root n (tree_of h ks) front _ s.whole s.number)

size_here : (root : Tree) (n above : ℕ) (ws : List Row) → (c : IsAt root n above ws) → nodes (node_of (at root n)) ≡ 1 + count c.kids
size_here root n above ws c = first_size root n c.head c.kids c.later c.front c.back c.up c.stands

-- the node at hand is one of the tree, with all that is below it
pub within : (root : Tree) (n above : ℕ) (ws : List Row) → IsAt root n above ws → n + nodes (node_of (at root n)) ≤ nodes root
within root n above ws c =
    omega (arith, size_here root n above ws c, within_nodes root n (more c.head c.kids c.later) c.front c.back c.up c.stands)

pub some_nodes : (root : Tree) (n above : ℕ) (ws : List Row) → IsAt root n above ws → 0 < nodes (node_of (at root n))
some_nodes root n above ws c = omega (arith, size_here root n above ws c)

-- at the root nothing is left but all
pub begun : (root : Tree) (n : ℕ) (ws : List Row) → n ≡ 0 → ws ≡ [] → IsReady root n (reverse ws)
begun root n ws z e = grind arith

-- a row without nodes is done
none_row : (root : Tree) (n : ℕ) (f : Forest) → map (at root) (numbers n f) ≡ [] → count f ≡ 0
none_row root n none e = refl
none_row root n (more h ks r) e = absurd (cc)

pub closed : (root : Tree) (n : ℕ) (w : Row) (ws : List Row) → IsReady root n (w ∷ ws) → left w.nodes ≡ [] → IsReady root n ws
closed root n w ws ready e = grind (arith, none_row)

-- the first node of a row
taken_from : (root : Tree) (n : ℕ) (f : Forest) (front back : List Tree) (w v : Row) (ws : List Row) (child : At) → Stand root n f front back (Some w.parent) → left w.nodes ≡ map (at root) (numbers n f) → 0 < n → IsReady root (n + count f) ws → left w.nodes ≡ child ∷ left v.nodes → v.parent ≡ w.parent → (child ≡ at root n) × IsAt root n w.parent (v ∷ ws)
taken_from root n none front back w v ws child s e h ready f g = absurd (let wrong : [] ≡ child ∷ left v.nodes = sym e ∙ f in cc)
taken_from root n (more hd ks r) front back w v ws child s e h ready f g =
    let first : child ≡ at root n = cc in
    let number : n + 1 + count ks ≡ n + (1 + count ks) = omega arith in
    let rest : left v.nodes ≡ map (at root) (numbers (n + 1 + count ks) r) = cc in
    let next : n + (1 + count ks) ≡ n + nodes (node_of (at root n)) = omega (arith, first_size root n hd ks r front back (Some w.parent) s) in
    let total : n + count (more hd ks r) ≡ n + (1 + count ks) + count r = omega arith in
    let moved : Stand root (n + (1 + count ks)) r (front ++ places (tree_of hd ks)) back (Some v.parent) = subst (λ p. Stand root (n + (1 + count ks)) r (front ++ places (tree_of hd ks)) back (Some p)) (sym g) (behind root n hd ks r front back (Some w.parent) s) in
    let here_row : RowStands root (n + (1 + count ks)) v = record { trees = r; front = front ++ places (tree_of hd ks); back = back; stands = moved; row = rest ∙ ap (λ m. map (at root) (numbers m r)) number; begun = omega arith } in
    let all : IsReady root (n + (1 + count ks)) (v ∷ ws) = (here_row, subst (λ m. IsReady root m ws) total ready) in
    (first, record { head = hd; kids = ks; later = r; front = front; back = back; up = Some w.parent; stands = s; above_is = refl; ready = subst (λ m. IsReady root m (v ∷ ws)) next all })

pub taken : (root : Tree) (n : ℕ) (w v : Row) (ws : List Row) (child : At) → IsReady root n (w ∷ ws) → left w.nodes ≡ child ∷ left v.nodes → v.parent ≡ w.parent → (child ≡ at root n) × IsAt root n w.parent (v ∷ ws)
taken root n w v ws child ready e g =
    taken_from root n ready.0.trees ready.0.front ready.0.back w v ws child ready.0.stands ready.0.row ready.0.begun ready.1 e g

-- the root is at hand
root_at : (root : Tree) → IsAt root 0 0 []
root_at root =
    let size : 0 + nodes (node_of (at root 0)) ≡ nodes root = omega (arith, first_size root 0 root.head root.kids none [] [] None (alone root)) in
    record { head = root.head; kids = root.kids; later = none; front = []; back = []; up = None; stands = alone root; above_is = refl; ready = λ h. size }

pub root_taken : (root : Tree) (n : ℕ) (ws : List Row) → n ≡ 0 → IsReady root n ws → IsAt root n 0 ws
root_taken root n [] z ready = subst (λ m. IsAt root m 0 []) (sym z) (root_at root)
root_taken root n (w ∷ ws) z ready = absurd (omega (arith, z, ready.0.begun))

-- the walk goes on with a node's children
pub entered : (root : Tree) (n above : ℕ) (w : Row) (ws : List Row) (a : At) → IsAt root n above ws → a ≡ at root n → left w.nodes ≡ children a → w.parent ≡ n → IsReady root (n + 1) (w ∷ ws)
entered root n above w ws a c e f g =
    let front : List Tree = c.front ++ tree_of c.head c.kids ∷ [] in
    let back : List Tree = preorder c.later ++ c.back in
    let stands : Stand root (n + 1) c.kids front back (Some w.parent) = subst (λ p. Stand root (n + 1) c.kids front back (Some p)) (sym g) (below root n c.head c.kids c.later c.front c.back c.up c.stands) in
    let is : node_of (at root n) ≡ tree_of c.head c.kids = here root n (tree_of c.head c.kids) c.front _ c.stands.whole c.stands.number in
    let here_row : left w.nodes ≡ map (at root) (numbers (n + 1) c.kids) = f ∙ (ap children e ∙ ap (λ t. map (at root) (numbers (n + 1) t.kids)) is) in
    let total : n + nodes (node_of (at root n)) ≡ n + 1 + count c.kids = omega (arith, size_here root n above ws c) in
    (record { trees = c.kids; front = front; back = back; stands = stands; row = here_row; begun = omega arith }, subst (λ m. IsReady root m ws) total c.ready)

pub up_of : (root : Tree) (up : Option ℕ) → number_if (option_map (at root) up) ≡ up_number up
up_of root up = grind arith

-- the parent of the node at hand
pub parent_is : (root : Tree) (n above : ℕ) (ws : List Row) → IsAt root n above ws → above ≡ number_if (parent (at root n))
parent_is root n above ws c = grind arith

-- of a node that doesn't meet the stretch nothing is left, nor of what is below it
pub skipped : (s : Stretch) (root : Tree) (n above : ℕ) (ws : List Row) → IsAt root n above ws → meets s (at root n) ≡ false → ahead_from s root n ≡ ahead_from s root (n + nodes (node_of (at root n)))
skipped s root n above ws c e =
    let many : ℕ = nodes (node_of (at root n)) in
    let size : many ≡ 1 + count c.kids = size_here root n above ws c in
    let most : n + many ≤ nodes root = within root n above ws c in
    let whole : nodes root - n ≡ many + (nodes root - (n + many)) = omega (arith, most) in
    ap (λ k. filter (meets s) (map (at root) (numbers_from n k))) whole
    ∙ passed_over s root n many (nodes root - (n + many)) (λ j l m. outside s root n c.head c.kids c.later c.front c.back c.up c.stands e j l (omega (arith, m, size)))

-- a node that meets it comes first
pub came : (s : Stretch) (root : Tree) (n above : ℕ) (ws : List Row) → IsAt root n above ws → meets s (at root n) ≡ true → ahead_from s root n ≡ at root n ∷ ahead_from s root (n + 1)
came s root n above ws c e = let most : n + nodes (node_of (at root n)) ≤ nodes root = within root n above ws c in grind arith

-- what is before a number is no longer than what is before a later one
before_more : (n m : ℕ) (xs : List Tree) → n ≤ m → length (texts (take n xs)) ≤ length (texts (take m xs))
before_more zero m xs h = omega arith
before_more (suc n) m [] h = omega arith
before_more (suc n) zero (x ∷ xs) h = absurd (omega (arith, h))
before_more (suc n) (suc m) (x ∷ xs) h =
    omega (arith, before_more n m xs (omega (arith, h)), length-append x.head.text (texts (take n xs)), length-append x.head.text (texts (take m xs)))

-- from a node on that begins behind the stretch, none meets it
pub beyond : (s : Stretch) (root : Tree) (n : ℕ) → s.end < offset_of (at root n) → ahead_from s root n ≡ []
beyond s root n h =
    let many : ℕ = nodes root - n in
    let all : many ≡ many + 0 = omega arith in
    grind (arith, passed_over, before_more)

-- a node without children is passed
pub entered_leaf : (root : Tree) (n above d : ℕ) (ws : List Row) (t : Tree) (a : At) → IsAt root n above ws → t ≡ node_of a → a ≡ at root n → d ≡ saturated (nodes t) → d ≤ 1 → IsReady root (n + 1) ws
entered_leaf root n above d ws t a c e f g l = grind arith

-- behind the last number is nothing
pub ended : (s : Stretch) (root : Tree) (n : ℕ) → n ≡ nodes root → ahead_from s root n ≡ []
ended s root n e =
    let nothing : nodes root - n ≡ 0 = omega (arith, e) in
    ap (λ k. filter (meets s) (map (at root) (numbers_from n k))) nothing

-- the rows when the innermost was taken out
popped : (root : Tree) (n : ℕ) (old new : List Row) (w : Row) → IsReady root n (reverse old) → old ≡ new ++ w ∷ [] → IsReady root n (w ∷ reverse new)
popped root n old new w ready e = subst (IsReady root n) (ap reverse e ∙ reverse-append new (w ∷ [])) ready

pub closed_row : (root : Tree) (n : ℕ) (old new : List Row) (w : Row) → IsReady root n (reverse old) → old ≡ new ++ w ∷ [] → left w.nodes ≡ [] → IsReady root n (reverse new)
closed_row root n old new w ready e f = closed root n w (reverse new) (popped root n old new w ready e) f

pub taken_row : (root : Tree) (n : ℕ) (old new pushed : List Row) (w v : Row) (child : At) → IsReady root n (reverse old) → old ≡ new ++ w ∷ [] → pushed ≡ new ++ v ∷ [] → left w.nodes ≡ child ∷ left v.nodes → v.parent ≡ w.parent → (child ≡ at root n) × IsAt root n w.parent (reverse pushed)
taken_row root n old new pushed w v child ready e f g h = grind (arith, taken root n w v (reverse new) child (popped root n old new w ready e) g h, reverse-append)

pub entered_row : (root : Tree) (n above : ℕ) (old pushed : List Row) (w : Row) (a : At) → IsAt root n above (reverse old) → a ≡ at root n → left w.nodes ≡ children a → w.parent ≡ n → pushed ≡ old ++ w ∷ [] → IsReady root (n + 1) (reverse pushed)
entered_row root n above old pushed w a c e f g h =
    subst (IsReady root (n + 1)) (sym (ap reverse h ∙ reverse-append old (w ∷ []))) (entered root n above w (reverse old) a c e f g)

-- the last of some rows
pub last_row : (rs : List Row) (n : ℕ) (w : Row) → length rs ≡ n + 1 → w ≡ get_or rs n w → rs ≡ take n rs ++ w ∷ []
last_row rs n w e f = sym (take_all (n + 1) rs (omega arith)) ∙ (take_more rs n w (omega arith) ∙ ap (λ x. take n rs ++ x ∷ []) (sym f))

-- another one in its place
pub set_last : (rs : List Row) (n : ℕ) (v : Row) → length rs ≡ n + 1 → set rs n v ≡ take n rs ++ v ∷ []
set_last rs n v e = sym (take_all (n + 1) (set rs n v) (omega (arith, e, length-set rs n v))) ∙ take_more_set rs n v (omega arith)

-- how many nodes the node at hand says that it has
pub size_told : (root : Tree) (n above d : ℕ) (ws : List Row) (t : Tree) (a : At) → IsAt root n above ws → t ≡ node_of a → a ≡ at root n → d ≡ saturated (nodes t) → nodes root < 2 ^ 64 - 1 → d ≡ nodes (node_of (at root n))
size_told root n above d ws t a c e f g l =
    let same : nodes t ≡ nodes (node_of (at root n)) = ap nodes (e ∙ ap node_of f) in
    omega (arith, same, g, l, within root n above ws c)

pub ready_along : (root r : Tree) (n m : ℕ) (ws : List Row) → root ≡ r → n ≡ m → IsReady root n ws → IsReady r m ws
ready_along root r n m ws e f ready = subst (λ t. IsReady t m ws) e (subst (λ k. IsReady root k ws) f ready)
