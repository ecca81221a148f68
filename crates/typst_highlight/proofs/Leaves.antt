-- The leaves round a node.
use Rattle.typst_highlight.proofs.Cited.{◌≡◌, ℕ, ◌+◌, ◌<◌, ◌≤◌, Bool, true, false, List, [], ◌∷◌, ◌++◌, length, Option, None, Some, refl, ap, sym, ◌∙◌, arith, append_assoc, append-nil, length-append, cond, nat_le, option_and_then, option_map, nat_tests, SyntaxKind, Head, Forest, none, more, Tree, count, nodes, places, preorder, saturated, text_of, texts, first_at, if_none, last_leaf, is_leaf, is_leaf_from, texts_append, texts_places, none_between, Tag, Ahead, Trail, is_name, kind_if, described, name_tag, tree_of, first_ahead, first_leaf, last_append, last_none}
use Rattle.typst_tree.specs.Steps.{At, at, kind_of, offset_of, prev_leaf, next_leaf}
use Rattle.typst_highlight.proofs.Cases.{bool_cases}
use Rattle.typst_highlight.proofs.Rows.{Stand, here, starts, below, behind, parent_here, at_once, at_later, found_behind}
use Rattle.typst_tree.proofs.LastFrom.{last_all}

-- the test of a leaf that counts
abbrev pub any_leaf : ℕ → ℕ → Tree → Bool
any_leaf n a t = is_leaf t

-- the first leaf from the number k on, as a name sees it
abbrev pub ahead_at : Tree → ℕ → Option Ahead
ahead_at root k = option_map described (option_map (at root) (first_at (is_leaf_from k) 0 0 (places root)))

-- the tag of a leaf, if it is a name
abbrev pub own_name : At → Option Tag
own_name b = cond (is_name (kind_of b)) (name_tag (b.number + 1) b) None

-- the last leaves before the number k
abbrev pub trail_at : Tree → ℕ → Trail
trail_at root k = record {
  before = kind_if (prev_leaf (at root k));
  name = option_and_then own_name (prev_leaf (at root k));
  earlier = option_and_then own_name (option_and_then prev_leaf (prev_leaf (at root k)));
}

pub all_from : (k n a b : ℕ) (xs : List Tree) → k ≤ n → first_at (is_leaf_from k) n a xs ≡ first_at any_leaf n b xs
all_from k n a b [] h = refl
all_from k n a b (x ∷ xs) h =
    let holds : nat_le k n ≡ true = grind (arith, nat_tests, h) in
    rw (holds, all_from k (n + 1) (a + length x.head.text) (b + length x.head.text) xs (omega (arith, h))) refl

-- the first leaf behind the nodes before the number k
pub ahead_is : (root : Tree) (k : ℕ) (front rest : List Tree) → places root ≡ front ++ rest → k ≡ length front → ahead_at root k ≡ option_map described (option_map (at root) (first_at any_leaf k 0 rest))
ahead_is root k front rest e n =
    let nothing : first_at (is_leaf_from k) 0 0 front ≡ None = none_between (is_leaf_from k) 0 0 front (λ m b u l h. let fails : nat_le k m ≡ false = (let less : m < k = omega (arith, h, n) in grind (arith, nat_tests, less)) in rw fails refl) in
    ap (λ o. option_map described (option_map (at root) o))
    (found_behind (is_leaf_from k) root k front rest e n nothing ∙ all_from k k (length (texts front)) 0 rest (omega arith))

pub any_offset : (n a b : ℕ) (xs : List Tree) → first_at any_leaf n a xs ≡ first_at any_leaf n b xs
any_offset n a b [] = refl
any_offset n a b (x ∷ xs) = rw (any_offset (n + 1) (a + length x.head.text) (b + length x.head.text) xs) refl

-- where the node at k is no leaf, the first leaf is behind it
pub ahead_later : (root : Tree) (k : ℕ) (t : Tree) (front rest : List Tree) → places root ≡ front ++ (t ∷ rest) → k ≡ length front → is_leaf t ≡ false → ahead_at root k ≡ ahead_at root (k + 1)
ahead_later root k t front rest e n not_so =
    ahead_is root k front (t ∷ rest) e n
    ∙ (ap (λ o. option_map described (option_map (at root) o)) (at_later any_leaf k 0 t rest not_so ∙ any_offset (k + 1) (0 + length t.head.text) 0 rest)
    ∙ sym (ahead_is root (k + 1) (front ++ t ∷ []) rest (e ∙ simp append_assoc refl) (omega (arith, n, length-append front (t ∷ [])))))

pub ahead_here : (root : Tree) (k : ℕ) (t : Tree) (front rest : List Tree) → places root ≡ front ++ (t ∷ rest) → k ≡ length front → is_leaf t ≡ true → ahead_at root k ≡ Some (described (at root k))
ahead_here root k t front rest e n is_so =
    ahead_is root k front (t ∷ rest) e n ∙ ap (λ o. option_map described (option_map (at root) o)) (at_once any_leaf k 0 t rest is_so)

-- the kind of a node by its number, if there is one
abbrev pub kind_up : Tree → Option ℕ → Option SyntaxKind
kind_up root up = kind_if (option_map (at root) up)

pub ahead_assoc : (x y z : Option Ahead) → first_ahead (first_ahead x y) z ≡ first_ahead x (first_ahead y z)
ahead_assoc x y z = grind arith

-- the offset of the number k
pub offset_here : (root : Tree) (k : ℕ) (front rest : List Tree) → places root ≡ front ++ rest → k ≡ length front → offset_of (at root k) ≡ saturated (length (texts front))
offset_here root k front rest e n = ap saturated (starts root k front rest e n)

pub offset_below : (root : Tree) (k a : ℕ) (h : Head) (ks r : Forest) (front back : List Tree) (up : Option ℕ) → Stand root k (more h ks r) front back up → a ≡ offset_of (at root k) → saturated (a + length h.text) ≡ offset_of (at root (k + 1))
offset_below root k a h ks r front back up s e =
    let w = below root k h ks r front back up s in
    omega (arith, e, offset_here root k front _ s.whole s.number, offset_here root (k + 1) (front ++ tree_of h ks ∷ []) _ w.whole w.number, ap length (texts_append front (tree_of h ks ∷ [])), length-append (texts front) (texts (tree_of h ks ∷ [])), ap length (append-nil h.text))

pub offset_behind : (root : Tree) (k a : ℕ) (h : Head) (ks r : Forest) (front back : List Tree) (up : Option ℕ) → Stand root k (more h ks r) front back up → a ≡ offset_of (at root k) → saturated (a + length (text_of (tree_of h ks))) ≡ offset_of (at root (k + (1 + count ks)))
offset_behind root k a h ks r front back up s e =
    let w = behind root k h ks r front back up s in
    omega (arith, e, offset_here root k front _ s.whole s.number, offset_here root (k + (1 + count ks)) (front ++ places (tree_of h ks)) _ w.whole w.number, ap length (texts_append front (places (tree_of h ks))), length-append (texts front) (texts (places (tree_of h ks))), ap length (texts_places (tree_of h ks)))

-- the first leaf of the trees, or the first behind them
pub first_law : (root : Tree) (k a : ℕ) (f : Forest) (front back : List Tree) (up : Option ℕ) (p : Option SyntaxKind) → Stand root k f front back up → p ≡ kind_up root up → a ≡ offset_of (at root k) → first_ahead (first_leaf p a f) (ahead_at root (k + count f)) ≡ ahead_at root k
first_law root k a none front back up p s e o = ap (ahead_at root) (omega arith)
first_law root k a (more h ks r) front back up p s e o =
    let t : Tree = tree_of h ks in
    let kind : kind_of (at root k) ≡ h.kind = ap (λ u. u.head.kind) (here root k t front _ s.whole s.number) in
    bool_cases (is_leaf t)
    (λ is_so.
    let leaf : Ahead = record { kind = h.kind; parent = p; offset = a } in
    let same : leaf ≡ described (at root k) = (λ i. record { kind = sym kind i; parent = (e ∙ sym (ap kind_if (parent_here root k h ks r front back up s))) i; offset = o i }) in
    rw is_so (ap (λ x. Some x) same) ∙ sym (ahead_here root k t front _ s.whole s.number is_so))
    (λ not_so.
    let inner : Option Ahead = first_leaf (Some h.kind) (saturated (a + length h.text)) ks in
    let later : Option Ahead = first_leaf p (saturated (a + length (text_of t))) r in
    let total : k + count (more h ks r) ≡ k + (1 + count ks) + count r = omega arith in
    let row : k + 1 + count ks ≡ k + (1 + count ks) = omega arith in
    let others : first_ahead later (ahead_at root (k + (1 + count ks) + count r)) ≡ ahead_at root (k + (1 + count ks)) = first_law root (k + (1 + count ks)) (saturated (a + length (text_of t))) r (front ++ places t) back up p (behind root k h ks r front back up s) e (offset_behind root k a h ks r front back up s o) in
    let inside : first_ahead inner (ahead_at root (k + 1 + count ks)) ≡ ahead_at root (k + 1) = first_law root (k + 1) (saturated (a + length h.text)) ks (front ++ t ∷ []) (preorder r ++ back) (Some k) (Some h.kind) (below root k h ks r front back up s) (ap (λ x. Some x) (sym kind)) (offset_below root k a h ks r front back up s o) in
    let opened : first_leaf p a (more h ks r) ≡ first_ahead inner later = rw not_so refl in
    ap (λ x. first_ahead x (ahead_at root (k + count (more h ks r)))) opened
    ∙ (ap (λ m. first_ahead (first_ahead inner later) (ahead_at root m)) total
    ∙ (ahead_assoc inner later (ahead_at root (k + (1 + count ks) + count r))
    ∙ (ap (first_ahead inner) (others ∙ sym (ap (ahead_at root) row))
    ∙ (inside ∙ sym (ahead_later root k t front _ s.whole s.number not_so))))))

-- the next leaf of the first of the trees
pub next_law : (root : Tree) (k : ℕ) (h : Head) (ks r : Forest) (front back : List Tree) (up : Option ℕ) → Stand root k (more h ks r) front back up → option_map described (next_leaf (at root k)) ≡ ahead_at root (k + (1 + count ks))
next_law root k h ks r front back up s =
    ap (λ u. option_map described (option_map (at root) (first_at (is_leaf_from (k + nodes u)) 0 0 (places root)))) (here root k (tree_of h ks) front _ s.whole s.number)

last_front : (root : Tree) (k : ℕ) (front rest : List Tree) → places root ≡ front ++ rest → k ≡ length front → last_leaf k 0 (places root) ≡ last_leaf k 0 front
last_front root k front rest e n =
    ap (last_leaf k 0) e ∙ (last_append k 0 front rest ∙ rw (last_none k (0 + length front) rest (omega (arith, n))) refl)

last_next : (k n : ℕ) (t : Tree) (rest : List Tree) → n ≡ k → last_leaf (k + 1) n (t ∷ rest) ≡ cond (is_leaf t) (Some n) None
last_next k n t rest e = grind (arith, nat_tests, last_none)

last_behind : (root : Tree) (k : ℕ) (t : Tree) (front rest : List Tree) → places root ≡ front ++ (t ∷ rest) → k ≡ length front → last_leaf (k + 1) 0 (places root) ≡ if_none (cond (is_leaf t) (Some k) None) (last_leaf k 0 (places root))
last_behind root k t front rest e n =
    let number : 0 + length front ≡ k = omega (arith, n) in
    ap (last_leaf (k + 1) 0) e
    ∙ (last_append (k + 1) 0 front (t ∷ rest)
    ∙ (ap (λ o. if_none o (last_leaf (k + 1) 0 front)) (last_next k (0 + length front) t rest number ∙ ap (λ m. cond (is_leaf t) (Some m) None) number)
    ∙ ap (if_none (cond (is_leaf t) (Some k) None)) (last_all (k + 1) k 0 front (omega (arith, n)) (omega (arith, n)) ∙ sym (last_front root k front (t ∷ rest) e n))))

-- behind a leaf, the last leaf is that leaf
pub prev_here : (root : Tree) (k : ℕ) (t : Tree) (front rest : List Tree) → places root ≡ front ++ (t ∷ rest) → k ≡ length front → is_leaf t ≡ true → prev_leaf (at root (k + 1)) ≡ Some (at root k)
prev_here root k t front rest e n is_so =
    ap (option_map (at root)) (last_behind root k t front rest e n ∙ ap (λ b. if_none (cond b (Some k) None) (last_leaf k 0 (places root))) is_so)

-- behind another node, it is the last leaf before the node
pub prev_later : (root : Tree) (k : ℕ) (t : Tree) (front rest : List Tree) → places root ≡ front ++ (t ∷ rest) → k ≡ length front → is_leaf t ≡ false → prev_leaf (at root (k + 1)) ≡ prev_leaf (at root k)
prev_later root k t front rest e n not_so =
    ap (option_map (at root)) (last_behind root k t front rest e n ∙ ap (λ b. if_none (cond b (Some k) None) (last_leaf k 0 (places root))) not_so)
