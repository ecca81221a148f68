-- Numbers that are in order below an end, node by node.
use Rattle.typst_tree.proofs.Cited.{◌≡◌, ℕ, zero, suc, ◌+◌, ◌<◌, ◌≤◌, List, ◌∷◌, ◌++◌, length, get_or, Option, ap, sym, subst, arith, append_assoc, [], All, IfSome, option_to_list, All-cons, AllPairs-cons, number_of, Tree, forest, nodes, count, number_at}
use Rattle.typst_tree.specs.Order.{numbers, numbers_of, AreInOrder}
use Rattle.typst_tree.proofs.Numbering.{nodes_at}

-- the numbers are at least a, and each is above the one before it
abbrev Up : ℕ → List ℕ → Type 0
Up a [] = Unit {0}
Up a (n ∷ ns) = (a ≤ n) × Up (n + 1) ns

all_above : (m a : ℕ) (ns : List ℕ) → m < a → Up a ns → All (λ y. m < y) ns
all_above m a [] l h = λ k d w. absurd (omega arith)
all_above m a (n ∷ ns) l h =
    All-cons (λ y. m < y) n ns (omega (arith, l, h.0)) (all_above m (n + 1) ns (omega (arith, l, h.0)) h.1)

up_pairs : (a : ℕ) (ns : List ℕ) → Up a ns → AreInOrder ns
up_pairs a [] h = λ i j d l k. absurd (omega arith)
up_pairs a (n ∷ ns) h =
    AllPairs-cons (λ x y. x < y) n ns (all_above n (n + 1) ns (omega arith) h.1) (up_pairs (n + 1) ns h.1)

pairs_up : (a : ℕ) (ns : List ℕ) → All (λ y. a ≤ y) ns → AreInOrder ns → Up a ns
pairs_up a [] w h = tt
pairs_up a (n ∷ ns) w h =
    (w 0 0 (omega arith), pairs_up (n + 1) ns (λ k d l. let less : n < get_or ns k d = h 0 (suc k) d (omega arith) (omega (arith, l)) in omega (arith, less)) (λ i j d l k. h (suc i) (suc j) d (omega (arith, l)) (omega (arith, k))))

up : (ns : List ℕ) → AreInOrder ns → Up 0 ns
up ns h = pairs_up 0 ns (λ k d l. omega arith) h

up_lower : (a b : ℕ) (ns : List ℕ) → b ≤ a → Up a ns → Up b ns
up_lower a b [] l h = tt
up_lower a b (n ∷ ns) l h = (omega (arith, l, h.0), h.1)

up_back : (a : ℕ) (ns ms : List ℕ) → Up a (ns ++ ms) → Up 0 ms
up_back a [] ms h = up_lower a 0 ms (omega arith) h
up_back a (n ∷ ns) ms h = up_back (n + 1) ns ms h.1

-- numbers that rise go on to rise where what comes behind them is changed for what rises as well
up_swap : (a : ℕ) (ns ms ps : List ℕ) → ((b : ℕ) → Up b ms → Up b ps) → Up a (ns ++ ms) → Up a (ns ++ ps)
up_swap a [] ms ps f h = f a h
up_swap a (n ∷ ns) ms ps f h = (h.0, up_swap (n + 1) ns ms ps f h.1)

first_up : (a : ℕ) (end : Option ℕ) (xs : List Tree) → Up a (numbers (forest xs) ++ option_to_list end) → Up a (option_to_list (number_at xs 0 end))
first_up a end [] h = h
first_up a end (x ∷ xs) h = (h.0, tt)

each_up : (end : Option ℕ) (xs : List Tree) (k : ℕ) (d : Tree) → k < length xs → Up 0 (numbers (forest xs) ++ option_to_list end) → Up 0 (numbers_of (get_or xs k d) ++ option_to_list (number_at xs (suc k) end))
each_up end [] k d l h = absurd (omega (arith, l))
each_up end (x ∷ xs) zero d l h = grind (arith, up_swap, first_up, append_assoc)
each_up end (x ∷ xs) (suc k) d l h =
    each_up end xs k d (omega (arith, l)) (up_back (number_of x.head.span + 1) (numbers x.kids) (numbers (forest xs) ++ option_to_list end) (rw (append_assoc (numbers x.kids) (numbers (forest xs)) (option_to_list end)) at h.1))

row_up : (a : ℕ) (end : Option ℕ) (xs : List Tree) → Up a (option_to_list (number_at xs 0 end)) → ((k : ℕ) (d : Tree) → k < length xs → Up 0 (numbers_of (get_or xs k d) ++ option_to_list (number_at xs (suc k) end))) → Up a (numbers (forest xs) ++ option_to_list end)
row_up a end [] f g = f
row_up a end (x ∷ xs) f g =
    (f.0, rw (append_assoc (numbers x.kids) (numbers (forest xs)) (option_to_list end)) (up_swap (number_of x.head.span + 1) (numbers x.kids) (option_to_list (number_at xs 0 end)) (numbers (forest xs) ++ option_to_list end) (λ b h. row_up b end xs h (λ k d l. g (suc k) d (omega (arith, l)))) (g 0 x (omega arith)).1))

before_up : (n : ℕ) (o : Option ℕ) → IfSome o (λ m. n < m) → Up (n + 1) (option_to_list o)
before_up n o h = grind arith

up_before : (n : ℕ) (o : Option ℕ) → Up (n + 1) (option_to_list o) → IfSome o (λ m. n < m)
up_before n o h = grind arith

below_node : (t : Tree) (xs : List Tree) (end : Option ℕ) → forest xs ≡ t.kids → AreInOrder (numbers_of t ++ option_to_list end) → Up (number_of t.head.span + 1) (numbers (forest xs) ++ option_to_list end)
below_node t xs end e h =
    subst (λ f. Up (number_of t.head.span + 1) (numbers f ++ option_to_list end)) (sym e) (up (numbers_of t ++ option_to_list end) h).1

-- a node's own number is below the first child's, or below the end
pub order_own : (t : Tree) (xs : List Tree) (end : Option ℕ) → forest xs ≡ t.kids → AreInOrder (numbers_of t ++ option_to_list end) → IfSome (number_at xs 0 end) (λ m. number_of t.head.span < m)
order_own t xs end e h = grind (arith, up_before, first_up, below_node)

at_any : (xs : List Tree) (i : ℕ) (x d : Tree) → x ≡ get_or xs i x → i < length xs → x ≡ get_or xs i d
at_any [] i x d e l = absurd (omega (arith, l))
at_any (y ∷ xs) zero x d e l = e
at_any (y ∷ xs) (suc i) x d e l = at_any xs i x d e (omega (arith, l))

-- a child is in order below the next one, or below the end
pub order_child : (t : Tree) (xs : List Tree) (end next : Option ℕ) (i : ℕ) (x : Tree) → forest xs ≡ t.kids → x ≡ get_or xs i x → i < length xs → next ≡ number_at xs (i + 1) end → AreInOrder (numbers_of t ++ option_to_list end) → AreInOrder (numbers_of x ++ option_to_list next)
order_child t xs end next i x e p l n h =
    let after : suc i ≡ i + 1 = omega arith in
    let row : Up 0 (numbers (forest xs) ++ option_to_list end) = up_lower (number_of t.head.span + 1) 0 (numbers (forest xs) ++ option_to_list end) (omega arith) (below_node t xs end e h) in
    let here : AreInOrder (numbers_of (get_or xs i x) ++ option_to_list (number_at xs (suc i) end)) = up_pairs 0 (numbers_of (get_or xs i x) ++ option_to_list (number_at xs (suc i) end)) (each_up end xs i x l row) in
    subst (λ o. AreInOrder (numbers_of x ++ option_to_list o)) (sym n) (subst (λ y. AreInOrder (numbers_of y ++ option_to_list (number_at xs (i + 1) end))) (sym p) (subst (λ j. AreInOrder (numbers_of (get_or xs i x) ++ option_to_list (number_at xs j end))) after here))

-- and the same said of the row
pub order_at : (xs : List Tree) (end next : Option ℕ) (i : ℕ) (x d : Tree) → x ≡ get_or xs i x → i < length xs → next ≡ number_at xs (i + 1) end → AreInOrder (numbers_of x ++ option_to_list next) → AreInOrder (numbers_of (get_or xs i d) ++ option_to_list (number_at xs (i + 1) end))
order_at xs end next i x d p l n h = grind (arith, at_any)

-- a node is in order where its own number is below the next, and each child is in order below the next one
pub order_node : (t : Tree) (xs : List Tree) (end : Option ℕ) → forest xs ≡ t.kids → IfSome (number_at xs 0 end) (λ m. number_of t.head.span < m) → ((k : ℕ) (d : Tree) → k < length xs → AreInOrder (numbers_of (get_or xs k d) ++ option_to_list (number_at xs (k + 1) end))) → AreInOrder (numbers_of t ++ option_to_list end)
order_node t xs end e own each =
    let row : Up (number_of t.head.span + 1) (numbers (forest xs) ++ option_to_list end) =
    row_up (number_of t.head.span + 1) end xs (before_up (number_of t.head.span) (number_at xs 0 end) own) (λ k d l. let next : k + 1 ≡ suc k = omega arith in up (numbers_of (get_or xs k d) ++ option_to_list (number_at xs (suc k) end)) (subst (λ j. AreInOrder (numbers_of (get_or xs k d) ++ option_to_list (number_at xs j end))) next (each k d l))) in
    up_pairs 0 (numbers_of t ++ option_to_list end) (omega arith, subst (λ f. Up (number_of t.head.span + 1) (numbers f ++ option_to_list end)) e row)

-- a node is in order where the order of one child is known, and that of all others
pub order_node_but : (t : Tree) (xs : List Tree) (end : Option ℕ) (last : ℕ) → forest xs ≡ t.kids → IfSome (number_at xs 0 end) (λ m. number_of t.head.span < m) → ((k : ℕ) (d : Tree) → k < length xs → (k ≡ last → ⊥) → AreInOrder (numbers_of (get_or xs k d) ++ option_to_list (number_at xs (k + 1) end))) → ((d : Tree) → last < length xs → AreInOrder (numbers_of (get_or xs last d) ++ option_to_list (number_at xs (last + 1) end))) → AreInOrder (numbers_of t ++ option_to_list end)
order_node_but t xs end last e own others here =
    order_node t xs end e own each
  where
    each : (k : ℕ) (d : Tree) → k < length xs → AreInOrder (numbers_of (get_or xs k d) ++ option_to_list (number_at xs (k + 1) end))
    each k d l = grind arith

-- a tree of a row has no more nodes than the row
pub nodes_within : (xs : List Tree) (i : ℕ) (x : Tree) → x ≡ get_or xs i x → i < length xs → nodes x ≤ count (forest xs)
nodes_within xs i x is within = omega (arith, nodes_at xs i x within, ap nodes is)
