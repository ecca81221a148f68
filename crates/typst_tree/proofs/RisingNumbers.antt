-- Numbers that rise, and searches for one of them.
use Rattle.typst_tree.proofs.Cited.{◌≡◌, ℕ, zero, suc, take, drop, ◌+◌, ◌<◌, ◌≤◌, Bool, true, false, IsTrue, List, ◌∷◌, ◌++◌, length, get_or, map, Option, None, refl, ap, sym, subst, ◌∙◌, arith, rules, [], All, AllPairs, IfSome, map-append, All-cons, AllPairs-cons, nat_tests, number_of, Forest, none, more, Tree, forest, places, preorder, saturated, count, joined, first_at, Stands, begins_past, IsKey}
use Rattle.typst_tree.specs.Order.{numbers, numbers_of, AreInOrder}
use Rattle.typst_tree.proofs.LastLeaf.{if_none_nothing, preorder_split}
use Rattle.typst_tree.proofs.NodesOfStretch.{standing}
use Rattle.typst_tree.proofs.Rows.{passed_front}
use Rattle.typst_tree.proofs.WalksInPreorder.{first_of_more}

-- the numbers of some nodes are at least a, and each is above the one before it
abbrev pub Rising : ℕ → List Tree → Type 0
Rising a [] = Unit {0}
Rising a (t ∷ ts) = (a ≤ number_of t.head.span) × Rising (number_of t.head.span + 1) ts

rising_lower : (a b : ℕ) (xs : List Tree) → b ≤ a → Rising a xs → Rising b xs
rising_lower a b [] l h = tt
rising_lower a b (x ∷ xs) l h = (omega (arith, l, h.0), h.1)

pub rising_front : (a : ℕ) (xs ys : List Tree) → Rising a (xs ++ ys) → Rising a xs
rising_front a [] ys h = tt
rising_front a (x ∷ xs) ys h = (h.0, rising_front (number_of x.head.span + 1) xs ys h.1)

pub rising_back : (a : ℕ) (xs ys : List Tree) → Rising a (xs ++ ys) → Rising a ys
rising_back a [] ys h = h
rising_back a (x ∷ xs) ys h =
    rising_lower (number_of x.head.span + 1) a ys (omega (arith, h.0)) (rising_back (number_of x.head.span + 1) xs ys h.1)

never : (b : Bool) → (IsTrue b → ⊥) → b ≡ false
never true f = absurd (f refl)
never false f = refl

-- nodes with numbers above the key aren't found
pub none_above : (p : ℕ → ℕ → Tree → Bool) (m n b a : ℕ) (xs : List Tree) → IsKey p m → m < a → Rising a xs → first_at p n b xs ≡ None
none_above p m n b a [] key l h = refl
none_above p m n b a (x ∷ xs) key l h =
    let other : IsTrue (p n (saturated b) x) → ⊥ = λ e. omega (arith, l, h.0, key n (saturated b) x e) in
    rw (never (p n (saturated b) x) other) (none_above p m (n + 1) (b + length x.head.text) (number_of x.head.span + 1) xs key (omega (arith, l, h.0)) h.1)

least_later : (a : ℕ) (xs : List Tree) (y : Tree) (ys : List Tree) → Rising a (xs ++ (y ∷ ys)) → a ≤ number_of y.head.span
least_later a [] y ys h = h.0
least_later a (x ∷ xs) y ys h =
    omega (arith, h.0, least_later (number_of x.head.span + 1) xs y ys h.1)

-- nodes before one whose number is at most the key aren't found
pub none_before : (p : ℕ → ℕ → Tree → Bool) (m n b a : ℕ) (xs : List Tree) (y : Tree) (ys : List Tree) → IsKey p m → number_of y.head.span ≤ m → Rising a (xs ++ (y ∷ ys)) → first_at p n b xs ≡ None
none_before p m n b a [] y ys key l h = refl
none_before p m n b a (x ∷ xs) y ys key l h =
    let later : number_of x.head.span + 1 ≤ number_of y.head.span = least_later (number_of x.head.span + 1) xs y ys h.1 in
    let other : IsTrue (p n (saturated b) x) → ⊥ = λ e. omega (arith, l, later, key n (saturated b) x e) in
    rw (never (p n (saturated b) x) other) (none_before p m (n + 1) (b + length x.head.text) (number_of x.head.span + 1) xs y ys key l h.1)

abbrev number : Tree → ℕ
number t = number_of t.head.span

numbers_map : (f : Forest) → numbers f ≡ map number (preorder f)
numbers_map none = refl
numbers_map (more h ks r) =
    ap (λ ns. number_of h.span ∷ ns) (rw (numbers_map ks, numbers_map r) (sym (map-append number (preorder ks) (preorder r))))

above : (x a : ℕ) (xs : List Tree) → x < a → Rising a xs → All (λ y. x < y) (map number xs)
above x a [] l h = λ k d w. absurd (omega arith)
above x a (t ∷ ts) l h =
    All-cons (λ y. x < y) (number t) (map number ts) (omega (arith, l, h.0)) (above x (number t + 1) ts (omega (arith, l, h.0)) h.1)

rising_pairs : (a : ℕ) (xs : List Tree) → Rising a xs → AllPairs (λ x y. x < y) (map number xs)
rising_pairs a [] h = λ i j d l k. absurd (omega arith)
rising_pairs a (t ∷ ts) h =
    AllPairs-cons (λ x y. x < y) (number t) (map number ts) (above (number t) (number t + 1) ts (omega arith) h.1) (rising_pairs (number t + 1) ts h.1)

pairs_rising : (a : ℕ) (xs : List Tree) → All (λ y. a ≤ y) (map number xs) → AllPairs (λ x y. x < y) (map number xs) → Rising a xs
pairs_rising a [] w h = tt
pairs_rising a (t ∷ ts) w h =
    (w 0 0 (omega arith), pairs_rising (number t + 1) ts (λ k d l. let less : number t < get_or (map number ts) k d = h 0 (suc k) d (omega arith) (omega (arith, l)) in omega (arith, less)) (λ i j d l k. h (suc i) (suc j) d (omega (arith, l)) (omega (arith, k))))

same_numbers : (t : Tree) → numbers_of t ≡ map number (places t)
same_numbers t = ap (λ ns. number t ∷ ns) (numbers_map t.kids)

pub rising_from : (t : Tree) → AreInOrder (numbers_of t) → Rising 0 (places t)
rising_from t h =
    pairs_rising 0 (places t) (λ k d l. omega arith) (subst (AllPairs (λ x y. x < y)) (same_numbers t) h)

pub in_order_from : (a : ℕ) (t : Tree) → Rising a (places t) → AreInOrder (numbers_of t)
in_order_from a t h = subst (AllPairs (λ x y. x < y)) (sym (same_numbers t)) (rising_pairs a (places t) h)

-- the numbers within a node of a tree are in order where the tree's are
pub in_order_here : (root : Tree) (k b : ℕ) (t : Tree) → Stands (places root) k b (places t) → AreInOrder (numbers_of root) → AreInOrder (numbers_of t)
in_order_here root k b t s h =
    let w = standing (places root) k b (places t) s in
    let all : Rising 0 (w.front ++ (places t ++ w.back)) = subst (Rising 0) w.whole (rising_from root h) in
    in_order_from 0 t (rising_front 0 (places t) w.back (rising_back 0 w.front (places t ++ w.back) all))

-- a tree that begins above the key isn't found, nor any below it
pub none_past : (p : ℕ → ℕ → Tree → Bool) (m n a : ℕ) (t : Tree) → IsKey p m → m < number_of t.head.span → AreInOrder (numbers_of t) → first_at p n a (places t) ≡ None
none_past p m n a t key l h =
    none_above p m n a (number t) (places t) key l (omega arith, (rising_from t h).1)

none_behind : (p : ℕ → ℕ → Tree → Bool) (m k b : ℕ) (ts : List Tree) → IsKey p m → true ≡ begins_past m (forest ts) → Rising 0 (preorder (forest ts)) → first_at p k b (preorder (forest ts)) ≡ None
none_behind p m k b [] key e h = refl
none_behind p m k b (y ∷ ts) key e h = let later : m < number y = grind (arith, nat_tests, e) in search (rules, none_above)

-- of a row of trees, only the first can have something where the next begins above the key
pub found_only : (p : ℕ → ℕ → Tree → Bool) (m k b : ℕ) (x : Tree) (ts : List Tree) → IsKey p m → true ≡ begins_past m (forest ts) → Rising 0 (preorder (forest (x ∷ ts))) → first_at p k b (preorder (forest (x ∷ ts))) ≡ first_at p k b (places x)
found_only p m k b x ts key e h = grind (arith, first_of_more, none_behind, rising_back, if_none_nothing)

pub in_order_first : (x : Tree) (ts : List Tree) → Rising 0 (preorder (forest (x ∷ ts))) → AreInOrder (numbers_of x)
in_order_first x ts h = in_order_from 0 x (rising_front 0 (places x) (preorder (forest ts)) h)

pub rising_below : (t : Tree) (ts : List Tree) → forest ts ≡ t.kids → AreInOrder (numbers_of t) → Rising 0 (preorder (forest ts))
rising_below t ts e h =
    subst (λ f. Rising 0 (preorder f)) (sym e) (rising_lower (number t + 1) 0 (preorder t.kids) (omega arith) (rising_from t h).1)

pub if_some : {X : Type 0} (o : Option X) (P Q : X → Type 0) → ((x : X) → P x → Q x) → IfSome o P → IfSome o Q
if_some o P Q f h = grind arith

none_ahead : (p : ℕ → ℕ → Tree → Bool) (m n a i : ℕ) (xs : List Tree) (x : Tree) (rest : List Tree) → IsKey p m → Rising 0 (preorder (forest xs)) → drop i xs ≡ x ∷ rest → (0 < i → begins_past m (forest (drop i xs)) ≡ false) → first_at p n a (preorder (forest (take i xs))) ≡ None
none_ahead p m n a zero xs x rest key h row e = refl
none_ahead p m n a (suc i) xs x rest key h row e =
    let least : number x ≤ m = (let begins : begins_past m (forest (x ∷ rest)) ≡ false = ap (λ ys. begins_past m (forest ys)) (sym row) ∙ e (omega arith) in grind (arith, nat_tests, begins)) in
    let whole : preorder (forest xs) ≡ preorder (forest (take (suc i) xs)) ++ (x ∷ (preorder x.kids ++ preorder (forest rest))) =
    preorder_split (suc i) xs ∙ ap (λ ys. preorder (forest (take (suc i) xs)) ++ preorder (forest ys)) row in
    none_before p m n a 0 (preorder (forest (take (suc i) xs))) x (preorder x.kids ++ preorder (forest rest)) key least (subst (Rising 0) whole h)

-- nothing is found before the last tree of a row that begins at the key or before it
pub order_ahead : (p : ℕ → ℕ → Tree → Bool) (m n a i k c : ℕ) (xs : List Tree) (x : Tree) (rest : List Tree) → IsKey p m → Rising 0 (preorder (forest xs)) → drop i xs ≡ x ∷ rest → (0 < i → begins_past m (forest (drop i xs)) ≡ false) → k ≡ n + count (forest (take i xs)) → c ≡ saturated (a + length (joined (forest (take i xs)))) → first_at p n a (preorder (forest xs)) ≡ first_at p k c (preorder (forest (x ∷ rest)))
order_ahead p m n a i k c xs x rest key h row e f g =
    passed_front p n a i k c xs f g (none_ahead p m n a i xs x rest key h row e) ∙ ap (λ ys. first_at p k c (preorder (forest ys))) row

pub rising_from_index : (i : ℕ) (xs : List Tree) (x : Tree) (rest : List Tree) → drop i xs ≡ x ∷ rest → Rising 0 (preorder (forest xs)) → Rising 0 (preorder (forest (x ∷ rest)))
rising_from_index i xs x rest row h =
    rising_back 0 (preorder (forest (take i xs))) (preorder (forest (x ∷ rest))) (subst (Rising 0) (preorder_split i xs ∙ ap (λ ys. preorder (forest (take i xs)) ++ preorder (forest ys)) row) h)
