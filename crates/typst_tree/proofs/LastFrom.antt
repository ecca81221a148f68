-- The last leaf below a number, in a node and in what is below it.
use Rattle.typst_tree.proofs.Cited.{◌≡◌, ℕ, ◌+◌, ◌<◌, ◌≤◌, true, min, List, ◌∷◌, ◌++◌, length, take, drop, Option, Some, None, refl, ap, sym, ◌∙◌, arith, [], cases_lt, nat_tests, Tree, forest, nodes, count, places, preorder, last_leaf, if_none, Within, IsUnder, last_of, FindsLast, Found, nat_lt}
use Rattle.typst_tree.specs.declared.back.Seen.TheVariants as seen
use Rattle.typst_tree.proofs.LastLeaf.{last_append, last_none, preorder_split}
use Rattle.typst_tree.proofs.WalksInPreorder.{length_places, length_preorder}

-- bounds that are no lower than all numbers say the same
pub last_all : (m l n : ℕ) (xs : List Tree) → n + length xs ≤ m → n + length xs ≤ l → last_leaf m n xs ≡ last_leaf l n xs
last_all m l n [] h g = refl
last_all m l n (x ∷ xs) h g =
    let low : nat_lt n m ≡ true = (let less : n < m = omega (arith, h) in grind (arith, nat_tests, less)) in
    let high : nat_lt n l ≡ true = (let less : n < l = omega (arith, g) in grind (arith, nat_tests, less)) in
    rw (low, high, last_all m l (n + 1) xs (omega (arith, h)) (omega (arith, g))) refl

last_min : (m l n : ℕ) (xs : List Tree) → n + length xs ≤ l → last_leaf m n xs ≡ last_leaf (min m l) n xs
last_min m l n xs h = grind (arith, cases_lt, last_all)

-- a list that has another one in it, by what is found before it, in it and behind it
split : (m n a : ℕ) (xs : List Tree) (k b : ℕ) (ys : List Tree) → (w : Within n a xs k b ys) → last_leaf m n xs ≡ if_none (if_none (last_leaf m (k + length ys) w.back) (last_leaf m k ys)) (last_leaf m n w.front)
split m n a xs k b ys w = grind (arith, last_append)

-- what is found in a node below is found in all, where nothing is behind that node
found_in : (m n a : ℕ) (t : Tree) (k b : ℕ) (u : Tree) (j : ℕ) → Within n a (places t) k b (places u) → m ≤ k + nodes u → last_leaf m k (places u) ≡ Some j → last_leaf m n (places t) ≡ Some j
found_in m n a t k b u j w h e =
    split m n a (places t) k b (places u) w ∙ rw (last_none m (k + length (places u)) w.back (omega (arith, h, length_places u)), e) refl

-- a bound within a node below changes in all as it does there
bound_in : (m l n a : ℕ) (t : Tree) (k b : ℕ) (u : Tree) → Within n a (places t) k b (places u) → m ≤ k + nodes u → l ≤ k + nodes u → k ≤ m → k ≤ l → last_leaf m k (places u) ≡ last_leaf l k (places u) → last_leaf m n (places t) ≡ last_leaf l n (places t)
bound_in m l n a t k b u w h g p q e =
    split m n a (places t) k b (places u) w
    ∙ (rw (last_none m (k + length (places u)) w.back (omega (arith, h, length_places u)), last_none l (k + length (places u)) w.back (omega (arith, g, length_places u)), e, last_all m l n w.front (omega (arith, p, w.number)) (omega (arith, q, w.number))) refl
    ∙ sym (split l n a (places t) k b (places u) w))

pub last_in : (m j : ℕ) (o f : Found) → IsUnder o f → m ≤ f.number + nodes f.node.now → last_of m f ≡ Some j → last_of m o ≡ Some j
last_in m j o f u h e = found_in m o.number 0 o.node.now f.number f.begins f.node.now j u.within h e

pub last_lift : (m l : ℕ) (o f : Found) → IsUnder o f → m ≤ f.number + nodes f.node.now → l ≤ f.number + nodes f.node.now → f.number ≤ m → f.number ≤ l → last_of m f ≡ last_of l f → last_of m o ≡ last_of l o
last_lift m l o f u h g p q e = bound_in m l o.number 0 o.node.now f.number f.begins f.node.now u.within h g p q e

-- where nothing is found in a node below, the search goes on before it
pub last_past : (m : ℕ) (o f : Found) → IsUnder o f → f.number ≤ m → m ≤ f.number + nodes f.node.now → last_of m f ≡ None → last_of m o ≡ last_of f.number o
last_past m o f u p h e =
    last_lift m f.number o f u h (omega arith) p (omega arith) (e ∙ sym (last_none f.number f.number (places f.node.now) (omega arith)))

-- no number is behind a node's end
pub last_end : (m e : ℕ) (o : Found) → e ≡ o.number + nodes o.node.now → last_of m o ≡ last_of (min m e) o
last_end m e o h = last_min m e o.number (places o.node.now) (omega (arith, h, length_places o.node.now))

pub last_first : (m : ℕ) (o : Found) → m ≤ o.number → last_of m o ≡ None
last_first m o h = last_none m o.number (places o.node.now) h

-- behind the first k children, which end before the number e, nothing is found
pub last_heavy : (m n e k : ℕ) (t : Tree) (row : List Tree) → forest row ≡ t.kids → e ≡ n + 1 + count (forest (take k row)) → last_leaf m n (places t) ≡ last_leaf m n (t ∷ preorder (forest (take k row))) → last_leaf m n (places t) ≡ last_leaf (min m e) n (places t)
last_heavy m n e k t row view end same =
    let front = t ∷ preorder (forest (take k row)) in
    let rest = preorder (forest (drop k row)) in
    let all : places t ≡ front ++ rest = ap (λ ys. t ∷ ys) (ap preorder (sym view) ∙ preorder_split k row) in
    grind (arith, length_preorder, last_none, last_min, last_append)

-- a bound that says the same
pub finds_same : (m l : ℕ) (o : Found) (r : Option Found) → last_of m o ≡ last_of l o → FindsLast o l r → FindsLast o m r
finds_same m l o r e h = grind arith

-- some of the children are left, where the number that is looked for stands among them
pub some_left : (k n e w : ℕ) (row : List Tree) → e ≡ n + 1 + count (forest (take k row)) → n < w → w < e → 0 < k
some_left k n e w row h l g = grind arith
