-- The laws of the last leaf.
use Rattle.typst_tree.proofs.Cited.{common_steps, ◌≡◌, ℕ, suc, ◌+◌, ◌-◌, ◌^◌, ◌<◌, ◌≤◌, List, ◌∷◌, ◌++◌, length, take, drop, Option, Some, None, refl, ap, sym, ◌∙◌, arith, get_or, append_assoc, append-nil, length-append, false, ◌&&◌, [], take_more, take-append-drop, nat_tests, Tree, forest, nodes, count, places, preorder, saturated, last_leaf, if_none, is_leaf, unary_clauses, nat_lt, if◌then◌else◌}
use Rattle.typst_tree.proofs.WalksInPreorder.{length_preorder}

if_none_assoc : (x y z : Option ℕ) → if_none (if_none x y) z ≡ if_none x (if_none y z)
if_none_assoc x y z = grind arith

pub if_none_nothing : (x : Option ℕ) → if_none x None ≡ x
if_none_nothing x = grind arith

pub last_append : (b n : ℕ) (xs ys : List Tree) → last_leaf b n (xs ++ ys) ≡ if_none (last_leaf b (n + length xs) ys) (last_leaf b n xs)
last_append b n [] ys = simp unary_clauses (sym (if_none_nothing (last_leaf b n ys)))
last_append b n (x ∷ xs) ys =
    let number : n + 1 + length xs ≡ n + suc (length xs) = omega arith in
    rw (last_append b (n + 1) xs ys, number) (if_none_assoc (last_leaf b (n + suc (length xs)) ys) (last_leaf b (n + 1) xs) (if nat_lt n b && is_leaf x then Some n else None))

pub last_none : (b n : ℕ) (xs : List Tree) → b ≤ n → last_leaf b n xs ≡ None
last_none b n [] h = refl
last_none b n (x ∷ xs) h =
    let fails : nat_lt n b ≡ false = grind (arith, nat_tests, h) in
    rw (fails, last_none b (n + 1) xs (omega (arith, h))) refl

pub preorder_append : (xs ys : List Tree) → preorder (forest (xs ++ ys)) ≡ preorder (forest xs) ++ preorder (forest ys)
preorder_append [] ys = refl
preorder_append (x ∷ xs) ys = ap (λ zs. x ∷ zs) (rw (preorder_append xs ys) (sym (append_assoc (preorder x.kids) (preorder (forest xs)) (preorder (forest ys)))))

pub preorder_split : (i : ℕ) (xs : List Tree) → preorder (forest xs) ≡ preorder (forest (take i xs)) ++ preorder (forest (drop i xs))
preorder_split i xs = ap (λ ys. preorder (forest ys)) (sym (take-append-drop i xs)) ∙ preorder_append (take i xs) (drop i xs)

-- a loop from the back has k children left, of which x, the last, has d nodes and ends before the number e
pub record Back (b n : ℕ) (t : Tree) (xs : List Tree) (k e d : ℕ) (x : Tree) : Type 0 where
  pub fits : d ≤ e
  pub number : e - d ≡ n + 1 + count (forest (take (k - 1) xs))
  pub counted : count (forest (take k xs)) ≡ count (forest (take (k - 1) xs)) + nodes x
  pub last : last_leaf b n (t ∷ preorder (forest (take k xs))) ≡ if_none (last_leaf b (e - d) (places x)) (last_leaf b n (t ∷ preorder (forest (take (k - 1) xs))))

pub back : (b n : ℕ) (t : Tree) (xs : List Tree) (k e d : ℕ) (x : Tree) → 0 < k → k ≤ length xs → x ≡ get_or xs (k - 1) x → e ≡ n + 1 + count (forest (take k xs)) → d ≡ saturated (nodes x) → n + 1 + count (forest (take k xs)) < 2 ^ 64 - 1 → Back b n t xs k e d x
back b n t xs k e d x low high g end many small =
    let next : k ≡ k - 1 + 1 = omega (arith, low) in
    let more : take k xs ≡ take (k - 1) xs ++ x ∷ [] = ap (λ m. take m xs) next ∙ (take_more xs (k - 1) x (omega (arith, low, high)) ∙ ap (λ y. take (k - 1) xs ++ y ∷ []) (sym g)) in
    let front = preorder (forest (take (k - 1) xs)) in
    let all : preorder (forest (take k xs)) ≡ preorder (forest (take (k - 1) xs)) ++ places x = ap (λ ys. preorder (forest ys)) more ∙ (preorder_append (take (k - 1) xs) (x ∷ []) ∙ ap (λ zs. front ++ zs) (append-nil (places x))) in
    let counted : count (forest (take k xs)) ≡ count (forest (take (k - 1) xs)) + nodes x = omega (arith, ap length all, length_preorder (forest (take k xs)), length_preorder (forest (take (k - 1) xs)), length_preorder x.kids, length-append front (places x)) in
    grind (arith, common_steps, length_preorder, last_append)

pub last_alone : (b n : ℕ) (t : Tree) (xs : List Tree) (i : ℕ) → n < b → i ≡ 0 → last_leaf b n (t ∷ preorder (forest (take i xs))) ≡ (if is_leaf t then Some n else None)
last_alone b n t xs i h e = grind arith
