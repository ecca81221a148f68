-- Where a node's parent is found.
use Rattle.typst_tree.proofs.Cited.{◌≡◌, ℕ, zero, suc, ◌+◌, ◌-◌, ◌<◌, ◌≤◌, ◌==◌, true, false, List, ◌∷◌, ◌++◌, length, take, Option, Some, None, refl, ap, sym, ◌∙◌, arith, inl, inr, append-nil, [], list_any, cases_lt, nat_tests, same_Some, none-some, Forest, none, more, Tree, forest, trees, count, nodes, places, preorder, numbers, first_at, has_child, Stands, if_none, IsChild, at, parent, slice_get}
use Rattle.typst_tree.proofs.LastLeaf.{if_none_nothing}
use Rattle.typst_tree.proofs.NodesOfStretch.{stands_get, standing}
use Rattle.typst_tree.proofs.PassesOver.{no_number_below, no_number_above, no_child_above}
use Rattle.typst_tree.proofs.WalksInPreorder.{length_places, length_preorder, first_append, none_between}

pub get_left : (xs ys : List Tree) (j : ℕ) → j < length xs → slice_get (xs ++ ys) j ≡ slice_get xs j
get_left [] ys j h = absurd (omega (arith, h))
get_left (x ∷ xs) ys zero h = refl
get_left (x ∷ xs) ys (suc j) h = get_left xs ys j (omega (arith, h))

pub get_right : (xs ys : List Tree) (j : ℕ) → slice_get (xs ++ ys) (length xs + j) ≡ slice_get ys j
get_right [] ys j = let same : 0 + j ≡ j = omega arith in ap (slice_get ys) same
get_right (x ∷ xs) ys j =
    let same : suc (length xs) + j ≡ suc (length xs + j) = omega arith in
    ap (slice_get (x ∷ (xs ++ ys))) same ∙ get_right xs ys j

get_past : (xs ys : List Tree) (j : ℕ) → length xs ≤ j → slice_get (xs ++ ys) j ≡ slice_get ys (j - length xs)
get_past xs ys j h = grind (arith, get_right)

-- a node of some trees has all that is below it among their nodes
pub inside_forest : (f : Forest) (j : ℕ) (t : Tree) → slice_get (preorder f) j ≡ Some t → j + nodes t ≤ count f
inside_forest none j t g = absurd (none-some t g)
inside_forest (more h ks r) zero t g = grind arith
inside_forest (more h ks r) (suc j) t g =
    elim (cases_lt j (count ks)) [
      | inl l ↦ (let at : slice_get (preorder ks) j ≡ Some t = sym (get_left (preorder ks) (preorder r) j (omega (arith, l, length_preorder ks))) ∙ g in
          omega (arith, inside_forest ks j t at))
      | inr l ↦ (let at : slice_get (preorder r) (j - length (preorder ks)) ≡ Some t = sym (get_past (preorder ks) (preorder r) j (omega (arith, l, length_preorder ks))) ∙ g in
          omega (arith, l, length_preorder ks, inside_forest r (j - length (preorder ks)) t at))
    ]

pub row_places : (t : Tree) → preorder (forest (t ∷ [])) ≡ places t
row_places t = ap (λ ys. t ∷ ys) (append-nil (preorder t.kids))

pub inside_tree : (u : Tree) (j : ℕ) (t : Tree) → slice_get (places u) j ≡ Some t → j + nodes t ≤ nodes u
inside_tree u j t g = grind (arith, inside_forest, row_places)

-- where a child is looked for, offsets don't matter
free : (k n a b : ℕ) (xs : List Tree) → first_at (has_child k) n a xs ≡ first_at (has_child k) n b xs
free k n a b [] = refl
free k n a b (x ∷ xs) = rw (free k (n + 1) (a + length x.head.text) (b + length x.head.text) xs) refl

pub none_from : (k n a : ℕ) (xs : List Tree) → k ≤ n → first_at (has_child k) n a xs ≡ None
none_from k n a xs h = grind (arith, none_between, no_number_below)

-- the number of a node below one of some trees is none of those of the trees
apart : (k n j : ℕ) (f : Forest) (t : Tree) → slice_get (preorder f) j ≡ Some t → n + j < k → k < n + j + nodes t → list_any (λ m. m == k) (numbers n f) ≡ false
apart k n j none t g l h = absurd (none-some t g)
apart k n zero (more g ks r) t e l h = grind (arith, same_Some, nat_tests, no_number_below)
apart k n (suc j) (more g ks r) t e l h =
    let fails : (n == k) ≡ false = grind (arith, nat_tests, l) in
    let behind : list_any (λ m. m == k) (numbers (n + 1 + count ks) r) ≡ false =
    elim (cases_lt j (count ks)) [
      | inl b ↦ (let at : slice_get (preorder ks) j ≡ Some t = sym (get_left (preorder ks) (preorder r) j (omega (arith, b, length_preorder ks))) ∙ e in
          no_number_below k (n + 1 + count ks) r (omega (arith, h, inside_forest ks j t at)))
      | inr b ↦ (let at : slice_get (preorder r) (j - length (preorder ks)) ≡ Some t = sym (get_past (preorder ks) (preorder r) j (omega (arith, b, length_preorder ks))) ∙ e in
          apart k (n + 1 + count ks) (j - length (preorder ks)) r t at (omega (arith, l, b, length_preorder ks)) (omega (arith, h, b, length_preorder ks)))
    ] in
    rw (fails, behind) refl

if_none_left : (x y : Option ℕ) → y ≡ None → if_none x y ≡ x
if_none_left x y e = ap (if_none x) e ∙ if_none_nothing x

-- the parent of a node below t is found in t
within_forest : (k n a b j : ℕ) (f : Forest) (t : Tree) → slice_get (preorder f) j ≡ Some t → n + j < k → k < n + j + nodes t → first_at (has_child k) n a (preorder f) ≡ first_at (has_child k) (n + j) b (places t)
within_forest k n a b j none t g l h = absurd (none-some t g)
within_forest k n a b zero (more g ks r) t e l h =
    let same : record { head = g; kids = ks } ≡ t = same_Some (record { head = g; kids = ks }) t e in
    let x : Tree = record { head = g; kids = ks } in
    let past : k ≤ n + length (places x) = omega (arith, h, ap nodes same, length_preorder ks) in
    let start : n ≡ n + 0 = omega arith in
    first_append (has_child k) n a (places x) (preorder r)
    ∙ (if_none_left (first_at (has_child k) n a (places x)) _ (none_from k (n + length (places x)) _ (preorder r) past)
    ∙ (free k n a b (places x) ∙ (ap (λ u. first_at (has_child k) n b (places u)) same ∙ ap (λ m. first_at (has_child k) m b (places t)) start)))
within_forest k n a b (suc j) (more g ks r) t e l h =
    let there : n + 1 + j ≡ n + suc j = omega arith in
    let down = ap (λ m. first_at (has_child k) m b (places t)) there in
    elim (cases_lt j (count ks)) [
      | inl c ↦ (let at : slice_get (preorder ks) j ≡ Some t = sym (get_left (preorder ks) (preorder r) j (omega (arith, c, length_preorder ks))) ∙ e in
          let own : list_any (λ m. m == k) (numbers (n + 1) ks) ≡ false = apart k (n + 1) j ks t at (omega (arith, l)) (omega (arith, h)) in
          let past : k ≤ n + 1 + length (preorder ks) = omega (arith, h, inside_forest ks j t at, length_preorder ks) in
          rw own (first_append (has_child k) (n + 1) (a + length g.text) (preorder ks) (preorder r)
          ∙ (if_none_left _ _ (none_from k (n + 1 + length (preorder ks)) _ (preorder r) past)
          ∙ (within_forest k (n + 1) (a + length g.text) b j ks t at (omega (arith, l)) (omega (arith, h)) ∙ down))))
      | inr c ↦ (let at : slice_get (preorder r) (j - length (preorder ks)) ≡ Some t = sym (get_past (preorder ks) (preorder r) j (omega (arith, c, length_preorder ks))) ∙ e in
          let own : list_any (λ m. m == k) (numbers (n + 1) ks) ≡ false = no_number_above k (n + 1) ks (omega (arith, l, c)) in
          let nothing : first_at (has_child k) (n + 1) (a + length g.text) (preorder ks) ≡ None = no_child_above k (n + 1) (a + length g.text) ks (omega (arith, l, c)) in
          let number : n + 1 + length (preorder ks) + (j - length (preorder ks)) ≡ n + suc j = omega (arith, c, length_preorder ks) in
          rw own (first_append (has_child k) (n + 1) (a + length g.text) (preorder ks) (preorder r)
          ∙ rw nothing (within_forest k (n + 1 + length (preorder ks)) _ b (j - length (preorder ks)) r t at (omega (arith, l, c, length_preorder ks)) (omega (arith, h, c, length_preorder ks)) ∙ ap (λ m. first_at (has_child k) m b (places t)) number)))
    ]

pub parent_within : (root : Tree) (k n b : ℕ) (t : Tree) → slice_get (places root) n ≡ Some t → n < k → k < n + nodes t → first_at (has_child k) 0 0 (places root) ≡ first_at (has_child k) n b (places t)
parent_within root k n b t g l h =
    let start : 0 + n ≡ n = omega arith in
    ap (first_at (has_child k) 0 0) (sym (row_places root))
    ∙ (within_forest k 0 0 b n (forest (root ∷ [])) t (ap (λ xs. slice_get xs n) (row_places root) ∙ g) (omega (arith, l)) (omega (arith, h))
    ∙ ap (λ m. first_at (has_child k) m b (places t)) start)

-- the trees before one of them and this one are some of them
pub count_split : (f : Forest) (i : ℕ) (t : Tree) → slice_get (trees f) i ≡ Some t → count (forest (take i (trees f))) + nodes t ≤ count f
count_split none i t g = absurd (none-some t g)
count_split (more h ks r) zero t g = grind arith
count_split (more h ks r) (suc i) t g = omega (arith, count_split r i t g)

pub record Bounds (o : Tree) (n : ℕ) (t : Tree) (m : ℕ) : Type 0 where
  pub from : n < m
  pub to : m + nodes t ≤ n + nodes o

pub child_bounds : (o : Tree) (n : ℕ) (t : Tree) (m i : ℕ) → IsChild o n t m i → Bounds o n t m
child_bounds o n t m i c = grind (arith, count_split)

has_number : (f : Forest) (n i : ℕ) (t : Tree) (k : ℕ) → slice_get (trees f) i ≡ Some t → k ≡ n + count (forest (take i (trees f))) → list_any (λ m. m == k) (numbers n f) ≡ true
has_number none n i t k g e = absurd (none-some t g)
has_number (more h ks r) n zero t k g e = grind arith
has_number (more h ks r) n (suc i) t k g e =
    let fails : (n == k) ≡ false = grind (arith, nat_tests, e) in
    rw (fails, has_number r (n + 1 + count ks) i t k g (omega (arith, e))) refl

-- a node has the parent whose child it is
pub parent_is : (root o : Tree) (n b : ℕ) (t : Tree) (m i : ℕ) → Stands (places root) n b (places o) → IsChild o n t m i → parent (at root m) ≡ Some (at root n)
parent_is root o n b t m i s c =
    let holds : list_any (λ j. j == m) (numbers (n + 1) o.kids) ≡ true = has_number o.kids (n + 1) i t m c.here (omega (arith, c.number)) in
    let here : first_at (has_child m) n b (places o) ≡ Some n = rw holds refl in
    grind (arith, child_bounds o n t m i c, parent_within, stands_get)

-- a node below one that stands in a tree is one of its nodes
pub get_inside : (xs : List Tree) (n b m : ℕ) (t : Tree) → Stands xs n b (places t) → n ≤ m → m < n + nodes t → slice_get (places t) (m - n) ≡ slice_get xs m
get_inside xs n b m t s l h =
    let w = standing xs n b (places t) s in
    let at : length w.front + (m - n) ≡ m = omega (arith, w.number, l) in
    grind (arith, length_places, get_left, get_right)

-- a node whose number is one of those of another node lies within it
pub nested : (xs : List Tree) (n b m c : ℕ) (t u : Tree) → Stands xs n b (places t) → Stands xs m c (places u) → n ≤ m → m < n + nodes t → m + nodes u ≤ n + nodes t
nested xs n b m c t u s r l h =
    omega (arith, l, inside_tree t (m - n) u (get_inside xs n b m t s l h ∙ stands_get xs m c u r))
