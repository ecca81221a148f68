-- The equations of numbered forests.
use Rattle.typst_tree.proofs.Cited.{common_steps, ◌≡◌, ◌≢◌, get_or-set_other, ℕ, zero, suc, ◌+◌, ◌*◌, ◌<◌, ◌≤◌, List, ◌∷◌, ◌++◌, length, take, drop, get_or, refl, ap, ◌∙◌, arith, append-nil, add-one, ◌^◌, [], set, take_all, drop_all, with_items_is, get_or_default, Head, bare_head, Forest, none, more, Tree, forest, joined, count, nodes, text_of, bare, bare_forest, saturated, placed, numbered, numbered_forest, numbered_list, stride, mul-le-mul_left, mul-le-mul_right}
use Rattle.std.specs.Global.{Vec}
use Rattle.std.specs.Vec.{with_items}

pub count_bare : (f : Forest) → count (bare_forest f) ≡ count f
count_bare none = refl
count_bare (more h ks r) = omega (arith, count_bare ks, count_bare r)

pub joined_bare : (f : Forest) → joined (bare_forest f) ≡ joined f
joined_bare none = refl
joined_bare (more h ks r) = simp (joined_bare ks, joined_bare r)

pub placed_bare : (file s a e : ℕ) (h : Head) → bare_head (placed file s a e h) ≡ bare_head h
placed_bare file s a e h = grind arith

pub numbered_forest_bare : (file s a : ℕ) (f : Forest) → bare_forest (numbered_forest file s a f) ≡ bare_forest f
numbered_forest_bare file s a none = refl
numbered_forest_bare file s a (more h ks r) =
    let n = 1 + count ks in
    let inner = stride (n * s) n in
    λ i.
    more (placed_bare file inner a (a + n * s) h i) (numbered_forest_bare file inner (a + inner) ks i) (numbered_forest_bare file s (a + n * s) r i)

pub numbered_bare : (file a p : ℕ) (t : Tree) → bare (numbered file a p t) ≡ bare t
numbered_bare file a p t = simp (placed_bare, numbered_forest_bare)

pub nodes_numbered : (file a p : ℕ) (t : Tree) → nodes (numbered file a p t) ≡ nodes t
nodes_numbered file a p t =
    omega (arith, ap (λ u. nodes u) (numbered_bare file a p t), count_bare t.kids, count_bare (numbered file a p t).kids)

pub text_numbered : (file a p : ℕ) (t : Tree) → text_of (numbered file a p t) ≡ text_of t
text_numbered file a p t = grind (arith, numbered_bare, joined_bare)

pub forest_numbered : (file s a : ℕ) (ts : List Tree) → forest (numbered_list file s a ts) ≡ numbered_forest file s a (forest ts)
forest_numbered file s a [] = refl
forest_numbered file s a (t ∷ ts) =
    ap (more (numbered file a (nodes t * s) t).head (numbered file a (nodes t * s) t).kids) (forest_numbered file s (a + nodes t * s) ts)

pub count_more : (xs : List Tree) (i : ℕ) (x : Tree) → i < length xs → x ≡ get_or xs i x → count (forest (take (i + 1) xs)) ≡ count (forest (take i xs)) + nodes x
count_more [] i x h e = absurd (omega arith)
count_more (y ∷ xs) zero x h e = rw e (omega arith)
count_more (y ∷ xs) (suc i) x h e = rw add-one (omega (arith, rw add-one at (count_more xs i x (omega arith) e)))

pub count_take : (xs : List Tree) (i : ℕ) → count (forest (take i xs)) ≤ count (forest xs)
count_take [] zero = omega arith
count_take [] (suc i) = omega arith
count_take (y ∷ xs) zero = omega arith
count_take (y ∷ xs) (suc i) = omega (arith, count_take xs i)

pub nodes_at : (xs : List Tree) (i : ℕ) (d : Tree) → i < length xs → nodes (get_or xs i d) ≤ count (forest xs)
nodes_at [] i d h = absurd (omega arith)
nodes_at (y ∷ xs) zero d h = omega arith
nodes_at (y ∷ xs) (suc i) d h = omega (arith, nodes_at xs i d (omega arith))

pub stretch_fits : (s a e i : ℕ) (xs : List Tree) (x : Tree) → i < length xs → x ≡ get_or xs i x → a + count (forest xs) * s ≤ e → a + count (forest (take i xs)) * s + nodes x * s ≤ e
stretch_fits s a e i xs x h p r = grind (arith, common_steps, count_more, count_take, mul-le-mul_right)

pub saturated_fits : (s n : ℕ) → 0 < s → n * s ≤ 2 ^ 47 → saturated n ≡ n
saturated_fits s n h k = let m : n * 1 ≤ n * s = mul-le-mul_left n h in omega (arith, m)

-- what a loop over the children knows at child i, whose nodes it counted as n
pub record Next (s e at n i : ℕ) (xs : List Tree) (x : Tree) : Type 0 where
  pub more_by : count (forest (take (i + 1) xs)) ≡ count (forest (take i xs)) + nodes x
  pub counted : n ≡ nodes x
  pub below : nodes x ≤ count (forest xs)
  pub enough : nodes x ≤ nodes x * s
  pub fits : at + nodes x * s ≤ e

pub next_at : (s a e at n i : ℕ) (xs : List Tree) (x : Tree) → 0 < s → i < length xs → x ≡ get_or xs i x → at ≡ a + count (forest (take i xs)) * s → a + count (forest xs) * s ≤ e → e ≤ 2 ^ 47 → n ≡ saturated (nodes x) → Next s e at n i xs x
next_at s a e at n i xs x pos h is p room f d = let m = stretch_fits s a e i xs x h is room in grind (arith, mul-le-mul_left, count_more, saturated_fits, nodes_at)

pub next_fits : (s a e at n i : ℕ) (xs ys : List Tree) (x : Tree) → 0 < s → i < length xs → ((k : ℕ) (d : Tree) → i ≤ k → get_or ys k d ≡ get_or xs k d) → at ≡ a + count (forest (take i xs)) * s → a + count (forest xs) * s ≤ e → e ≤ 2 ^ 47 → n ≡ saturated (nodes (get_or ys i x)) → Next s e at n i xs (get_or ys i x)
next_fits s a e at n i xs ys x pos h same p room f d =
    let is : get_or ys i x ≡ get_or xs i (get_or ys i x) = same i x (omega arith) ∙ get_or_default xs i x (get_or ys i x) h in
    next_at s a e at n i xs (get_or ys i x) pos h is p room f d

pub numbered_more : (file s a b : ℕ) (xs ys : List Tree) (i : ℕ) (x : Tree) → i < length xs → ys ≡ numbered_list file s a (take i xs) ++ drop i xs → x ≡ get_or ys i x → b ≡ a + count (forest (take i xs)) * s → set ys i (numbered file b (nodes x * s) x) ≡ numbered_list file s a (take (i + 1) xs) ++ drop (i + 1) xs
numbered_more file s a b [] ys i x h e p q = absurd (omega arith)
numbered_more file s a b (y ∷ xs) ys zero x h e p q = grind arith
numbered_more file s a b (y ∷ xs) ys (suc i) x h e p q =
    grind (arith, numbered_more file s (a + nodes y * s) b xs (numbered_list file s (a + nodes y * s) (take i xs) ++ drop i xs) i x (omega arith) refl (p ∙ ap (λ l. get_or l (suc i) x) e) (omega (arith, q)))

pub length_numbered : (file s a : ℕ) (ts : List Tree) → length (numbered_list file s a ts) ≡ length ts
length_numbered file s a [] = refl
length_numbered file s a (t ∷ ts) = omega (arith, length_numbered file s (a + nodes t * s) ts)

pub numbered_vec : (file s a : ℕ) (v : Vec Tree) (xs ys : List Tree) (i : ℕ) → xs ≡ v.items → ys ≡ numbered_list file s a (take i xs) ++ drop i xs → length xs ≤ i → (with_items v ys).items ≡ numbered_list file s a v.items
numbered_vec file s a v xs ys i e w h = grind (arith, take_all, drop_all, append-nil, with_items_is, length_numbered)

pub some_nodes : (ts : List Tree) → 0 < length ts → 0 < count (forest ts)
some_nodes [] h = absurd (omega arith)
some_nodes (t ∷ ts) h = omega arith

-- what stands behind place i stays where another tree is set there
pub later : (xs ys : List Tree) (i : ℕ) (x : Tree) → ((k : ℕ) (d : Tree) → i ≤ k → get_or ys k d ≡ get_or xs k d) → (k : ℕ) (d : Tree) → i + 1 ≤ k → get_or (set ys i x) k d ≡ get_or xs k d
later xs ys i x same k d h = let ne : k ≢ i = omega arith in rw get_or-set_other (same k d (omega arith))
