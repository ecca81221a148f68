-- The first long row on a way, and what is known of places in it.
use Rattle.typst_tree.proofs.Cited.{◌≡◌, Bool, true, false, ℕ, zero, suc, ◌+◌, ◌-◌, ◌^◌, ◌<◌, ◌≤◌, List, ◌∷◌, ◌++◌, length, take, drop, Some, refl, ap, sym, subst, ◌∙◌, arith, inl, inr, length-append, get_or, [], nat_tests, cases_lt, cases_eq, same_Some, slice_get_read, Tree, forest, trees, nodes, places, count, preorder, joined, saturated, texts, Stands, Follows, Joins, reach_of, index_of, EndsBy, IsChild, IsOpen, IsFork, IsPlaced, Holds, long, Known, slice_get, nat_lt}
use Rattle.std.proofs.Math.Logic.{∥∥₁_elim, ∥∥₁_map}
use Rattle.std.proofs.Props.{props}
use Rattle.typst_tree.proofs.SpansAside.{forest_trees, trees_forest}
use Rattle.typst_tree.specs.declared.known.Reach.TheVariants as reach
use Rattle.typst_tree.proofs.LastLeaf.{preorder_split}
use Rattle.typst_tree.proofs.NodesOfStretch.{stands_get}
use Rattle.typst_tree.proofs.Parents.{child_bounds, get_inside, get_left, inside_forest, inside_tree}
use Rattle.typst_tree.proofs.Rows.{first_of_row, kid_of, length_row, row_from}
use Rattle.typst_tree.proofs.WalksInPreorder.{length_preorder}

pub open_root : (root : Tree) → IsOpen root 0
open_root root m o g l h = absurd (omega (arith, l))

-- a node between another and one of that one's children ends before the child
ends_before : (root o : Tree) (n b : ℕ) (t : Tree) (m i k : ℕ) (x : Tree) → Stands (places root) n b (places o) → IsChild o n t m i → n < k → k < m → slice_get (places root) k ≡ Some x → k + nodes x ≤ m
ends_before root o n b t m i k x s c l h g =
    let bounds = child_bounds o n t m i c in
    let own : slice_get (places o) (k - n) ≡ Some x = get_inside (places root) n b k o s (omega (arith, l)) (omega (arith, h, bounds.to)) ∙ g in
    let step : k - n ≡ suc (k - n - 1) = omega (arith, l) in
    let below : slice_get (preorder o.kids) (k - n - 1) ≡ Some x = ap (slice_get (places o)) (sym step) ∙ own in
    let split : preorder o.kids ≡ preorder (forest (take i (trees o.kids))) ++ preorder (forest (drop i (trees o.kids))) = ap preorder (sym (forest_trees o.kids)) ∙ preorder_split i (trees o.kids) in
    grind (arith, length_preorder, get_left, inside_forest)

-- below a node with a short row, what is above a child is short too
pub open_child : (root o : Tree) (n b : ℕ) (t : Tree) (m i : ℕ) → Stands (places root) n b (places o) → IsChild o n t m i → IsOpen root n → length (trees o.kids) ≤ long → IsOpen root m
open_child root o n b t m i s c up short k x g l h =
    let bounds = child_bounds o n t m i c in
    elim (cases_lt k n) [
      | inl before ↦ up k x g before (omega (arith, h, bounds.from))
      | inr after ↦ (elim (cases_eq n k) [
        | inl same ↦ (let here : o ≡ x = same_Some o x (sym (stands_get (places root) n b o s) ∙ (ap (slice_get (places root)) same ∙ g)) in subst (λ y. length (trees y.kids) ≤ long) here short)
        | inr other ↦ (let past = ends_before root o n b t m i k x s c (omega (arith, after, other)) l g in absurd (omega (arith, past, h)))
      ])
    ]

-- there is but one first node with a long row on a way
pub fork_same : (root : Tree) (n : ℕ) (o : Tree) (m : ℕ) (p : Tree) (k : ℕ) → IsFork root n o m → IsFork root n p k → m ≡ k
fork_same root n o m p k v w = grind arith

pub fork_node : (root : Tree) (n : ℕ) (o : Tree) (m : ℕ) (p : Tree) (k : ℕ) → IsFork root n o m → IsFork root n p k → o ≡ p
fork_node root n o m p k v w = grind arith

-- where the way to a node is open down to one that ends by a number, the first long row's owner ends by it
pub ends_by : (root : Tree) (n k : ℕ) (o : Tree) (m b : ℕ) → Stands (places root) m b (places o) → IsOpen root m → m ≤ n → n < m + nodes o → m + nodes o ≤ k → EndsBy root n k
ends_by root n k o m b s up from h l p j f =
    elim (cases_lt j m) [
      | inl before ↦ absurd (omega (arith, f.many, up j p f.here before (omega (arith, from, f.to))))
      | inr after ↦ (let own : slice_get (places o) (j - m) ≡ Some p = get_inside (places root) m b j o s after (omega (arith, f.from, h)) ∙ f.here in
          omega (arith, l, after, inside_tree o (j - m) p own))
    ]

-- a node begins no earlier than those before it
begins_later : (xs : List Tree) (n m : ℕ) → n ≤ m → length (texts (take n xs)) ≤ length (texts (take m xs))
begins_later xs zero m l = omega arith
begins_later [] (suc n) m l = omega arith
begins_later (x ∷ xs) (suc n) zero l = absurd (omega (arith, l))
begins_later (x ∷ xs) (suc n) (suc m) l =
    omega (arith, begins_later xs n m (omega (arith, l)), length-append x.head.text (texts (take n xs)), length-append x.head.text (texts (take m xs)))

pub later : (xs : List Tree) (n b m c : ℕ) (ys zs : List Tree) → Stands xs n b ys → Stands xs m c zs → n ≤ m → b ≤ c
later xs n b m c ys zs s r l = omega (arith, s.begins, r.begins, begins_later xs n m l)

-- what is known of a tree's way is known, with the numbers and bytes between, of each tree within it
pub placed_behind : (root : Tree) (n b size i d e m p less far : ℕ) → IsPlaced root n b size i d e → n ≤ m → m + less ≤ n + size → 0 < less → p ≡ saturated (b + far) → IsPlaced root m p less i (d + (m - n)) (e + far)
placed_behind root n b size i d e m p less far w l h some from = let bounds = child_bounds w.owner w.above w.tree (n - d) i w.child in grind arith

placed_as : (root : Tree) (n b size i d e : ℕ) (k : Known) → IsPlaced root n b size i d e → (index_of k ≡ i) × ((k.below ≡ d) × (k.begins ≡ e)) → IsPlaced root n b size (index_of k) k.below k.begins
placed_as root n b size i d e k w same = grind arith

pub holds_behind : (root : Tree) (n b size m p less far : ℕ) (k j : Known) → Holds root n b size k → n ≤ m → m + less ≤ n + size → 0 < less → p ≡ saturated (b + far) → (reach_of j ≡ reach.Open → (reach_of k ≡ reach.Open) × (m - n ≡ 0)) → (reach_of j ≡ reach.Placed → (reach_of k ≡ reach.Placed) × ((index_of j ≡ index_of k) × ((j.below ≡ k.below + (m - n)) × (j.begins ≡ k.begins + far)))) → Holds root m p less j
holds_behind root n b size m p less far k j w l h some from opens placed =
    record {
      at_open = λ e. (let both = opens e in
          let same : n ≡ m = omega (arith, l, both.1) in
          subst (IsOpen root) same (w.at_open both.0));
      at_placed = λ e. (let both = placed e in
          ∥∥₁_map (w.at_placed both.0) (λ q. placed_as root m p less (index_of k) (k.below + (m - n)) (k.begins + far) j (placed_behind root n b size (index_of k) k.below k.begins m p less far q l h some from) both.1));
    }

-- the children of the first node with a long row are placed in it
pub placed_first : (root o : Tree) (n b : ℕ) (t : Tree) (m c i : ℕ) → Stands (places root) n b (places o) → Stands (places root) m c (places t) → IsChild o n t m i → IsOpen root n → long < length (trees o.kids) → IsPlaced root m c (nodes t) i 0 0
placed_first root o n b t m c i s r w up many =
    let bounds = child_bounds o n t m i w in
    let same : m ≡ m - 0 = omega arith in
    record {
      owner = o;
      above = n;
      tree = t;
      start = c;
      fork = record { here = stands_get (places root) n b o s; first = up; many = many; from = omega (arith, bounds.from); to = omega (arith, bounds.to) };
      after = omega arith;
      child = subst (λ k. IsChild o n t k i) same w;
      within = omega arith;
      stands = subst (λ k. Stands (places root) k c (places t)) same r;
      begins = omega (arith, r.begins);
    }

-- where the tree is in the first long row, whose owner was found
pub record InRow (root o : Tree) (m n b size i d e : ℕ) : Type 0 where
  pub after : d ≤ n
  pub within : i < length (trees o.kids)
  pub number : n - d ≡ m + 1 + count (forest (take i (trees o.kids)))
  pub fits : (t : Tree) → slice_get (trees o.kids) i ≡ Some t → d + size ≤ nodes t
  pub begins : b ≡ saturated (saturated (length (texts (take (n - d) (places root)))) + e)

in_row_of : (root : Tree) (n b size i d e : ℕ) (o : Tree) (m : ℕ) → IsFork root n o m → IsPlaced root n b size i d e → InRow root o m n b size i d e
in_row_of root n b size i d e o m f w = grind (arith, fork_same, fork_node, first_of_row, row_from, same_Some)

pub in_row : (root : Tree) (n b size : ℕ) (k : Known) (o : Tree) (m : ℕ) → Holds root n b size k → reach_of k ≡ reach.Placed → IsFork root n o m → InRow root o m n b size (index_of k) k.below k.begins
in_row root n b size k o m w e f = ∥∥₁_elim (w.at_placed e) (Prim.hlevel props) (in_row_of root n b size (index_of k) k.below k.begins o m f)

pub index_within : (root : Tree) (n b size : ℕ) (k : Known) (o : Tree) (m : ℕ) (xs : List Tree) → Holds root n b size k → reach_of k ≡ reach.Placed → IsFork root n o m → forest xs ≡ o.kids → index_of k < length xs
index_within root n b size k o m xs w e f g =
    omega (arith, (in_row root n b size k o m w e f).within, length_row xs o.kids g)

-- the tree at the known index of a row: it has the node in it
pub record Tops (root o : Tree) (m n b size : ℕ) (k : Known) (x : Tree) : Type 0 where
  pub after : k.below ≤ n
  pub far : k.begins ≤ b
  pub child : IsChild o m x (n - k.below) (index_of k)
  pub fits : k.below + size ≤ nodes x
  pub stands : Stands (places root) (n - k.below) (b - k.begins) (places x)

pub tops : (root : Tree) (n b size : ℕ) (k : Known) (o : Tree) (m c : ℕ) (xs : List Tree) (x : Tree) → Holds root n b size k → reach_of k ≡ reach.Placed → IsFork root n o m → Stands (places root) m c (places o) → forest xs ≡ o.kids → x ≡ get_or xs (index_of k) x → b < 2 ^ 64 - 1 → Tops root o m n b size k x
tops root n b size k o m c xs x w e f s g at small =
    let r = in_row root n b size k o m w e f in
    let here : slice_get (trees o.kids) (index_of k) ≡ Some x = rw (← g, trees_forest) (slice_get_read xs (length xs) (index_of k) x refl (index_within root n b size k o m xs w e f g) at) in
    let kid = kid_of root o m c (index_of k) (trees o.kids) x (n - k.below) (saturated (c + length o.head.text + length (joined (forest (take (index_of k) (trees o.kids)))))) (forest_trees o.kids) s here r.number refl in
    grind arith

-- what follows from what is known of the parent holds of a child
holds_at : (r : reach.the_data) (root o : Tree) (n b : ℕ) (a : Known) (is_long : Bool) (t : Tree) (m c i : ℕ) (k : Known) → reach_of a ≡ r → is_long ≡ nat_lt long (length (trees o.kids)) → Stands (places root) n b (places o) → Stands (places root) m c (places t) → IsChild o n t m i → Holds root n b (nodes o) a → Follows a is_long i (m - n) (c - b) k → reach_of k ≡ reach.Placed → ∥ IsPlaced root m c (nodes t) (index_of k) k.below k.begins ∥₁
holds_at reach.Open root o n b a is_long t m c i k e l s r w h f p =
    let both = f.first p e in
    let is : nat_lt long (length (trees o.kids)) ≡ true = sym l ∙ both.0 in
    let many : long < length (trees o.kids) = grind (arith, nat_tests, is) in
    ∣ placed_as root m c (nodes t) i 0 0 k (placed_first root o n b t m c i s r w (h.at_open e) many) both.1 ∣₁
holds_at reach.Placed root o n b a is_long t m c i k e l s r w h f p =
    let bounds = child_bounds o n t m i w in
    let from : b ≤ c = later (places root) n b m c (places o) (places t) s r (omega (arith, bounds.from)) in
    ∥∥₁_map (h.at_placed e) (λ q. placed_as root m c (nodes t) (index_of a) (a.below + (m - n)) (a.begins + (c - b)) k (placed_behind root n b (nodes o) (index_of a) a.below a.begins m c (nodes t) (c - b) q (omega (arith, bounds.from)) (omega (arith, bounds.to)) (omega arith) (omega (arith, from, r.begins))) (f.further p e))
holds_at reach.Lost root o n b a is_long t m c i k e l s r w h f p = absurd (f.kept p e)

pub holds_child : (root o : Tree) (n b : ℕ) (a : Known) (is_long : Bool) (t : Tree) (m c i : ℕ) (k : Known) → is_long ≡ nat_lt long (length (trees o.kids)) → Stands (places root) n b (places o) → Stands (places root) m c (places t) → IsChild o n t m i → Holds root n b (nodes o) a → Follows a is_long i (m - n) (c - b) k → Holds root m c (nodes t) k
holds_child root o n b a is_long t m c i k l s r w h f =
    record {
      at_open = λ e. (let both = f.at_open e in
          let few : nat_lt long (length (trees o.kids)) ≡ false = sym l ∙ both.1 in
          open_child root o n b t m i s w (h.at_open both.0) (grind (arith, nat_tests, few)));
      at_placed = λ e. holds_at (reach_of a) root o n b a is_long t m c i k refl l s r w h f e;
    }

-- what is known of two ways that are joined
joined_at : (r : reach.the_data) (root : Tree) (n b size m p less far : ℕ) (a w k : Known) → reach_of a ≡ r → Holds root n b size a → (IsOpen root n → Holds root m p less w) → n ≤ m → m + less ≤ n + size → 0 < less → p ≡ saturated (b + far) → Joins a w (m - n) far k → reach_of k ≡ reach.Placed → ∥ IsPlaced root m p less (index_of k) k.below k.begins ∥₁
joined_at reach.Open root n b size m p less far a w k e h way l within some from j f = grind arith
joined_at reach.Placed root n b size m p less far a w k e h way l within some from j f =
    ∥∥₁_map (h.at_placed e) (λ q. placed_as root m p less (index_of a) (a.below + (m - n)) (a.begins + far) k (placed_behind root n b size (index_of a) a.below a.begins m p less far q l within some from) (j.further f e))
joined_at reach.Lost root n b size m p less far a w k e h way l within some from j f = absurd (j.kept f e)

pub holds_joined : (root : Tree) (n b size m p less far : ℕ) (a w k : Known) → Holds root n b size a → (IsOpen root n → Holds root m p less w) → n ≤ m → m + less ≤ n + size → 0 < less → p ≡ saturated (b + far) → Joins a w (m - n) far k → Holds root m p less k
holds_joined root n b size m p less far a w k h way l within some from j =
    record {
      at_open = λ f. (let up = j.at_open f in (subst (Holds root m p less) (sym (j.free up)) (way (h.at_open up))).at_open f);
      at_placed = λ f. joined_at (reach_of a) root n b size m p less far a w k refl h way l within some from j f;
    }
