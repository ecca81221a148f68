-- A node that doesn't meet a stretch has none below it that does.
use Rattle.typst_flat.proofs.Cited.{◌≡◌, ℕ, zero, suc, ◌+◌, ◌<◌, ◌≤◌, false, List, [], ◌∷◌, ◌++◌, length, map, Option, Some, refl, ap, sym, subst, ◌∙◌, arith, inl, inr, append-nil, length-append, filter, nat_tests, Head, texts, at, node_of, start_of, texts_append, texts_places, tree_of, Stand, here, starts, below, behind, numbers_from, meets, Stretch}
use Rattle.std.proofs.lemmas.Bool.{cases_lt}
use Rattle.typst_tree.specs.Tree.{Forest, none, more, Tree, count, joined, places, preorder, text_of}

-- the node at j lies within the bytes a up to b
pub record Within (root : Tree) (j a b : ℕ) : Type 0 where
  pub from : a ≤ start_of (at root j)
  pub to : start_of (at root j) + length (text_of (node_of (at root j))) ≤ b

wider : (root : Tree) (j a b c d : ℕ) → c ≤ a → b ≤ d → Within root j a b → Within root j c d
wider root j a b c d h l w = record { from = omega (arith, w.from); to = omega (arith, w.to) }

itself : (root : Tree) (k : ℕ) (h : Head) (ks r : Forest) (front back : List Tree) (up : Option ℕ) → Stand root k (more h ks r) front back up → Within root k (start_of (at root k)) (start_of (at root k) + length (text_of (tree_of h ks)))
itself root k h ks r front back up s =
    let same : length (text_of (node_of (at root k))) ≡ length (text_of (tree_of h ks)) = ap (λ t. length (text_of t)) (here root k (tree_of h ks) front _ s.whole s.number) in
    record { from = omega arith; to = omega (arith, same) }

start_below : (root : Tree) (k : ℕ) (h : Head) (ks r : Forest) (front back : List Tree) (up : Option ℕ) → Stand root k (more h ks r) front back up → start_of (at root (k + 1)) ≡ start_of (at root k) + length h.text
start_below root k h ks r front back up s =
    let w = below root k h ks r front back up s in
    omega (arith, starts root k front _ s.whole s.number, starts root (k + 1) (front ++ tree_of h ks ∷ []) _ w.whole w.number, ap length (texts_append front (tree_of h ks ∷ [])), length-append (texts front) (texts (tree_of h ks ∷ [])), ap length (append-nil h.text))

start_behind : (root : Tree) (k : ℕ) (h : Head) (ks r : Forest) (front back : List Tree) (up : Option ℕ) → Stand root k (more h ks r) front back up → start_of (at root (k + (1 + count ks))) ≡ start_of (at root k) + length (text_of (tree_of h ks))
start_behind root k h ks r front back up s =
    let w = behind root k h ks r front back up s in
    omega (arith, starts root k front _ s.whole s.number, starts root (k + (1 + count ks)) (front ++ places (tree_of h ks)) _ w.whole w.number, ap length (texts_append front (places (tree_of h ks))), length-append (texts front) (texts (places (tree_of h ks))), ap length (texts_places (tree_of h ks)))

-- the nodes of trees that stand side by side lie within the trees' bytes
pub inside : (root : Tree) (k j : ℕ) (f : Forest) (front back : List Tree) (up : Option ℕ) → Stand root k f front back up → k ≤ j → j < k + count f → Within root j (start_of (at root k)) (start_of (at root k) + length (joined f))
inside root k j none front back up s l m = absurd (omega (arith, l, m))
inside root k j (more h ks r) front back up s l m =
    let t : Tree = tree_of h ks in
    let a : ℕ = start_of (at root k) in
    let total : length (joined (more h ks r)) ≡ length h.text + (length (joined ks) + length (joined r)) = omega (arith, length-append h.text (joined ks ++ joined r), length-append (joined ks) (joined r)) in
    let own : length (text_of t) ≡ length h.text + length (joined ks) = length-append h.text (joined ks) in
    elim (cases_lt j (k + (1 + count ks))) [
      | inl early ↦ (elim (cases_lt k j) [
        | inl later ↦ (let first = start_below root k h ks r front back up s in
            wider root j _ _ a (a + length (joined (more h ks r))) (omega (arith, first)) (omega (arith, first, total)) (inside root (k + 1) j ks (front ++ t ∷ []) (preorder r ++ back) (Some k) (below root k h ks r front back up s) (omega (arith, later)) (omega (arith, early))))
        | inr same ↦ (let number : k ≡ j = omega (arith, l, same) in
            subst (λ n. Within root n a (a + length (joined (more h ks r)))) number (wider root k _ _ a (a + length (joined (more h ks r))) (omega arith) (omega (arith, total, own)) (itself root k h ks r front back up s)))
      ])
      | inr late ↦ (let next = start_behind root k h ks r front back up s in
          wider root j _ _ a (a + length (joined (more h ks r))) (omega (arith, next)) (omega (arith, next, total, own)) (inside root (k + (1 + count ks)) j r (front ++ places t) back up (behind root k h ks r front back up s) (omega (arith, late)) (omega (arith, m))))
    ]

-- what lies within a node that doesn't meet a stretch doesn't meet it
outside_one : (s : Stretch) (root : Tree) (n j : ℕ) → Within root j (start_of (at root n)) (start_of (at root n) + length (text_of (node_of (at root n)))) → meets s (at root n) ≡ false → meets s (at root j) ≡ false
outside_one s root n j w e = grind (arith, nat_tests, e)

-- nor does any node of its subtree
pub outside : (s : Stretch) (root : Tree) (n : ℕ) (h : Head) (ks r : Forest) (front back : List Tree) (up : Option ℕ) → Stand root n (more h ks r) front back up → meets s (at root n) ≡ false → (j : ℕ) → n ≤ j → j < n + (1 + count ks) → meets s (at root j) ≡ false
outside s root n h ks r front back up st e j l m =
    let t : Tree = tree_of h ks in
    let own : length (text_of t) ≡ length h.text + length (joined ks) = length-append h.text (joined ks) in
    let is : node_of (at root n) ≡ t = here root n t front _ st.whole st.number in
    let text : length (text_of (node_of (at root n))) ≡ length (text_of t) = ap (λ u. length (text_of u)) is in
    let a : ℕ = start_of (at root n) in
    elim (cases_lt n j) [
      | inl later ↦ (let first = start_below root n h ks r front back up st in
          outside_one s root n j (wider root j _ _ a (a + length (text_of (node_of (at root n)))) (omega (arith, first)) (omega (arith, first, own, text)) (inside root (n + 1) j ks (front ++ t ∷ []) (preorder r ++ back) (Some n) (below root n h ks r front back up st) (omega (arith, later)) (omega (arith, m)))) e)
      | inr same ↦ (let number : n ≡ j = omega (arith, l, same) in ap (λ k. meets s (at root k)) (sym number) ∙ e)
    ]

-- numbers whose nodes don't meet a stretch
pub passed_over : (s : Stretch) (root : Tree) (n many c : ℕ) → ((j : ℕ) → n ≤ j → j < n + many → meets s (at root j) ≡ false) → filter (meets s) (map (at root) (numbers_from n (many + c))) ≡ filter (meets s) (map (at root) (numbers_from (n + many) c))
passed_over s root n zero c h = grind arith
passed_over s root n (suc many) c h =
    let fails : meets s (at root n) ≡ false = h n (omega arith) (omega arith) in
    let total : suc many + c ≡ suc (many + c) = omega arith in
    let number : n + 1 + many ≡ n + suc many = omega arith in
    let first : filter (meets s) (map (at root) (numbers_from n (suc (many + c)))) ≡ filter (meets s) (map (at root) (numbers_from (n + 1) (many + c))) = rw fails refl in
    ap (λ k. filter (meets s) (map (at root) (numbers_from n k))) total
    ∙ (first
    ∙ (passed_over s root (n + 1) many c (λ j l m. h j (omega (arith, l)) (omega (arith, m)))
    ∙ ap (λ k. filter (meets s) (map (at root) (numbers_from k c))) number))
