-- Where trees that stand side by side are in the tree's nodes in preorder.
use Rattle.typst_highlight.proofs.Cited.{◌≡◌, ℕ, ◌+◌, ◌<◌, ◌≤◌, ◌==◌, Bool, true, false, ◌&&◌, not, List, [], ◌∷◌, ◌++◌, length, map, Option, None, Some, refl, ap, ◌∙◌, arith, cond, append_assoc, append-nil, length-append, nat_lt, find, option_and_then, slice_get, unwrap_or, option_map, nat_tests, is_trivia, Head, Forest, none, more, Tree, count, places, preorder, saturated, texts, numbers, first_at, if_none, has_child, At, at, node_of, kind_of, start_of, parent, children, is_sibling_after, next_sibling, length_places, first_append, tree_of, next_kind, take-append_seam}
use Rattle.typst_tree.proofs.PassesOver.{no_child_before, no_child_after}
use Rattle.typst_highlight.proofs.Bounds.{member, member_from, member_until, not_before}
use Rattle.typst_tree.proofs.NodesOfStretch.{get_seam}

-- the next sibling of the node j under a parent
abbrev pub sibling_under : Tree → Option ℕ → ℕ → Option At
sibling_under root up j = option_and_then (λ p. find (is_sibling_after (at root j)) (children p)) (option_map (at root) up)

-- the next sibling of the node j among these
abbrev pub sibling_among : Tree → ℕ → List ℕ → Option At
sibling_among root j ns = find (is_sibling_after (at root j)) (map (at root) ns)

-- the trees f, the first of which has the number k, stand side by side under the node `up`, behind the nodes `front` and before the nodes `back`
pub record Stand (root : Tree) (k : ℕ) (f : Forest) (front back : List Tree) (up : Option ℕ) : Type 0 where
  pub whole : places root ≡ front ++ (preorder f ++ back)
  pub number : k ≡ length front
  pub others : (j : ℕ) → k ≤ j → j < k + count f → member j (numbers k f) ≡ false → first_at (has_child j) 0 0 front ≡ None
  pub parents : (j : ℕ) → member j (numbers k f) ≡ true → parent (at root j) ≡ option_map (at root) up
  pub siblings : (j : ℕ) → k ≤ j → sibling_under root up j ≡ sibling_among root j (numbers k f)

-- the first of the trees
pub here : (root : Tree) (k : ℕ) (t : Tree) (front rest : List Tree) → places root ≡ front ++ (t ∷ rest) → k ≡ length front → node_of (at root k) ≡ t
here root k t front rest e n =
    let found : slice_get (places root) k ≡ Some t = ap (slice_get (places root)) n ∙ (ap (λ xs. slice_get xs (length front)) e ∙ get_seam front t rest) in
    ap (λ o. unwrap_or o root) found

pub starts : (root : Tree) (k : ℕ) (front rest : List Tree) → places root ≡ front ++ rest → k ≡ length front → start_of (at root k) ≡ length (texts front)
starts root k front rest e n = grind (arith, take-append_seam)

-- a child of the node at k isn't among the trees of the row
not_in_row : (j k : ℕ) (ks r : Forest) → k + 1 ≤ j → j < k + 1 + count ks → member j (k ∷ numbers (k + 1 + count ks) r) ≡ false
not_in_row j k ks r h l = grind (arith, nat_tests, not_before)

-- nothing before the node at k has one of its children, or one below them
before_kid : (j k : ℕ) (h : Head) (ks r : Forest) (root : Tree) (front back : List Tree) (up : Option ℕ) → Stand root k (more h ks r) front back up → k + 1 ≤ j → j < k + 1 + count ks → first_at (has_child j) 0 0 front ≡ None
before_kid j k h ks r root front back up s l m = grind (arith, not_in_row)

pub at_once : (p : ℕ → ℕ → Tree → Bool) (n a : ℕ) (t : Tree) (rest : List Tree) → p n (saturated a) t ≡ true → first_at p n a (t ∷ rest) ≡ Some n
at_once p n a t rest h = rw h refl

pub at_later : (p : ℕ → ℕ → Tree → Bool) (n a : ℕ) (t : Tree) (rest : List Tree) → p n (saturated a) t ≡ false → first_at p n a (t ∷ rest) ≡ first_at p (n + 1) (a + length t.head.text) rest
at_later p n a t rest h = rw h refl

-- what is found behind nodes where nothing is
pub found_behind : (p : ℕ → ℕ → Tree → Bool) (root : Tree) (k : ℕ) (front rest : List Tree) → places root ≡ front ++ rest → k ≡ length front → first_at p 0 0 front ≡ None → first_at p 0 0 (places root) ≡ first_at p k (length (texts front)) rest
found_behind p root k front rest e n nothing =
    let number : 0 + length front ≡ k = omega (arith, n) in
    let offset : 0 + length (texts front) ≡ length (texts front) = omega arith in
    ap (first_at p 0 0) e ∙ (first_append p 0 0 front rest ∙ (ap (λ o. if_none o (first_at p (0 + length front) (0 + length (texts front)) rest)) nothing ∙ rw (number, offset) refl))

parent_of_kid : (j k : ℕ) (h : Head) (ks r : Forest) (root : Tree) (front back : List Tree) (up : Option ℕ) → Stand root k (more h ks r) front back up → member j (numbers (k + 1) ks) ≡ true → parent (at root j) ≡ Some (at root k)
parent_of_kid j k h ks r root front back up s e =
    let rest : List Tree = (preorder ks ++ preorder r) ++ back in
    let nothing : first_at (has_child j) 0 0 front ≡ None = before_kid j k h ks r root front back up s (member_from j (k + 1) ks e) (member_until j (k + 1) ks e) in
    ap (option_map (at root))
    (found_behind (has_child j) root k front (tree_of h ks ∷ rest) s.whole s.number nothing
    ∙ at_once (has_child j) k (length (texts front)) (tree_of h ks) rest e)

-- the children of the first of the trees
pub below : (root : Tree) (k : ℕ) (h : Head) (ks r : Forest) (front back : List Tree) (up : Option ℕ) → Stand root k (more h ks r) front back up → Stand root (k + 1) ks (front ++ tree_of h ks ∷ []) (preorder r ++ back) (Some k)
below root k h ks r front back up s =
    let t : Tree = tree_of h ks in
    record {
      whole = s.whole ∙ simp append_assoc refl;
      number = omega (arith, s.number, length-append front (t ∷ []));
      others = λ j l m e.
          let alone : first_at (has_child j) (0 + length front) (0 + length (texts front)) (t ∷ []) ≡ None = at_later (has_child j) (0 + length front) (0 + length (texts front)) t [] (let number : 0 + length front ≡ k = omega (arith, s.number) in rw number e) in
          first_append (has_child j) 0 0 front (t ∷ []) ∙ rw (before_kid j k h ks r root front back up s l m, alone) refl;
      parents = λ j e. parent_of_kid j k h ks r root front back up s e;
      siblings = λ j l.
          ap (λ u. find (is_sibling_after (at root j)) (map (at root) (numbers (k + 1) u.kids))) (here root k t front _ s.whole s.number);
    }

past_others : (j k : ℕ) (h : Head) (ks r : Forest) (root : Tree) (front back : List Tree) (up : Option ℕ) → Stand root k (more h ks r) front back up → k + (1 + count ks) ≤ j → j < k + (1 + count ks) + count r → member j (numbers (k + (1 + count ks)) r) ≡ false → first_at (has_child j) 0 0 (front ++ places (tree_of h ks)) ≡ None
past_others j k h ks r root front back up s l m e =
    let t : Tree = tree_of h ks in
    let other : (k == j) ≡ false = grind (arith, nat_tests, l) in
    let row : k + 1 + count ks ≡ k + (1 + count ks) = omega arith in
    let mine : member j (numbers k (more h ks r)) ≡ false = rw (other, row) e in
    let first : first_at (has_child j) 0 0 front ≡ None = s.others j (omega (arith, l)) (omega (arith, m)) mine in
    let inside : first_at (has_child j) (0 + length front) (0 + length (texts front)) (places t) ≡ None = no_child_after j (0 + length front) (0 + length (texts front)) t (omega (arith, l, s.number)) in
    first_append (has_child j) 0 0 front (places t) ∙ rw (first, inside) refl

past_siblings : (j k n : ℕ) (root : Tree) (ns : List ℕ) → k < j → n ≡ k → sibling_among root j (n ∷ ns) ≡ sibling_among root j ns
past_siblings j k n root ns l e = grind arith

-- the trees behind the first
pub behind : (root : Tree) (k : ℕ) (h : Head) (ks r : Forest) (front back : List Tree) (up : Option ℕ) → Stand root k (more h ks r) front back up → Stand root (k + (1 + count ks)) r (front ++ places (tree_of h ks)) back up
behind root k h ks r front back up s =
    let t : Tree = tree_of h ks in
    let row : k + 1 + count ks ≡ k + (1 + count ks) = omega arith in
    record {
      whole = s.whole ∙ simp append_assoc refl;
      number = omega (arith, s.number, length-append front (places t), length_places t);
      others = λ j l m e. past_others j k h ks r root front back up s l m e;
      parents = λ j e.
          let other : (k == j) ≡ false = (let least : k + (1 + count ks) ≤ j = member_from j (k + (1 + count ks)) r e in grind (arith, nat_tests, least)) in
          s.parents j (rw (other, row) e);
      siblings = λ j l.
          s.siblings j (omega (arith, l)) ∙ (past_siblings j k k root (numbers (k + 1 + count ks) r) (omega (arith, l)) refl ∙ ap (λ n. sibling_among root j (numbers n r)) row);
    }

alone_only : (j : ℕ) (root : Tree) → member j (numbers 0 (more root.head root.kids none)) ≡ true → j ≡ 0
alone_only j root e = grind arith

past_root : (j : ℕ) (root : Tree) → sibling_among root j (0 ∷ []) ≡ None
past_root j root = let fails : nat_lt j 0 ≡ false = grind (arith, nat_tests) in rw fails refl

-- the root alone
pub alone : (root : Tree) → Stand root 0 (more root.head root.kids none) [] [] None
alone root = grind (arith, append-nil, alone_only, no_child_before, past_root)

-- the parent of the first of the trees
pub parent_here : (root : Tree) (k : ℕ) (h : Head) (ks r : Forest) (front back : List Tree) (up : Option ℕ) → Stand root k (more h ks r) front back up → parent (at root k) ≡ option_map (at root) up
parent_here root k h ks r front back up s = grind arith

-- its next sibling
pub sibling_here : (root : Tree) (k : ℕ) (h : Head) (ks r : Forest) (front back : List Tree) (up : Option ℕ) → Stand root k (more h ks r) front back up → next_sibling (at root k) ≡ sibling_among root k (numbers (k + (1 + count ks)) r)
sibling_here root k h ks r front back up s = grind arith

-- the first of the trees behind the node j, or what is behind it
pub sibling_cases : (root : Tree) (j k : ℕ) (h : Head) (ks r : Forest) (front back : List Tree) (up : Option ℕ) → Stand root k (more h ks r) front back up → j < k → sibling_among root j (numbers k (more h ks r)) ≡ cond (is_trivia h.kind) (sibling_among root j (numbers (k + (1 + count ks)) r)) (Some (at root k))
sibling_cases root j k h ks r front back up s l =
    let row : k + 1 + count ks ≡ k + (1 + count ks) = omega arith in
    let later : nat_lt j k ≡ true = grind (arith, nat_tests, l) in
    let kind : kind_of (at root k) ≡ h.kind = ap (λ u. u.head.kind) (here root k (tree_of h ks) front _ s.whole s.number) in
    rw (later, kind, row) (elim (is_trivia h.kind) as (λ b. cond (true && not b) (Some (at root k)) (sibling_among root j (numbers (k + (1 + count ks)) r)) ≡ cond b (sibling_among root j (numbers (k + (1 + count ks)) r)) (Some (at root k))) [ true ↦ refl | false ↦ refl ])

-- the kind of the next sibling
pub sibling_kind : (root : Tree) (j k : ℕ) (f : Forest) (front back : List Tree) (up : Option ℕ) → Stand root k f front back up → j < k → next_kind f ≡ option_map kind_of (sibling_among root j (numbers k f))
sibling_kind root j k none front back up s l = refl
sibling_kind root j k (more h ks r) front back up s l =
    let kind : kind_of (at root k) ≡ h.kind = ap (λ u. u.head.kind) (here root k (tree_of h ks) front _ s.whole s.number) in
    grind (arith, sibling_kind root j (k + (1 + count ks)) r (front ++ places (tree_of h ks)) back up (behind root k h ks r front back up s) (omega (arith, l)), sibling_cases root j k h ks r front back up s l)
