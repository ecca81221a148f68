-- The tags and the HTML that a walk makes are those of the tree.
use Rattle.typst_highlight.proofs.Cited.{◌≡◌, ℕ, suc, zero, ◌+◌, ◌<◌, ◌≤◌, true, false, List, [], ◌∷◌, ◌++◌, length, Option, None, Some, refl, ap, sym, ◌∙◌, arith, cond, append_assoc, append-nil, length-append, option_and_then, codes, option_map, Head, Forest, none, more, Tree, count, nodes, places, preorder, first_at, if_none, is_leaf, is_leaf_from, numbers, at, kind_of, start_of, parent, next_sibling, leftmost_leaf, length_places, first_append, Tag, Rule, Context, rule_of, paren_tag, star_tag, underscore_tag, slash_tag, equals_tag, term_tag, kind_if, leaf_of, expression_leaf, tag_by, tag_within, tag_of, spanned, row_html, html_of, tree_of, within, past, passed, next_kind, tag_here, flat, found, tag, forest_html, node_html}
use Rattle.typst_highlight.specs.declared.rules.Rule.TheVariants as rule
use Rattle.typst_highlight.proofs.Cases.{bool_cases}
use Rattle.typst_highlight.proofs.Rows.{Stand, sibling_among, here, below, behind, alone, parent_here, sibling_here, sibling_cases, sibling_kind, at_later}
use Rattle.typst_highlight.proofs.Leaves.{any_leaf, any_offset, all_from}
use Rattle.typst_highlight.proofs.Contexts.{Fits, fits_below, fits_behind, name_law, passed_here}

-- the tag of the first of the trees by its rule
tag_same : (root : Tree) (k : ℕ) (h : Head) (ks r : Forest) (front back : List Tree) (up : Option ℕ) (c : Context) (u : Rule) (e f : Option Tag) → Stand root k (more h ks r) front back up → Fits root k (more h ks r) up c → e ≡ f → tag_here u c (tree_of h ks) r e ≡ tag_by u (at root k) f
tag_same root k h ks r front back up c (rule.Fixed x) e f s w g = refl
tag_same root k h ks r front back up c rule.Paren e f s w g = ap paren_tag (w.parent ∙ sym (ap kind_if (parent_here root k h ks r front back up s)))
tag_same root k h ks r front back up c rule.Star e f s w g = ap star_tag (w.parent ∙ sym (ap kind_if (parent_here root k h ks r front back up s)))
tag_same root k h ks r front back up c rule.Underscore e f s w g = ap underscore_tag (w.parent ∙ sym (ap kind_if (parent_here root k h ks r front back up s)))
tag_same root k h ks r front back up c rule.Slash e f s w g = ap slash_tag (w.parent ∙ sym (ap kind_if (parent_here root k h ks r front back up s)))
tag_same root k h ks r front back up c rule.Equals e f s w g = ap equals_tag (w.parent ∙ sym (ap kind_if (parent_here root k h ks r front back up s)))
tag_same root k h ks r front back up c rule.Term e f s w g =
    let next : next_kind r ≡ kind_if (next_sibling (at root k)) = sibling_kind root k (k + (1 + count ks)) r (front ++ places (tree_of h ks)) back up (behind root k h ks r front back up s) (omega arith) ∙ sym (ap kind_if (sibling_here root k h ks r front back up s)) in
    ap (λ p. term_tag p (next_kind r)) (w.parent ∙ sym (ap kind_if (parent_here root k h ks r front back up s))) ∙ ap (term_tag (kind_if (parent (at root k)))) next
tag_same root k h ks r front back up c rule.Name e f s w g = name_law root k h ks r front back up c s w
tag_same root k h ks r front back up c rule.Expression e f s w g = g

room : (root : Tree) (k : ℕ) (h : Head) (ks r : Forest) (front back : List Tree) (up : Option ℕ) → Stand root k (more h ks r) front back up → k < nodes root
room root k h ks r front back up s =
    omega (arith, s.number, ap length s.whole, length-append front (preorder (more h ks r) ++ back), length-append (preorder (more h ks r)) back, length_places root)

-- its tag, where the tag of the expression behind it is known
tag_one : (root : Tree) (k : ℕ) (h : Head) (ks r : Forest) (front back : List Tree) (up : Option ℕ) (c : Context) (n : ℕ) (e : Option Tag) → Stand root k (more h ks r) front back up → Fits root k (more h ks r) up c → nodes root ≤ n + k → ((m : ℕ) → nodes root ≤ m + (k + (1 + count ks)) → e ≡ option_and_then (tag_within m) (expression_leaf (at root k))) → tag_here (rule_of h.kind) c (tree_of h ks) r e ≡ tag_within n (at root k)
tag_one root k h ks r front back up c zero e s w l f = absurd (omega (arith, l, room root k h ks r front back up s))
tag_one root k h ks r front back up c (suc m) e s w l f =
    let kind : kind_of (at root k) ≡ h.kind = ap (λ u. u.head.kind) (here root k (tree_of h ks) front _ s.whole s.number) in
    tag_same root k h ks r front back up c (rule_of h.kind) e (option_and_then (tag_within m) (expression_leaf (at root k))) s w (f m (omega (arith, l)))
    ∙ ap (λ q. tag_by (rule_of q) (at root k) (option_and_then (tag_within m) (expression_leaf (at root k)))) (sym kind)

-- what is found in trees that stand side by side is what the tree's list of nodes has
record FoundIs (root : Tree) (k : ℕ) (f : Forest) (n : ℕ) (c : Context) : Type 0 where
  leaf : (found c f).leaf ≡ option_map (λ m. tag_within n (at root m)) (first_at any_leaf k 0 (preorder f))
  expression : (j : ℕ) → j < k → (found c f).expression ≡ option_and_then (tag_within n) (option_and_then leaf_of (sibling_among root j (numbers k f)))

flat_law : (root : Tree) (n : ℕ) (x : Option ℕ) → flat (option_map (λ m. tag_within n (at root m)) x) ≡ option_and_then (tag_within n) (option_map (at root) x)
flat_law root n x = grind arith

-- the tag of the first leaf of the first of the trees
own_law : (root : Tree) (k : ℕ) (h : Head) (ks r : Forest) (front back : List Tree) (up : Option ℕ) (c : Context) (n : ℕ) → Stand root k (more h ks r) front back up → Fits root k (more h ks r) up c → nodes root ≤ n + k
    → (is_leaf (tree_of h ks) ≡ false → (found (within c (tree_of h ks) r) ks).leaf ≡ option_map (λ m. tag_within n (at root m)) (first_at any_leaf (k + 1) 0 (preorder ks)))
    → ((m : ℕ) → nodes root ≤ m + (k + (1 + count ks)) → (found (past c (tree_of h ks) (passed c (tree_of h ks) r)) r).expression ≡ option_and_then (tag_within m) (expression_leaf (at root k)))
    → (found c (more h ks r)).own ≡ option_map (λ m. tag_within n (at root m)) (first_at any_leaf k 0 (places (tree_of h ks)))
own_law root k h ks r front back up c n s w l inner later = grind (arith, cond, bool_cases, tag_one, any_offset, at_later)

expression_next : (root : Tree) (k : ℕ) (h : Head) (ks r : Forest) (front back : List Tree) (up : Option ℕ) (m : ℕ) (e : Option Tag) → Stand root k (more h ks r) front back up → e ≡ option_and_then (tag_within m) (option_and_then leaf_of (sibling_among root k (numbers (k + (1 + count ks)) r))) → e ≡ option_and_then (tag_within m) (expression_leaf (at root k))
expression_next root k h ks r front back up m e s f =
    f ∙ sym (ap (λ o. option_and_then (tag_within m) (option_and_then leaf_of o)) (sibling_here root k h ks r front back up s))

-- the first leaf of a node
leftmost_law : (root : Tree) (k : ℕ) (h : Head) (ks r : Forest) (front back : List Tree) (up : Option ℕ) → Stand root k (more h ks r) front back up → leftmost_leaf (at root k) ≡ option_map (at root) (first_at any_leaf k 0 (places (tree_of h ks)))
leftmost_law root k h ks r front back up s =
    ap (option_map (at root))
    (ap (λ u. first_at (is_leaf_from 0) k (start_of (at root k)) (places u)) (here root k (tree_of h ks) front _ s.whole s.number)
    ∙ all_from 0 k (start_of (at root k)) 0 (places (tree_of h ks)) (omega arith))

expression_law : (root : Tree) (k : ℕ) (h : Head) (ks r : Forest) (front back : List Tree) (up : Option ℕ) (c : Context) (n j : ℕ) → Stand root k (more h ks r) front back up → j < k
    → (found c (more h ks r)).own ≡ option_map (λ m. tag_within n (at root m)) (first_at any_leaf k 0 (places (tree_of h ks)))
    → (found (past c (tree_of h ks) (passed c (tree_of h ks) r)) r).expression ≡ option_and_then (tag_within n) (option_and_then leaf_of (sibling_among root j (numbers (k + (1 + count ks)) r)))
    → (found c (more h ks r)).expression ≡ option_and_then (tag_within n) (option_and_then leaf_of (sibling_among root j (numbers k (more h ks r))))
expression_law root k h ks r front back up c n j s l own later =
    let t : Tree = tree_of h ks in
    let kind : kind_of (at root k) ≡ h.kind = ap (λ u. u.head.kind) (here root k t front _ s.whole s.number) in
    let next = sibling_cases root j k h ks r front back up s l in
    let hash : flat (found c (more h ks r)).own ≡ option_and_then (tag_within n) (leftmost_leaf (at root k)) = ap flat own ∙ (flat_law root n (first_at any_leaf k 0 (places t)) ∙ sym (ap (option_and_then (tag_within n)) (leftmost_law root k h ks r front back up s))) in
    grind arith

leaf_law : (root : Tree) (k : ℕ) (h : Head) (ks r : Forest) (c : Context) (n : ℕ)
    → (found c (more h ks r)).own ≡ option_map (λ m. tag_within n (at root m)) (first_at any_leaf k 0 (places (tree_of h ks)))
    → (found (past c (tree_of h ks) (passed c (tree_of h ks) r)) r).leaf ≡ option_map (λ m. tag_within n (at root m)) (first_at any_leaf (k + (1 + count ks)) 0 (preorder r))
    → (found c (more h ks r)).leaf ≡ option_map (λ m. tag_within n (at root m)) (first_at any_leaf k 0 (preorder (more h ks r)))
leaf_law root k h ks r c n own later =
    let t : Tree = tree_of h ks in
    let number : k + length (places t) ≡ k + (1 + count ks) = omega (arith, length_places t) in
    let all : first_at any_leaf k 0 (places t ++ preorder r) ≡ if_none (first_at any_leaf k 0 (places t)) (first_at any_leaf (k + (1 + count ks)) 0 (preorder r)) = first_append any_leaf k 0 (places t) (preorder r) ∙ ap (if_none (first_at any_leaf k 0 (places t))) (any_offset (k + length (places t)) _ 0 (preorder r) ∙ ap (λ m. first_at any_leaf m 0 (preorder r)) number) in
    grind arith

found_law : (root : Tree) (k : ℕ) (f : Forest) (front back : List Tree) (up : Option ℕ) (c : Context) (n : ℕ) → Stand root k f front back up → Fits root k f up c → nodes root ≤ n + k → FoundIs root k f n c
found_law root k none front back up c n s w l = record { leaf = refl; expression = λ j m. refl }
found_law root k (more h ks r) front back up c n s w l =
    let t : Tree = tree_of h ks in
    let after : Stand root (k + (1 + count ks)) r (front ++ places t) back up = behind root k h ks r front back up s in
    let fits : Fits root (k + (1 + count ks)) r up (past c t (passed c t r)) = fits_behind root k h ks r front back up c (passed c t r) s w (passed_here root k h ks r front back up c s w) in
    let later : FoundIs root (k + (1 + count ks)) r n (past c t (passed c t r)) = found_law root (k + (1 + count ks)) r (front ++ places t) back up (past c t (passed c t r)) n after fits (omega (arith, l)) in
    let own : (found c (more h ks r)).own ≡ option_map (λ m. tag_within n (at root m)) (first_at any_leaf k 0 (places t)) =
    own_law root k h ks r front back up c n s w l
    (λ not_so. (found_law root (k + 1) ks (front ++ t ∷ []) (preorder r ++ back) (Some k) (within c t r) n (below root k h ks r front back up s) (fits_below root k h ks r front back up c s w not_so) (omega (arith, l))).leaf)
    (λ m q. expression_next root k h ks r front back up m _ s ((found_law root (k + (1 + count ks)) r (front ++ places t) back up (past c t (passed c t r)) m after fits q).expression k (omega arith))) in
    record {
      leaf = leaf_law root k h ks r c n own later.leaf;
      expression = λ j m. expression_law root k h ks r front back up c n j s m own (later.expression j (omega (arith, m)));
    }

-- the tag of the first of the trees
pub tag_law : (root : Tree) (k : ℕ) (h : Head) (ks r : Forest) (front back : List Tree) (up : Option ℕ) (c : Context) → Stand root k (more h ks r) front back up → Fits root k (more h ks r) up c → tag c (tree_of h ks) r ≡ tag_of (at root k)
tag_law root k h ks r front back up c s w =
    let t : Tree = tree_of h ks in
    let after : Stand root (k + (1 + count ks)) r (front ++ places t) back up = behind root k h ks r front back up s in
    let fits : Fits root (k + (1 + count ks)) r up (past c t (passed c t r)) = fits_behind root k h ks r front back up c (passed c t r) s w (passed_here root k h ks r front back up c s w) in
    tag_one root k h ks r front back up c (nodes root) (found (past c t (passed c t r)) r).expression s w (omega arith)
    (λ m q. expression_next root k h ks r front back up m _ s ((found_law root (k + (1 + count ks)) r (front ++ places t) back up (past c t (passed c t r)) m after fits q).expression k (omega arith)))

no_kids : (root : Tree) (n : ℕ) (h : Head) (ks : Forest) (c : Context) → is_leaf (tree_of h ks) ≡ true → forest_html c ks ≡ row_html root n ks
no_kids root n h ks c e = grind arith

-- the HTML of the trees
html_law : (root : Tree) (k : ℕ) (f : Forest) (front back : List Tree) (up : Option ℕ) (c : Context) → Stand root k f front back up → Fits root k f up c → forest_html c f ≡ row_html root k f
html_law root k none front back up c s w = refl
html_law root k (more h ks r) front back up c s w =
    let t : Tree = tree_of h ks in
    let inner : forest_html (within c t r) ks ≡ row_html root (k + 1) ks =
    bool_cases (is_leaf t)
    (λ is_so. no_kids root (k + 1) h ks (within c t r) is_so)
    (λ not_so. html_law root (k + 1) ks (front ++ t ∷ []) (preorder r ++ back) (Some k) (within c t r) (below root k h ks r front back up s) (fits_below root k h ks r front back up c s w not_so)) in
    let later : forest_html (past c t (passed c t r)) r ≡ row_html root (k + (1 + count ks)) r = html_law root (k + (1 + count ks)) r (front ++ places t) back up (past c t (passed c t r)) (behind root k h ks r front back up s) (fits_behind root k h ks r front back up c (passed c t r) s w (passed_here root k h ks r front back up c s w)) in
    grind (arith, ap spanned (tag_law root k h ks r front back up c s w))

-- the HTML of the root
pub root_law : (root : Tree) (c : Context) → Fits root 0 (more root.head root.kids none) None c → codes "<code>" ++ (node_html c root none ++ codes "</code>") ≡ html_of root
root_law root c w =
    ap (λ bs. codes "<code>" ++ (bs ++ codes "</code>"))
    (sym (append-nil (node_html c root none)) ∙ html_law root 0 (more root.head root.kids none) [] [] None c (alone root) w)

-- what was written to an empty text in three steps
pub written_law : (root : Tree) (c : Context) (start first second last : List ℕ) → Fits root 0 (more root.head root.kids none) None c → start ≡ [] → first ≡ start ++ codes "<code>" → second ≡ first ++ node_html c root none → last ≡ second ++ codes "</code>" → last ≡ html_of root
written_law root c start first second last w e f g h = grind (arith, append_assoc, root_law)
