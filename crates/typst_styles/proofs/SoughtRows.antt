-- The rows of a walk for tokens.
use Rattle.typst_styles.proofs.Cited.{◌≡◌, ℕ, zero, suc, ◌+◌, ◌<◌, List, [], ◌∷◌, ◌++◌, length, map, take, drop, Option, Some, refl, ap, sym, subst, ◌∙◌, arith, append_assoc, append-nil, length-append, Forest, none, more, Tree, count, forest, places, preorder, trees, MatchOption, kids_are, tree_of, behind, after, is_end, AreRows, Below, IsRow, IsSpot, IsTop, IsWhole, Passes, Standing, Takes, first_number, left_of, left_of_all, node, number, of_spot, row, steps_all, steps_left, all_tokens, numbers, linked, left, Boundary, alone, here, steps, Row, Spot}
use Rattle.typst_tree.specs.Steps.{At, at, children}
use Rattle.typst_tree.specs.declared.linked.LinkedNode.{LinkedNode}
use Rattle.typst_tree.proofs.Siblings.{drop_numbers}
use Rattle.typst_tree.proofs.WalksInPreorder.{length_places}
use Rattle.typst_styles.proofs.TokensByNode.{by_node}

-- ---- nodes at their places

standing : (root : Tree) (n : ℕ) (f : Forest) (front back : List Tree) → places root ≡ front ++ (preorder f ++ back) → n ≡ length front → Standing root n f
standing root n none front back e l = tt
standing root n (more h ks r) front back e l =
    let t : Tree = tree_of h ks in (
      here root n t front _ e l,
      (
        standing root (n + 1) ks (front ++ t ∷ []) (preorder r ++ back) (e ∙ simp append_assoc refl) (omega (arith, l, length-append front (t ∷ []))),
        standing root (n + (1 + count ks)) r (front ++ places t) back (e ∙ simp append_assoc refl) (omega (arith, l, length-append front (places t), length_places t)),
      ),
    )

-- all nodes of a tree stand in it
pub standing_root : (root : Tree) → Standing root 0 (more root.head root.kids none)
standing_root root = standing root 0 (more root.head root.kids none) [] [] (alone root).whole refl

-- the places behind the first
abbrev pub rest_of : List At → List At
rest_of [] = []
rest_of (a ∷ rest) = rest

-- what holds of trees from the number m on holds of them from the number of the first of their places on
renumbered : (P : ℕ → Forest → Type 0) (root : Tree) (m : ℕ) (ts : List Tree) (ps : List At) → ps ≡ map (at root) (numbers m (forest ts)) → ((k : ℕ) → P k none) → P m (forest ts) → P (first_number ps) (forest ts)
renumbered P root m [] ps e nothing here = nothing (first_number ps)
renumbered P root m (t ∷ ts) ps e nothing here = subst (λ k. P k (forest (t ∷ ts))) (sym (ap first_number e)) here

-- a row whose places are those of the number m on
pub is_row : (root : Tree) (m : ℕ) (w : Row) → left w.places ≡ map (at root) (numbers m (forest w.nodes.now)) → Standing root m (forest w.nodes.now) → IsRow root w
is_row root m w e s =
    let ts : List Tree = w.nodes.now in
    let ps : List At = left w.places in
    record {
      places = e ∙ renumbered (λ k f. map (at root) (numbers m f) ≡ map (at root) (numbers k f)) root m ts ps e (λ k. refl) refl;
      standing = renumbered (λ k f. Standing root k f) root m ts ps e (λ k. tt) s;
    }

pub left_from : (text : List ℕ) (root : Tree) (m : ℕ) (w : Row) → left w.places ≡ map (at root) (numbers m (forest w.nodes.now)) → row text root m w.start w.around w.context (forest w.nodes.now) ≡ left_of text root w
left_from text root m w e =
    renumbered (λ k f. row text root m w.start w.around w.context f ≡ row text root k w.start w.around w.context f) root m w.nodes.now (left w.places) e (λ k. refl) refl

-- ---- a node is taken out of a row

-- the first node of a row is passed
pub record Passed (w v : Row) (t : Tree) (ts : List Tree) : Type 0 where
  pub were : w.nodes.now ≡ t ∷ ts
  pub placed : left v.places ≡ rest_of (left w.places)
  pub later : v.nodes.now ≡ ts
  pub end : v.start ≡ behind w.start t.head t.kids
  pub then_in : v.context ≡ after w.context t.head.kind
  pub still : v.around ≡ w.around

-- and taken
pub record Taken (w v : Row) (t : Tree) (ts : List Tree) (s : Spot) : Type 0 where
  pub passed : Passed w v t ts
  pub placed : left w.places ≡ linked s.place ∷ left v.places
  pub tree : s.node.node.now ≡ t
  pub start : s.node.start ≡ w.start
  pub role_in : s.context ≡ w.context
  pub around : s.around ≡ w.around
  pub is_last : s.is_last ≡ is_end (forest ts)

pub passes : (root : Tree) (w v : Row) (t : Tree) (ts : List Tree) → IsRow root w → Passed w v t ts → Passes root w v
passes root w v t ts is k = grind (arith, is_row, left_from)

-- the places that are left after the first, whether there is one or not
pub left_after : (ps qs : List At) (o : Option LinkedNode) → MatchOption o ((ps ≡ []) × (qs ≡ [])) (λ x. ps ≡ linked x ∷ qs) → qs ≡ rest_of ps
left_after ps qs o h = grind arith

pub takes : (root : Tree) (w v : Row) (t : Tree) (ts : List Tree) (s : Spot) → IsRow root w → Taken w v t ts s → Takes root w (Some s) v
takes root w v t ts s is k = grind arith

pub fewer : (were kept : List Tree) (kids : Forest) (t : Tree) (ts : List Tree) → were ≡ t ∷ ts → kids ≡ t.kids → kept ≡ ts → 1 + steps kids + (1 + steps (forest kept)) < 1 + steps (forest were)
fewer were kept kids t ts e f g = omega (arith, ap (λ xs. steps (forest xs)) e, ap steps f, ap (λ xs. steps (forest xs)) g)

-- ---- the rows

pub left_pushed : (text : List ℕ) (root : Tree) (ws : List Row) (w : Row) → left_of_all text root (ws ++ w ∷ []) ≡ left_of text root w ++ left_of_all text root ws
left_pushed text root [] w = sym (append-nil (left_of text root w))
left_pushed text root (v ∷ ws) w = ap (λ ts. ts ++ left_of text root v) (left_pushed text root ws w) ∙ append_assoc (left_of text root w) (left_of_all text root ws) (left_of text root v)

pub steps_pushed : (ws : List Row) (w : Row) → steps_all (ws ++ w ∷ []) ≡ steps_left w + steps_all ws
steps_pushed [] w = omega arith
steps_pushed (v ∷ ws) w = omega (arith, steps_pushed ws w)

pub rows_pushed : (root : Tree) (ws : List Row) (w : Row) → AreRows root ws → IsRow root w → AreRows root (ws ++ w ∷ [])
rows_pushed root [] w are is = (is, tt)
rows_pushed root (v ∷ ws) w are is = (are.0, rows_pushed root ws w are.1 is)

pub rows_popped : (root : Tree) (ws : List Row) (w : Row) → AreRows root (ws ++ w ∷ []) → AreRows root ws × IsRow root w
rows_popped root [] w are = (tt, are.0)
rows_popped root (v ∷ ws) w are = let rest = rows_popped root ws w are.1 in ((are.0, rest.0), rest.1)

-- ---- the children of a node

below_from : (root : Tree) (s : Spot) (w : Row) → IsSpot root s → Below s w → left w.places ≡ map (at root) (numbers ((linked s.place).number + 1) (forest w.nodes.now))
below_from root s w is k = grind arith

pub below_is : (root : Tree) (s : Spot) (w : Row) → IsSpot root s → Below s w → IsRow root w
below_is root s w is k = grind (arith, is_row, below_from)

pub below_left : (text : List ℕ) (root : Tree) (s : Spot) (w : Row) → IsSpot root s → Below s w → row text root ((linked s.place).number + 1) w.start w.around w.context s.node.node.now.kids ≡ left_of text root w
below_left text root s w is k = grind (arith, left_from, below_from)

-- ---- the root

pub top_is : (root : Tree) (s : Spot) → IsTop root s → IsSpot root s
top_is root s k =
    let num : (linked s.place).number ≡ 0 = ap (λ (a : At). a.number) k.place in
    record {
      place = k.place ∙ ap (at root) (sym num);
      standing = subst (λ j. Standing root j (more s.node.node.now.head s.node.node.now.kids none)) (sym num) (subst (λ (u : Tree). Standing root 0 (more u.head u.kids none)) (sym k.tree) (standing_root root));
    }

pub top_tokens : (text : List ℕ) (root : Tree) (s : Spot) → IsTop root s → of_spot text root s ≡ all_tokens text root
top_tokens text root s k = grind (arith, append-nil, by_node)

-- a row of all children of the root
pub whole_nodes : (root : Tree) (w : Row) → IsWhole root w → trees root.kids ≡ w.nodes.now
whole_nodes root w k = sym (kids_are root w.nodes.now k.kids)

pub whole_places : (root : Tree) (w : Row) → IsWhole root w → left w.places ≡ map (at root) (numbers 1 (forest w.nodes.now))
whole_places root w k = cc (k.placed, (standing_root root).0, k.kids)

whole_stands : (root : Tree) (w : Row) → IsWhole root w → Standing root 1 (forest w.nodes.now)
whole_stands root w k = subst (Standing root 1) (sym k.kids) (standing_root root).1.0

pub whole_is : (root : Tree) (w : Row) → IsWhole root w → IsRow root w
whole_is root w k = is_row root 1 w (whole_places root w k) (whole_stands root w k)

-- what is left of it from a boundary on
pub record GoesOn (root : Tree) (b : Boundary) (w v : Row) : Type 0 where
  pub placed : left v.places ≡ drop b.index (children (at root 0))
  pub later : v.nodes.now ≡ drop b.index w.nodes.now
  pub start : v.start ≡ b.bytes
  pub role_in : v.context ≡ w.context
  pub still : v.around ≡ w.around

-- the number of the first node after so many of the root's first children
abbrev pub number_after : ℕ → Row → ℕ
number_after i w = 1 + count (forest (take i w.nodes.now))

standing_on : (root : Tree) (n i : ℕ) (ts : List Tree) → Standing root n (forest ts) → Standing root (n + count (forest (take i ts))) (forest (drop i ts))
standing_on root n zero ts s = let same : n ≡ n + 0 = omega arith in subst (λ m. Standing root m (forest ts)) same s
standing_on root n (suc i) [] s = tt
standing_on root n (suc i) (t ∷ ts) s =
    let same : n + (1 + count t.kids) + count (forest (take i ts)) ≡ n + (1 + (count t.kids + count (forest (take i ts)))) = omega arith in
    subst (λ m. Standing root m (forest (drop i ts))) same (standing_on root (n + (1 + count t.kids)) i ts s.1.1)

pub on_places : (root : Tree) (b : Boundary) (w v : Row) → IsWhole root w → GoesOn root b w v → left v.places ≡ map (at root) (numbers (number_after b.index w) (forest v.nodes.now))
on_places root b w v k g = grind (arith, whole_places, drop_numbers)

pub on_is : (root : Tree) (b : Boundary) (w v : Row) → IsWhole root w → GoesOn root b w v → IsRow root v
on_is root b w v k g =
    is_row root (number_after b.index w) v (on_places root b w v k g)
    (subst (λ xs. Standing root (number_after b.index w) (forest xs)) (sym g.later) (standing_on root 1 b.index w.nodes.now (whole_stands root w k)))
