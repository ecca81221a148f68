-- What a walk carries along is what the tree's list of nodes says.
use Rattle.typst_highlight.proofs.Cited.{◌≡◌, ℕ, suc, zero, ◌+◌, ◌<◌, Bool, true, false, List, [], ◌∷◌, ◌++◌, Option, None, Some, refl, ap, sym, ◌∙◌, arith, cond, append-nil, option_and_then, option_map, Head, Forest, none, more, Tree, count, places, preorder, is_leaf, At, at, node_of, kind_of, offset_of, parent, prev_leaf, length_places, Tag, Trail, Context, is_name, is_field_access, name_alone, kind_if, kind_before, access, outermost, surroundings, named, name_before, name_tag, last_none, Outer}
use Rattle.typst_highlight.specs.Walk.{tree_of, first_ahead, first_leaf, next_leaf as leaf_behind, around, lead, end, within, past, seen, name, step, dotted, passed_row, passed}
use Rattle.typst_highlight.proofs.Cases.{bool_cases}
use Rattle.typst_highlight.proofs.Bounds.{parent_below, prev_below}
use Rattle.typst_highlight.proofs.Chains.{same_outer, same_name, name_once}
use Rattle.typst_highlight.proofs.Rows.{Stand, here, below, behind, parent_here}
use Rattle.typst_highlight.proofs.Leaves.{ahead_at, ahead_is, own_name, trail_at, kind_up, first_law, next_law, offset_below, offset_behind, prev_here, prev_later}

abbrev pub outer_of : Tree → ℕ → Outer
outer_of root m = record { around = kind_if (parent (outermost m (at root m))); lead = kind_before (outermost m (at root m)) }

-- what is round the outermost of the field accesses above the children of a node
abbrev pub outer_at : Tree → Option ℕ → Option Outer
outer_at root None = None
outer_at root (Some m) = cond (is_field_access (kind_of (at root m))) (Some (outer_of root m)) None

-- the context of trees that stand side by side
pub record Fits (root : Tree) (k : ℕ) (f : Forest) (up : Option ℕ) (c : Context) : Type 0 where
  pub parent : c.parent ≡ kind_up root up
  pub outer : c.outer ≡ outer_at root up
  pub offset : c.offset ≡ offset_of (at root k)
  pub trail : c.trail ≡ trail_at root k
  pub ahead : c.ahead ≡ ahead_at root (k + count f)

-- the first leaf behind the first of the trees
pub next_fits : (root : Tree) (k : ℕ) (h : Head) (ks r : Forest) (front back : List Tree) (up : Option ℕ) (c : Context) → Stand root k (more h ks r) front back up → Fits root k (more h ks r) up c → leaf_behind c (tree_of h ks) r ≡ ahead_at root (k + (1 + count ks))
next_fits root k h ks r front back up c s w =
    let total : k + count (more h ks r) ≡ k + (1 + count ks) + count r = omega arith in
    ap (first_ahead (first_leaf c.parent (end c (tree_of h ks)) r)) (w.ahead ∙ ap (ahead_at root) total)
    ∙ (first_law root (k + (1 + count ks)) (end c (tree_of h ks)) r (front ++ places (tree_of h ks)) back up c.parent (behind root k h ks r front back up s) w.parent (offset_behind root k c.offset h ks r front back up s w.offset))

-- what the first of the trees, or the outermost of the field accesses above it, stands in
pub record Outside (root : Tree) (k : ℕ) (c : Context) : Type 0 where
  pub around : around c ≡ kind_if (parent (outermost k (at root k)))
  pub lead : lead c ≡ kind_before (outermost k (at root k))

no_access : (root : Tree) (k : ℕ) (o : Option At) → parent (at root k) ≡ o → access o ≡ None → outermost k (at root k) ≡ at root k
no_access root k o e f = grind arith

one_access : (root : Tree) (k m : ℕ) → parent (at root k) ≡ Some (at root m) → access (Some (at root m)) ≡ Some (at root m) → outermost k (at root k) ≡ outermost m (at root m)
one_access root zero m e f = let less : m < zero = parent_below (at root zero) (at root m) e in absurd (omega (arith, less))
one_access root (suc n) m e f = let less : m < suc n = parent_below (at root (suc n)) (at root m) e in grind (arith, same_outer)

outside_of : (root : Tree) (k : ℕ) (c : Context) (up : Option ℕ) → parent (at root k) ≡ option_map (at root) up → c.parent ≡ kind_up root up → c.trail ≡ trail_at root k → c.outer ≡ outer_at root up → Outside root k c
outside_of root k c None p kind trail outer = grind (arith, no_access)
outside_of root k c (Some m) p kind trail outer =
    bool_cases (is_field_access (kind_of (at root m)))
    (λ is_so.
    let same = one_access root k m p (rw is_so refl) in
    let known : c.outer ≡ Some (outer_of root m) = outer ∙ rw is_so refl in
    record {
      around = rw known (sym (ap (λ a. kind_if (parent a)) same));
      lead = rw known (sym (ap kind_before same));
    })
    (λ not_so.
    let same = no_access root k (Some (at root m)) p (rw not_so refl) in
    let known : c.outer ≡ None = outer ∙ rw not_so refl in
    record {
      around = rw known (kind ∙ sym (ap (λ a. kind_if (parent a)) same ∙ ap kind_if p));
      lead = rw known (ap (λ t. t.before) trail ∙ sym (ap kind_before same));
    })

pub outside : (root : Tree) (k : ℕ) (h : Head) (ks r : Forest) (front back : List Tree) (up : Option ℕ) (c : Context) → Stand root k (more h ks r) front back up → Fits root k (more h ks r) up c → Outside root k c
outside root k h ks r front back up c s w =
    outside_of root k c up (parent_here root k h ks r front back up s) w.parent w.trail w.outer

-- the trail doesn't change over a node that is no leaf
trail_later : (root : Tree) (k : ℕ) → prev_leaf (at root (k + 1)) ≡ prev_leaf (at root k) → trail_at root (k + 1) ≡ trail_at root k
trail_later root k e = grind arith

outer_within : (root : Tree) (k : ℕ) (h : Head) (c : Context) → kind_of (at root k) ≡ h.kind → Outside root k c → cond (is_field_access h.kind) (Some (record { around = around c; lead = lead c })) None ≡ outer_at root (Some k)
outer_within root k h c kind o = grind arith

-- the children of the first of the trees
pub fits_below : (root : Tree) (k : ℕ) (h : Head) (ks r : Forest) (front back : List Tree) (up : Option ℕ) (c : Context) → Stand root k (more h ks r) front back up → Fits root k (more h ks r) up c → is_leaf (tree_of h ks) ≡ false → Fits root (k + 1) ks (Some k) (within c (tree_of h ks) r)
fits_below root k h ks r front back up c s w not_so =
    let t : Tree = tree_of h ks in
    let kind : kind_of (at root k) ≡ h.kind = ap (λ u. u.head.kind) (here root k t front _ s.whole s.number) in
    let row : k + 1 + count ks ≡ k + (1 + count ks) = omega arith in
    record {
      parent = ap (λ x. Some x) (sym kind);
      outer = outer_within root k h c kind (outside root k h ks r front back up c s w);
      offset = offset_below root k c.offset h ks r front back up s w.offset;
      trail = w.trail ∙ sym (trail_later root k (prev_later root k t front _ s.whole s.number not_so));
      ahead = next_fits root k h ks r front back up c s w ∙ sym (ap (ahead_at root) row);
    }

-- the trees behind the first
pub fits_behind : (root : Tree) (k : ℕ) (h : Head) (ks r : Forest) (front back : List Tree) (up : Option ℕ) (c : Context) (trail : Trail) → Stand root k (more h ks r) front back up → Fits root k (more h ks r) up c → trail ≡ trail_at root (k + (1 + count ks)) → Fits root (k + (1 + count ks)) r up (past c (tree_of h ks) trail)
fits_behind root k h ks r front back up c trail s w e =
    let total : k + count (more h ks r) ≡ k + (1 + count ks) + count r = omega arith in
    record {
      parent = w.parent;
      outer = w.outer;
      offset = offset_behind root k c.offset h ks r front back up s w.offset;
      trail = e;
      ahead = w.ahead ∙ ap (ahead_at root) total;
    }

own_same : (k : ℕ) (b : At) → b.number < k → own_name b ≡ option_and_then (name_tag k) (named b)
own_same k b h = grind (arith, same_name, cond)

then_same : (k : ℕ) (d : At) (o : Option At) → prev_leaf d ≡ o → d.number < k → option_and_then own_name o ≡ option_and_then (name_tag k) (option_and_then named o)
then_same k d None e h = refl
then_same k d (Some b) e h = own_same k b (let less = prev_below d b e in omega (arith, less, h))

dot_same : (k : ℕ) (d : At) → d.number < k → dotted (Some (kind_of d)) (option_and_then own_name (prev_leaf d)) ≡ option_and_then (name_tag k) (name_before d)
dot_same k d h = grind (arith, then_same, cond)

earlier_same : (root : Tree) (k : ℕ) (o : Option At) → prev_leaf (at root k) ≡ o → dotted (kind_if o) (option_and_then own_name (option_and_then prev_leaf o)) ≡ option_and_then (name_tag k) (option_and_then name_before o)
earlier_same root k None e = refl
earlier_same root k (Some d) e = dot_same k d (prev_below (at root k) d e)

-- what is round the first of the trees, as a name sees it
seen_law : (root : Tree) (k : ℕ) (h : Head) (ks r : Forest) (front back : List Tree) (up : Option ℕ) (c : Context) → Stand root k (more h ks r) front back up → Fits root k (more h ks r) up c → seen c (tree_of h ks) r ≡ surroundings (at root k)
seen_law root k h ks r front back up c s w =
    let t : Tree = tree_of h ks in
    let node : node_of (at root k) ≡ t = here root k t front _ s.whole s.number in
    let o = outside root k h ks r front back up c s w in
    grind (arith, next_fits, next_law)

-- the tag of the first of the trees, if it is a name
pub name_law : (root : Tree) (k : ℕ) (h : Head) (ks r : Forest) (front back : List Tree) (up : Option ℕ) (c : Context) → Stand root k (more h ks r) front back up → Fits root k (more h ks r) up c → name c (tree_of h ks) r ≡ name_tag (k + 1) (at root k)
name_law root k h ks r front back up c s w = let mine = ap name_alone (seen_law root k h ks r front back up c s w) in grind (arith, earlier_same, name_once)

step_name : (root : Tree) (k : ℕ) (h : Head) (n : Option Tag) → kind_of (at root k) ≡ h.kind → n ≡ name_tag (k + 1) (at root k) → cond (is_name h.kind) n None ≡ own_name (at root k)
step_name root k h n kind e = grind arith

-- the last leaves behind a leaf
step_law : (root : Tree) (k : ℕ) (h : Head) (ks r : Forest) (front back : List Tree) (up : Option ℕ) (c : Context) → Stand root k (more h ks r) front back up → Fits root k (more h ks r) up c → is_leaf (tree_of h ks) ≡ true → step c (tree_of h ks) r ≡ trail_at root (k + 1)
step_law root k h ks r front back up c s w is_so =
    let t : Tree = tree_of h ks in
    let prev : prev_leaf (at root (k + 1)) ≡ Some (at root k) = prev_here root k t front _ s.whole s.number is_so in
    let kind : kind_of (at root k) ≡ h.kind = ap (λ u. u.head.kind) (here root k t front _ s.whole s.number) in
    grind (arith, cond, step_name, name_law)

childless : (h : Head) (ks : Forest) → is_leaf (tree_of h ks) ≡ true → count ks ≡ 0
childless h ks e = grind arith

passed_one : (root : Tree) (k : ℕ) (h : Head) (ks r : Forest) (front back : List Tree) (up : Option ℕ) (c : Context) → Stand root k (more h ks r) front back up → Fits root k (more h ks r) up c → (is_leaf (tree_of h ks) ≡ false → passed_row (within c (tree_of h ks) r) ks ≡ trail_at root (k + 1 + count ks)) → passed c (tree_of h ks) r ≡ trail_at root (k + (1 + count ks))
passed_one root k h ks r front back up c s w inner =
    let row : k + 1 + count ks ≡ k + (1 + count ks) = omega arith in
    let t : Tree = tree_of h ks in
    let choice : Bool → Trail = λ b. cond b (step c t r) (passed_row (within c t r) ks) in
    bool_cases (is_leaf t)
    (λ is_so. ap choice is_so ∙ (step_law root k h ks r front back up c s w is_so ∙ ap (trail_at root) (omega (arith, childless h ks is_so))))
    (λ not_so. ap choice not_so ∙ (inner not_so ∙ ap (trail_at root) row))

-- the last leaves behind the trees
pub passed_law : (root : Tree) (k : ℕ) (f : Forest) (front back : List Tree) (up : Option ℕ) (c : Context) → Stand root k f front back up → Fits root k f up c → passed_row c f ≡ trail_at root (k + count f)
passed_law root k none front back up c s w = w.trail ∙ ap (trail_at root) (omega arith)
passed_law root k (more h ks r) front back up c s w =
    let t : Tree = tree_of h ks in
    let total : k + (1 + count ks) + count r ≡ k + count (more h ks r) = omega arith in
    let one : passed c t r ≡ trail_at root (k + (1 + count ks)) = passed_one root k h ks r front back up c s w (λ not_so. passed_law root (k + 1) ks (front ++ t ∷ []) (preorder r ++ back) (Some k) (within c t r) (below root k h ks r front back up s) (fits_below root k h ks r front back up c s w not_so)) in
    passed_law root (k + (1 + count ks)) r (front ++ places t) back up (past c t (passed c t r)) (behind root k h ks r front back up s) (fits_behind root k h ks r front back up c (passed c t r) s w one)
    ∙ ap (trail_at root) total

-- the last leaves behind the first of the trees
pub passed_here : (root : Tree) (k : ℕ) (h : Head) (ks r : Forest) (front back : List Tree) (up : Option ℕ) (c : Context) → Stand root k (more h ks r) front back up → Fits root k (more h ks r) up c → passed c (tree_of h ks) r ≡ trail_at root (k + (1 + count ks))
passed_here root k h ks r front back up c s w =
    passed_one root k h ks r front back up c s w
    (λ not_so. passed_law root (k + 1) ks (front ++ tree_of h ks ∷ []) (preorder r ++ back) (Some k) (within c (tree_of h ks) r) (below root k h ks r front back up s) (fits_below root k h ks r front back up c s w not_so))

-- the root's context
pub fits_root : (root : Tree) (c : Context) → c.parent ≡ None → c.outer ≡ None → c.offset ≡ 0 → c.trail ≡ record { before = None; name = None; earlier = None } → c.ahead ≡ None → Fits root 0 (more root.head root.kids none) None c
fits_root root c p o a t h =
    let nothing : prev_leaf (at root 0) ≡ None = ap (option_map (at root)) (last_none 0 0 (places root) (omega arith)) in
    record {
      parent = p;
      outer = o;
      offset = a;
      trail = t ∙ sym (ap (λ (x : Option At). let q : Trail = record { before = kind_if x; name = option_and_then own_name x; earlier = option_and_then own_name (option_and_then prev_leaf x) } in q) nothing);
      ahead = h ∙ sym (ahead_is root (0 + count (more root.head root.kids none)) (places root) [] (sym (append-nil (places root))) (omega (arith, length_places root)));
    }
