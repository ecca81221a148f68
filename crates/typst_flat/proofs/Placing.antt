-- The walk through the nodes of a tree with their tags, step by step.
use Rattle.typst_flat.proofs.Cited.{◌≡◌, ℕ, zero, suc, ◌+◌, ◌-◌, ◌^◌, ◌<◌, ◌≤◌, true, false, List, [], ◌∷◌, ◌++◌, length, map, take, drop, Option, None, Some, refl, ap, sym, subst, ◌∙◌, arith, append_assoc, append-nil, length-append, filter, nat_tests, Head, SyntaxKind, IsBoundary, is_childless, is_leaf, At, at, kind_of, node_of, offset_of, end_of, prev_leaf, kids_are, length_places, numbers_from, Stand, here, below, behind, alone, parent_here, cut, tag_code, meets, number_if, ahead_from, up_number, AreReady, Course, EndsIn, IsBehind, IsPlaced, IsSought, Moves, Passes, RowFits, Stays, PlacedNode, Stretch, Waiting, is_dot, is_name}
use Rattle.typst_tree.specs.Tree.{Forest, none, more, Tree, forest, count, joined as text_in, nodes, places, preorder, saturated, text_of, trees}
use Rattle.typst_tree.specs.declared.boundary.Boundary.{Boundary}
use Rattle.typst_tree.proofs.ReplacesChildren.{start_le}
use Rattle.typst_highlight.specs.declared.context.Context.{Context}
use Rattle.typst_highlight.specs.declared.context.Trail.{Trail}
use Rattle.typst_highlight.specs.Nodes.{tag_of}
use Rattle.typst_highlight.specs.Walk.{tree_of, ahead_of, end, first_ahead, first_leaf, joined, resumed, root_context, tag, waiting, within, past, passed}
use Rattle.typst_highlight.proofs.Leaves.{ahead_at, ahead_is, first_law, offset_behind, prev_here, trail_at}
use Rattle.typst_highlight.proofs.Contexts.{Fits, fits_below, fits_behind, fits_root, passed_here}
use Rattle.typst_highlight.proofs.Trees.{tag_law}
use Rattle.typst_highlight.proofs.Nears.{Alike, Near, past_near, passed_near, same_context, tag_near, within_near}
use Rattle.typst_flat.proofs.Endings.{no_kids}
use Rattle.typst_flat.proofs.Passed.{outside, passed_over}
use Rattle.typst_flat.proofs.Steps.{up_of, within_nodes}
use Rattle.typst_highlight.proofs.Returning.{no_leaf}

-- ---- what is around the nodes of a row

-- the first leaf of the rows to come back to
ahead_ready : (root : Tree) (n : ℕ) (ws : List Waiting) → AreReady root n ws → ahead_of ws ≡ ahead_at root n
ahead_ready root n [] e = sym (ahead_is root n (places root) [] (sym (append-nil (places root))) (omega (arith, e, length_places root)))
ahead_ready root n (w ∷ ws) e =
    let s : RowFits root n w = e.0 in
    ap (first_ahead (first_leaf w.level.parent w.start (forest w.nodes.now))) (ahead_ready root (n + count (forest w.nodes.now)) ws e.1)
    ∙ first_law root n w.start (forest w.nodes.now) s.front s.back s.up w.level.parent s.stands s.parent s.start

-- the context of some nodes, and one that is like it
pub record Goes (root : Tree) (k : ℕ) (f : Forest) (up : Option ℕ) (c : Context) : Type 0 where
  pub context : Context
  pub fits : Fits root k f up context
  pub near : Near c context

goes_behind : (root : Tree) (k : ℕ) (h : Head) (ks r : Forest) (front back : List Tree) (up : Option ℕ) (c d : Context) → Stand root k (more h ks r) front back up → Fits root k (more h ks r) up d → Near c d → Goes root (k + (1 + count ks)) r up (past c (tree_of h ks) (passed c (tree_of h ks) r))
goes_behind root k h ks r front back up c d s w n =
    let t : Tree = tree_of h ks in
    record {
      context = past d t (passed d t r);
      fits = fits_behind root k h ks r front back up d (passed d t r) s w (passed_here root k h ks r front back up d s w);
      near = past_near c d t (passed c t r) (passed d t r) n (passed_near c d t r n);
    }

goes_below : (root : Tree) (k : ℕ) (h : Head) (ks r : Forest) (front back : List Tree) (up : Option ℕ) (c d : Context) → Stand root k (more h ks r) front back up → Fits root k (more h ks r) up d → Near c d → is_leaf (tree_of h ks) ≡ false → Goes root (k + 1) ks (Some k) (within c (tree_of h ks) r)
goes_below root k h ks r front back up c d s w n inner =
    record {
      context = within d (tree_of h ks) r;
      fits = fits_below root k h ks r front back up d s w inner;
      near = within_near c d (tree_of h ks) r n;
    }

-- a walk that comes to some nodes
moved : {X : Type 0} (P : Tree → ℕ → X → Type 0) (root r : Tree) (n m : ℕ) (f g : X) → r ≡ root → m ≡ n → g ≡ f → P root n f → P r m g
moved P root r n m f g e h k p = subst (λ x. P x m g) (sym e) (subst (λ x. P root x g) (sym h) (subst (λ x. P root n x) (sym k) p))

stays_at : (w : Course) (root : Tree) (n : ℕ) (f : Forest) (front back : List Tree) (up : Option ℕ) (c : Context) (ws : List Waiting) (b : Boundary) → nodes root < 2 ^ 64 - 1 → IsBoundary root b → Stand root n f front back up → Goes root n f up c → AreReady root (n + count f) ws → cut (up_number up) ≡ w.parent → w.root.now ≡ root → w.near ≡ b → w.number ≡ n → forest w.nodes.now ≡ f → joined w.progress ≡ c → waiting w.progress ≡ ws → Stays w
stays_at w root n f front back up c ws b few known stands goes ready above eroot eb en ef ec ews = grind arith

-- ---- steps

-- the next node
record First (w : Course) (t : Tree) (r : Forest) : Type 0 where
  front : List Tree
  back : List Tree
  up : Option ℕ
  stands : Stand w.root.now w.number (more t.head t.kids r) front back up
  above : cut (up_number up) ≡ w.parent
  context : Context
  fits : Fits w.root.now w.number (more t.head t.kids r) up context
  near : Near (joined w.progress) context
  ready : AreReady w.root.now (w.number + count (more t.head t.kids r)) (waiting w.progress)

first_of : (w : Course) (t : Tree) (r : List Tree) → Stays w → w.nodes.now ≡ t ∷ r → First w t (forest r)
first_of w t r s e = grind arith

-- it is one of the tree's
pub is_within : (w : Course) (t : Tree) (r : List Tree) → Stays w → w.nodes.now ≡ t ∷ r → w.number + nodes t ≤ nodes w.root.now
is_within w t r s e =
    let f = first_of w t r s e in
    omega (arith, within_nodes w.root.now w.number (more t.head t.kids (forest r)) f.front f.back f.up f.stands)

-- its tag
tag_is : (w : Course) (t : Tree) (r : List Tree) → Stays w → w.nodes.now ≡ t ∷ r → tag (joined w.progress) t (forest r) ≡ tag_of (at w.root.now w.number)
tag_is w t r s e =
    let f = first_of w t r s e in
    tag_near (joined w.progress) f.context t (forest r) f.near
    ∙ tag_law w.root.now w.number t.head t.kids (forest r) f.front f.back f.up f.context f.stands f.fits

-- it is given as it is
pub is_placed : (w : Course) (t : Tree) (r : List Tree) (g : PlacedNode) → Stays w → w.nodes.now ≡ t ∷ r → g.node.now ≡ t → g.start ≡ (joined w.progress).offset → g.end ≡ saturated (g.start + length (text_of t)) → g.number ≡ w.number → g.parent ≡ w.parent → g.tag ≡ tag_code (tag (joined w.progress) t (forest r)) → IsPlaced (at w.root.now w.number) g
is_placed w t r g s e node start ends number up own =
    let f = first_of w t r s e in
    let is : node_of (at w.root.now w.number) ≡ t = here w.root.now w.number t f.front _ f.stands.whole f.stands.number in
    let begins : g.start ≡ offset_of (at w.root.now w.number) = start ∙ (f.near.offset ∙ f.fits.offset) in
    record {
      node = node ∙ sym is;
      start = begins;
      end = omega (arith, ends, begins, ap (λ u. length (text_of u)) is);
      number = number;
      parent = up ∙ sym (ap (λ p. cut (number_if p)) (parent_here w.root.now w.number t.head t.kids (forest r) f.front f.back f.up f.stands) ∙ (ap cut (up_of w.root.now f.up) ∙ f.above));
      tag = own ∙ ap tag_code (tag_is w t r s e);
      within = omega (arith, is_within w t r s e, ap nodes is);
    }

-- past a node without children
pub stays_behind : (v w : Course) (t : Tree) (r : List Tree) → Stays v → v.nodes.now ≡ t ∷ r → is_childless t.kids ≡ true → w.root.now ≡ v.root.now → w.near ≡ v.near → w.number ≡ v.number + 1 → w.parent ≡ v.parent → w.nodes.now ≡ r → joined w.progress ≡ past (joined v.progress) t (passed (joined v.progress) t (forest r)) → waiting w.progress ≡ waiting v.progress → Stays w
stays_behind v w t r s e childless root near number up row around rows =
    let f = first_of v t r s e in
    let next : w.number ≡ v.number + (1 + count t.kids) = omega (arith, number, no_kids t.kids childless) in
    let total : v.number + count (more t.head t.kids (forest r)) ≡ v.number + (1 + count t.kids) + count (forest r) = omega arith in
    stays_at w v.root.now (v.number + (1 + count t.kids)) (forest r) (f.front ++ places t) f.back f.up (past (joined v.progress) t (passed (joined v.progress) t (forest r))) (waiting v.progress) v.near s.counted s.boundary
    (behind v.root.now v.number t.head t.kids (forest r) f.front f.back f.up f.stands)
    (goes_behind v.root.now v.number t.head t.kids (forest r) f.front f.back f.up (joined v.progress) f.context f.stands f.fits f.near)
    (subst (λ m. AreReady v.root.now m (waiting v.progress)) total f.ready)
    (f.above ∙ sym up) root near next (ap forest row) around rows

row_behind : (v : Course) (t : Tree) (r : List Tree) (x : Waiting) → Stays v → v.nodes.now ≡ t ∷ r → x.nodes.now ≡ r → x.start ≡ end (joined v.progress) t → x.level ≡ v.progress.level → x.parent ≡ v.parent → AreReady v.root.now (v.number + (1 + count t.kids)) (x ∷ waiting v.progress)
row_behind v t r x s e row start level up =
    let f = first_of v t r s e in
    let n : ℕ = v.number + (1 + count t.kids) in
    let fits : RowFits v.root.now n x = record {
      front = f.front ++ places t;
      back = f.back;
      up = f.up;
      stands = subst (λ g. Stand v.root.now n (forest g) (f.front ++ places t) f.back f.up) (sym row) (behind v.root.now v.number t.head t.kids (forest r) f.front f.back f.up f.stands);
      start = start ∙ offset_behind v.root.now v.number (joined v.progress).offset t.head t.kids (forest r) f.front f.back f.up f.stands (f.near.offset ∙ f.fits.offset);
      parent = ap (λ l. l.parent) level ∙ (f.near.parent ∙ f.fits.parent);
      outer = ap (λ l. l.outer) level ∙ (f.near.outer ∙ f.fits.outer);
      above = f.above ∙ sym up;
    } in
    let total : v.number + count (more t.head t.kids (forest r)) ≡ n + count (forest x.nodes.now) = omega (arith, ap (λ g. count (forest g)) row) in
    (fits, subst (λ m. AreReady v.root.now m (waiting v.progress)) total f.ready)

pub stays_below : (v w : Course) (t : Tree) (r : List Tree) (x : Waiting) → Stays v → v.nodes.now ≡ t ∷ r → is_childless t.kids ≡ false → w.root.now ≡ v.root.now → w.near ≡ v.near → w.number ≡ v.number + 1 → w.parent ≡ cut v.number → forest w.nodes.now ≡ t.kids → joined w.progress ≡ within (joined v.progress) t (forest r) → waiting w.progress ≡ x ∷ waiting v.progress → x.nodes.now ≡ r → x.start ≡ end (joined v.progress) t → x.level ≡ v.progress.level → x.parent ≡ v.parent → Stays w
stays_below v w t r x s e inner root near number up kids around rows row start level above =
    let f = first_of v t r s e in
    let next : v.number + (1 + count t.kids) ≡ v.number + 1 + count t.kids = omega arith in
    stays_at w v.root.now (v.number + 1) t.kids (f.front ++ t ∷ []) (preorder (forest r) ++ f.back) (Some v.number) (within (joined v.progress) t (forest r)) (x ∷ waiting v.progress) v.near s.counted s.boundary
    (below v.root.now v.number t.head t.kids (forest r) f.front f.back f.up f.stands)
    (goes_below v.root.now v.number t.head t.kids (forest r) f.front f.back f.up (joined v.progress) f.context f.stands f.fits f.near (no_leaf t inner))
    (subst (λ m. AreReady v.root.now m (x ∷ waiting v.progress)) next (row_behind v t r x s e row start level above))
    (sym up) root near number kids around rows

-- at the first child of the last node of a row, after which there is nothing to come back to
pub stays_below_last : (v w : Course) (t : Tree) → Stays v → v.nodes.now ≡ t ∷ [] → is_childless t.kids ≡ false → w.root.now ≡ v.root.now → w.near ≡ v.near → w.number ≡ v.number + 1 → w.parent ≡ cut v.number → forest w.nodes.now ≡ t.kids → joined w.progress ≡ within (joined v.progress) t none → waiting w.progress ≡ waiting v.progress → Stays w
stays_below_last v w t s e inner root near number up kids around rows =
    let f = first_of v t [] s e in
    let next : v.number + count (more t.head t.kids none) ≡ v.number + 1 + count t.kids = omega arith in
    stays_at w v.root.now (v.number + 1) t.kids (f.front ++ t ∷ []) f.back (Some v.number) (within (joined v.progress) t none) (waiting v.progress) v.near s.counted s.boundary
    (below v.root.now v.number t.head t.kids none f.front f.back f.up f.stands)
    (goes_below v.root.now v.number t.head t.kids none f.front f.back f.up (joined v.progress) f.context f.stands f.fits f.near (no_leaf t inner))
    (subst (λ m. AreReady v.root.now m (waiting v.progress)) next f.ready)
    (sym up) root near number kids around rows

-- back behind a node
ended_row : (v : Course) → Stays v → v.nodes.now ≡ [] → AreReady v.root.now v.number (waiting v.progress)
ended_row v s e = grind arith

pub stays_back : (v w : Course) (x : Waiting) → Stays v → v.nodes.now ≡ [] → waiting v.progress ≡ x ∷ waiting w.progress → joined w.progress ≡ resumed x (waiting w.progress) v.progress.trail → w.parent ≡ x.parent → w.root.now ≡ v.root.now → w.near ≡ v.near → w.number ≡ v.number → w.nodes.now ≡ x.nodes.now → Stays w
stays_back v w x s e rows around above root near number row =
    let ready : AreReady v.root.now v.number (x ∷ waiting w.progress) = subst (λ ws. AreReady v.root.now v.number ws) rows (ended_row v s e) in
    let r : RowFits v.root.now v.number x = ready.0 in
    let m : ℕ = v.number + count (forest x.nodes.now) in
    let d : Context = record { parent = x.level.parent; outer = x.level.outer; offset = x.start; trail = s.context.trail; ahead = ahead_at v.root.now m } in
    let goes : Goes v.root.now v.number (forest x.nodes.now) r.up (resumed x (waiting w.progress) v.progress.trail) = record {
      context = d;
      fits = record { parent = r.parent; outer = r.outer; offset = r.start; trail = s.fits.trail; ahead = refl };
      near = record { parent = refl; outer = refl; offset = refl; trail = s.near.trail; ahead = ahead_ready v.root.now m (waiting w.progress) ready.1 };
    } in
    stays_at w v.root.now v.number (forest x.nodes.now) r.front r.back r.up (resumed x (waiting w.progress) v.progress.trail) (waiting w.progress) v.near s.counted s.boundary r.stands goes ready.1 (r.above ∙ sym above) root near number (ap forest row) around refl

-- the root is first
pub at_root : (w : Course) (root : Tree) (b : Boundary) → nodes root < 2 ^ 64 - 1 → IsBoundary root b → w.root.now ≡ root → w.near ≡ b → w.number ≡ 0 → w.parent ≡ 0 → w.nodes.now ≡ root ∷ [] → joined w.progress ≡ root_context → waiting w.progress ≡ [] → Stays w
at_root w root b few known same near number up row around rows =
    let all : 0 + count (more root.head root.kids none) ≡ nodes root = omega arith in
    let goes : Goes root 0 (more root.head root.kids none) None root_context = record {
      context = root_context;
      fits = fits_root root root_context refl refl refl refl refl;
      near = same_context root_context;
    } in
    stays_at w root 0 (more root.head root.kids none) [] [] None root_context [] b few known (alone root) goes all (omega (arith, up)) same near number (ap forest row) around rows

-- ---- what meets the stretch

-- of the node at hand and those after it, those that meet a stretch: it is the first of them
pub one_meets : (s : Stretch) (root : Tree) (n : ℕ) → n < nodes root → offset_of (at root n) ≤ s.end → s.start ≤ end_of (at root n) → ahead_from s root n ≡ at root n ∷ ahead_from s root (n + 1)
one_meets s root n less reaches begins = grind arith

ends_early : (s : Stretch) (a : At) → end_of a < s.start → meets s a ≡ false
ends_early s a h = grind (arith, nat_tests, h)

-- or it ends before the stretch
pub one_passes : (s : Stretch) (root : Tree) (n : ℕ) → n < nodes root → offset_of (at root n) ≤ s.end → end_of (at root n) < s.start → ahead_from s root n ≡ ahead_from s root (n + 1)
one_passes s root n less reaches early = grind arith

-- a node that ends before the stretch doesn't meet it, nor does what is below it
early_passes : (s : Stretch) (root : Tree) (n : ℕ) (t : Tree) (r : Forest) (front back : List Tree) (up : Option ℕ) → Stand root n (more t.head t.kids r) front back up → end_of (at root n) < s.start → ahead_from s root n ≡ ahead_from s root (n + nodes t)
early_passes s root n t r front back up st early =
    let most : n + count (more t.head t.kids r) ≤ nodes root = within_nodes root n (more t.head t.kids r) front back up st in
    let whole : nodes root - n ≡ nodes t + (nodes root - (n + nodes t)) = omega (arith, most) in
    ap (λ k. filter (meets s) (map (at root) (numbers_from n k))) whole
    ∙ passed_over s root n (nodes t) (nodes root - (n + nodes t)) (λ j l m. outside s root n t.head t.kids r front back up st (ends_early s (at root n) early) j l m)

-- ---- a place to go on at

pub sought_here : (w : Course) (row : List Tree) (start n : ℕ) → Stays w → row ≡ w.nodes.now → start ≡ (joined w.progress).offset → n ≡ w.number → IsSought w row start n
sought_here w row start n s same begins number =
    record {
      stays = s;
      front = s.front;
      stands = moved (λ x m g. Stand x m g s.front s.back s.up) w.root.now w.root.now w.number n (forest w.nodes.now) (forest row) refl number (ap forest same) s.stands;
      begins = begins ∙ (s.near.offset ∙ (s.fits.offset ∙ ap (λ k. offset_of (at w.root.now k)) (sym number)));
      whole = λ i. number i + count (forest (same i));
      onward = omega (arith, number);
      left = ap (ahead_from w.stretch w.root.now) (sym number);
    }

pub sought_within : (w : Course) (t : Tree) (r : List Tree) (start n : ℕ) → IsSought w (t ∷ r) start n → n + nodes t ≤ nodes w.root.now
sought_within w t r start n p =
    omega (arith, within_nodes w.root.now n (more t.head t.kids (forest r)) p.front p.stays.back p.stays.up p.stands)

-- past a node that ends before the stretch
pub sought_next : (w : Course) (t : Tree) (r : List Tree) (start e n : ℕ) → IsSought w (t ∷ r) start n → e ≡ saturated (start + length (text_of t)) → e < w.stretch.start → IsSought w r e (n + nodes t)
sought_next w t r start e n p ends early =
    let stands : Stand w.root.now n (more t.head t.kids (forest r)) p.front p.stays.back p.stays.up = p.stands in
    let is : node_of (at w.root.now n) ≡ t = here w.root.now n t p.front _ stands.whole stands.number in
    let last : end_of (at w.root.now n) < w.stretch.start = omega (arith, early, ends, p.begins, ap (λ u. length (text_of u)) is) in
    record {
      stays = p.stays;
      front = p.front ++ places t;
      stands = behind w.root.now n t.head t.kids (forest r) p.front p.stays.back p.stays.up stands;
      begins = ends ∙ offset_behind w.root.now n start t.head t.kids (forest r) p.front p.stays.back p.stays.up stands p.begins;
      whole = omega (arith, p.whole);
      onward = omega (arith, p.onward);
      left = p.left ∙ early_passes w.stretch w.root.now n t (forest r) p.front p.stays.back p.stays.up stands last;
    }

-- past so many nodes, the last of which ends before the stretch
sought_on : (w : Course) (i : ℕ) (ts : List Tree) (start n : ℕ) → IsSought w ts start n → start + length (text_in (forest (take i ts))) < 2 ^ 64 → (0 < i → start + length (text_in (forest (take i ts))) < w.stretch.start)
    → IsSought w (drop i ts) (start + length (text_in (forest (take i ts)))) (n + count (forest (take i ts)))
sought_on w zero ts start n p few early = subst (λ m. IsSought w ts m (n + 0)) (let same : start ≡ start + 0 = omega arith in same) (subst (IsSought w ts start) (let same : n ≡ n + 0 = omega arith in same) p)
sought_on w (suc i) [] start n p few early = subst (λ m. IsSought w [] m (n + 0)) (let same : start ≡ start + 0 = omega arith in same) (subst (IsSought w [] start) (let same : n ≡ n + 0 = omega arith in same) p)
sought_on w (suc i) (t ∷ ts) start n p few early =
    let own : ℕ = length (text_of t) in
    let others : ℕ = length (text_in (forest (take i ts))) in
    let nodes_on : ℕ = count (forest (take i ts)) in
    let whole : length (text_in (forest (take (suc i) (t ∷ ts)))) ≡ own + others = ap length (sym (append_assoc t.head.text (text_in t.kids) (text_in (forest (take i ts))))) ∙ length-append (text_of t) (text_in (forest (take i ts))) in
    let before : start + own + others < w.stretch.start = omega (arith, early (omega arith), whole) in
    let first : IsSought w ts (start + own) (n + nodes t) = sought_next w t ts start (start + own) n p (omega (arith, few, whole)) (omega (arith, before)) in
    let rest : IsSought w (drop i ts) (start + own + others) (n + nodes t + nodes_on) = sought_on w i ts (start + own) (n + nodes t) first (omega (arith, few, whole)) (λ some. before) in
    let bytes : start + own + others ≡ start + length (text_in (forest (take (suc i) (t ∷ ts)))) = omega (arith, whole) in
    let numbers : n + nodes t + nodes_on ≡ n + count (forest (take (suc i) (t ∷ ts))) = omega arith in
    subst (λ m. IsSought w (drop i ts) m (n + count (forest (take (suc i) (t ∷ ts))))) bytes (subst (IsSought w (drop i ts) (start + own + others)) numbers rest)

-- where the first child of the root begins
first_begins : (w : Course) → Stays w → w.number ≡ 1 → length w.root.now.head.text < 2 ^ 64 → length w.root.now.head.text ≡ (joined w.progress).offset
first_begins w s one few = grind (arith, append-nil)

-- at a boundary among the root's children
pub sought_near : (w : Course) (b : Boundary) (ts : List Tree) → Stays w → w.number ≡ 1 → forest w.nodes.now ≡ w.root.now.kids → length (text_of w.root.now) < 2 ^ 64 → IsBoundary w.root.now b → (0 < b.index → b.bytes < w.stretch.start) → ts ≡ drop b.index w.nodes.now → IsSought w ts b.bytes (1 + b.nodes)
sought_near w b ts s one row few is early later =
    let root : Tree = w.root.now in
    let i : ℕ = b.index in
    let own : ℕ = length root.head.text in
    let kids : List Tree = trees root.kids in
    let same : w.nodes.now ≡ kids = kids_are root w.nodes.now row in
    let most : own + length (text_in (forest (take i kids))) ≤ length (text_of root) = start_le [] i root in
    let begun : IsSought w kids own 1 = sought_here w kids own 1 s (sym same) (first_begins w s one (omega (arith, few, most))) (sym one) in
    let there : IsSought w (drop i kids) (own + length (text_in (forest (take i kids)))) (1 + count (forest (take i kids))) = sought_on w i kids own 1 begun (omega (arith, few, most)) (λ some. omega (arith, early some, is.bytes)) in
    let rest : drop i kids ≡ ts = ap (drop i) (sym same) ∙ sym later in
    grind arith

-- the leaves before a node, where the last one is neither a name nor a dot
abbrev one_leaf : SyntaxKind → Trail
one_leaf k = record { before = Some k; name = None; earlier = None }

trail_near : (root : Tree) (q : ℕ) (t : Tree) (front rest : List Tree) (k : SyntaxKind) → places root ≡ front ++ (t ∷ rest) → q ≡ length front → is_leaf t ≡ true → t.head.kind ≡ k → is_name k ≡ false → is_dot k ≡ false → Alike (one_leaf k) (trail_at root (q + 1))
trail_near root q t front rest k e n is_so kind no_name no_dot =
    let last : prev_leaf (at root (q + 1)) ≡ Some (at root q) = prev_here root q t front rest e n is_so in
    let own_kind : kind_of (at root q) ≡ k = ap (λ x. x.head.kind) (here root q t front rest e n) ∙ kind in
    grind arith

split_seam : (front init behind_it back : List Tree) (x : Tree) → front ++ (((init ++ x ∷ []) ++ behind_it) ++ back) ≡ (front ++ init) ++ (x ∷ (behind_it ++ back))
split_seam front init behind_it back x = simp append_assoc refl

-- behind a node that ends in such a leaf
trail_behind : (root : Tree) (n : ℕ) (t : Tree) (r : Forest) (front back : List Tree) (up : Option ℕ) (k : SyntaxKind) → Stand root n (more t.head t.kids r) front back up → EndsIn t k → Alike (one_leaf k) (trail_at root (n + nodes t))
trail_behind root n t r front back up k s e =
    let whole : places root ≡ (front ++ e.init) ++ (e.last ∷ (preorder r ++ back)) = s.whole ∙ (ap (λ xs. front ++ ((xs ++ preorder r) ++ back)) e.nodes ∙ split_seam front e.init (preorder r) back e.last) in
    let number : length (front ++ e.init) + 1 ≡ n + nodes t = omega (arith, s.number, length_places t, ap length e.nodes, length-append e.init (e.last ∷ []), length-append front e.init) in
    subst (λ m. Alike (one_leaf k) (trail_at root m)) number (trail_near root (length (front ++ e.init)) e.last (front ++ e.init) (preorder r ++ back) k whole refl e.leaf e.kind e.no_name e.no_dot)

pub sought_behind : (w : Course) (t : Tree) (r : List Tree) (e n : ℕ) → IsBehind w t r e n → IsSought w r e n
sought_behind w t r e n p = subst (IsSought w r e) (sym p.number) (sought_next w t r p.start e p.first p.sought p.ends p.early)

-- the walk goes on there
pub stays_sought : (v w : Course) (t : Tree) (r : List Tree) (e n : ℕ) (k : SyntaxKind) → IsBehind v t r e n → EndsIn t k → w.root.now ≡ v.root.now → w.near ≡ v.near → w.number ≡ n → w.parent ≡ v.parent → w.nodes.now ≡ r → joined w.progress ≡ record (joined v.progress) { offset = e; trail = one_leaf k } → waiting w.progress ≡ waiting v.progress → Stays w
stays_sought v w t r e n k p last root near number up row around rows =
    let s : Stays v = p.sought.stays in
    let stands : Stand v.root.now p.first (more t.head t.kids (forest r)) p.sought.front s.back s.up = p.sought.stands in
    let m : ℕ = p.first + nodes t in
    let c : Context = record (joined v.progress) { offset = e; trail = one_leaf k } in
    let d : Context = record s.context { offset = e; trail = trail_at v.root.now m } in
    let there : e ≡ offset_of (at v.root.now m) = p.ends ∙ offset_behind v.root.now p.first p.start t.head t.kids (forest r) p.sought.front s.back s.up stands p.sought.begins in
    let total : v.number + count (forest v.nodes.now) ≡ m + count (forest r) = omega (arith, p.sought.whole) in
    let goes : Goes v.root.now m (forest r) s.up c = record {
      context = d;
      fits = record { parent = s.fits.parent; outer = s.fits.outer; offset = there; trail = refl; ahead = s.fits.ahead ∙ ap (ahead_at v.root.now) total };
      near = record { parent = s.near.parent; outer = s.near.outer; offset = refl; trail = trail_behind v.root.now p.first t (forest r) p.sought.front s.back s.up k stands last; ahead = s.near.ahead };
    } in
    stays_at w v.root.now m (forest r) (p.sought.front ++ places t) s.back s.up c (waiting v.progress) v.near s.counted s.boundary
    (behind v.root.now p.first t.head t.kids (forest r) p.sought.front s.back s.up stands)
    goes
    (subst (λ q. AreReady v.root.now q (waiting v.progress)) total s.ready)
    (s.above ∙ sym up) root near (number ∙ p.number) (ap forest row) around rows

pub passes_to : (v w : Course) (r : List Tree) (e n : ℕ) → IsSought v r e n → v.number < n → w.number ≡ n → Passes v w
passes_to v w r e n q on number = grind arith

pub passes_on : (u v w : Course) → v.root.now ≡ u.root.now → v.stretch ≡ u.stretch → Passes u v → Passes v w → Passes u w
passes_on u v w root stretch p q = grind arith

-- ---- a step of the walk

pub moves_one : (v w : Course) → v.number < nodes v.root.now → w.number ≡ v.number + 1 → Stays w → Moves v w
moves_one v w less number s = grind arith

pub moves_by : (v u w : Course) → v.number < nodes v.root.now → u.root.now ≡ v.root.now → u.stretch ≡ v.stretch → u.number ≡ v.number + 1 → Passes u w → Stays w → Moves v w
moves_by v u w less root stretch number p s = grind arith

-- what is left of a stretch behind the next node
pub goes_on : (s : Stretch) (v w : Course) → v.stretch ≡ s → w.root.now ≡ v.root.now → Moves v w → ahead_from s v.root.now (v.number + 1) ≡ ahead_from s w.root.now w.number
goes_on s v w stretch root m = grind arith
