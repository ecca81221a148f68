-- Candidates one after the other.
use Rattle.typst_candidates.proofs.Cited.{◌≡◌, ℕ, zero, suc, ◌+◌, ◌-◌, ◌*◌, ◌^◌, ◌<◌, ◌≤◌, min, Bool, true, false, List, [], ◌∷◌, ◌++◌, length, take, get_or, refl, ap, sym, ◌∙◌, arith, append_assoc, if◌then◌else◌, Some, None, length-append, nat_tests, append-nil, map-append, take-take, take_at, SyntaxKind, Note, Tree, Forest, none, more, forest, trees, joined, text_of, count, nodes, Candidate, Child, ChildRange, laid, child_at, begins, around, is_all, child_ranges, of_children, of_child_ranges, of_run, of_block, covers, run_in, candidates_at, IsEdge, IsNear, indices, spelled, is_covered, below, Near, ◌==◌, map, Option}
pub use Rattle.typst_tree.proofs.SpansAside.{forest_trees}
use Rattle.typst_candidates.specs.declared.candidate.Candidate as found
use Rattle.typst_candidates.specs.declared.children.ChildRange as children
use Rattle.typst_candidates.proofs.Edges.{laid_length, begins_next, begins_most}

-- ---- stretches one after the other

-- with fewer tries there are the first of them
fewer_tries : (cuts : List ℕ) (cs : List Child) (i j m tries x : ℕ) → child_ranges cuts cs i j (min m tries) x ≡ take m (child_ranges cuts cs i j tries x)
fewer_tries cuts cs i j zero tries x = let over : min 0 tries ≡ 0 = omega arith in ap (λ (n : ℕ). child_ranges cuts cs i j n x) over
fewer_tries cuts cs i j (suc m) zero x = let over : min (suc m) 0 ≡ 0 = omega arith in ap (λ (n : ℕ). child_ranges cuts cs i j n x) over
fewer_tries cuts cs i j (suc m) (suc tries) x =
    let one : min (suc m) (suc tries) ≡ suc (min m tries) = omega arith in
    ap (λ (n : ℕ). child_ranges cuts cs i j n x) one
    ∙ ap (λ (ss : List ChildRange). around cuts cs i j x ∷ ss) (after (is_all cs (around cuts cs i j x)) (fewer_tries cuts cs i j m tries (2 * x)))
  where
    after : (b : Bool) → child_ranges cuts cs i j (min m tries) (2 * x) ≡ take m (child_ranges cuts cs i j tries (2 * x))
        → (if b then [] else child_ranges cuts cs i j (min m tries) (2 * x)) ≡ take m (if b then [] else child_ranges cuts cs i j tries (2 * x))
    after b further = grind arith

first_ranges : (path : List ℕ) (at : ℕ) (ts : List Tree) (m : ℕ) (ss : List ChildRange) → of_child_ranges path at ts (take m ss) ≡ take m (of_child_ranges path at ts ss)
first_ranges path at ts zero ss = refl
first_ranges path at ts (suc m) [] = refl
first_ranges path at ts (suc m) (s ∷ ss) = ap (λ (cs : List Candidate). of_children false path at ts s.from s.to ∷ cs) (first_ranges path at ts m ss)

-- the first of a run, by as many tries
pub first_of_run : (path cuts : List ℕ) (at : ℕ) (ts : List Tree) (i j m tries x : ℕ) → of_child_ranges path at ts (child_ranges cuts (laid at ts) i j (min m tries) x) ≡ take m (of_child_ranges path at ts (child_ranges cuts (laid at ts) i j tries x))
first_of_run path cuts at ts i j m tries x = ap (of_child_ranges path at ts) (fewer_tries cuts (laid at ts) i j m tries x) ∙ first_ranges path at ts m (child_ranges cuts (laid at ts) i j tries x)

-- with no tries left there are no more
pub no_more : (path cuts : List ℕ) (at : ℕ) (ts : List Tree) (i j tries x : ℕ) (cs : List Candidate) → tries ≡ 0 → cs ≡ cs ++ of_child_ranges path at ts (child_ranges cuts (laid at ts) i j tries x)
no_more path cuts at ts i j tries x cs over = sym (append-nil cs) ∙ ap (λ (n : ℕ). cs ++ of_child_ranges path at ts (child_ranges cuts (laid at ts) i j n x)) (sym over)

-- with as many more children as there are, all are taken
all_taken : (cuts : List ℕ) (at : ℕ) (ts : List Tree) (i j x : ℕ) → i ≤ length ts → length ts ≤ x → is_all (laid at ts) (around cuts (laid at ts) i j x) ≡ true
all_taken cuts at ts i j x h le = grind (arith, laid_length, nat_tests)

pub not_all : (cuts : List ℕ) (at : ℕ) (ts : List Tree) (i j x : ℕ) → i ≤ length ts → is_all (laid at ts) (around cuts (laid at ts) i j x) ≡ false → x < length ts
not_all cuts at ts i j x h e = grind (arith, all_taken cuts at ts i j x h)

pub all_by_test : (cs : List Child) (w s : ChildRange) (b : Bool) → w ≡ s → is_all cs w ≡ b → is_all cs s ≡ b
all_by_test cs w s b e f = ap (is_all cs) (sym e) ∙ f

-- a stretch at hand is one of the run
pub one_piece : (path : List ℕ) (depth at : ℕ) (ts : List Tree) (w : children.ChildRange) (s : ChildRange) (c : found.Candidate) → IsEdge at ts w.from → IsEdge at ts w.to → indices w ≡ s
    → c ≡ record { is_block = false; depth = depth; from = w.from.index; to = w.to.index; start = w.from.byte; end = w.to.byte }
    → spelled path c ≡ of_children false (take depth path) at ts s.from s.to
one_piece path depth at ts w s c from to e is = grind arith

module _ (cuts : List ℕ) (at : ℕ) (ts : List Tree) (i j : ℕ) (path : List ℕ) (depth tries n x : ℕ) (items later : List found.Candidate) (c : found.Candidate) where
  pushed : later ≡ items ++ c ∷ [] → map (spelled path) later ≡ map (spelled path) items ++ spelled path c ∷ []
  pushed e = ap (map (spelled path)) e ∙ map-append (spelled path) items (c ∷ [])

  pub last_piece : n < tries → later ≡ items ++ c ∷ [] → spelled path c ≡ of_children false (take depth path) at ts (around cuts (laid at ts) i j x).from (around cuts (laid at ts) i j x).to
      → is_all (laid at ts) (around cuts (laid at ts) i j x) ≡ true
      → map (spelled path) items ++ of_child_ranges (take depth path) at ts (child_ranges cuts (laid at ts) i j (tries - n) x) ≡ map (spelled path) later
  last_piece lt e is all = grind (arith, pushed)

  pub next_piece : n < tries → later ≡ items ++ c ∷ [] → spelled path c ≡ of_children false (take depth path) at ts (around cuts (laid at ts) i j x).from (around cuts (laid at ts) i j x).to
      → is_all (laid at ts) (around cuts (laid at ts) i j x) ≡ false
      → map (spelled path) items ++ of_child_ranges (take depth path) at ts (child_ranges cuts (laid at ts) i j (tries - n) x)
      ≡ map (spelled path) later ++ of_child_ranges (take depth path) at ts (child_ranges cuts (laid at ts) i j (tries - (n + 1)) (2 * x))
  next_piece lt e is all = grind (arith, pushed, append_assoc)

-- ---- a node and its child

pub child_here : (at : ℕ) (ts : List Tree) (n : ℕ) (d : Tree) → n < length ts → child_at (laid at ts) n ≡ Some (record { start = begins at ts n; end = begins at ts n + length (text_of (get_or ts n d)); node = get_or ts n d })
child_here at [] n d h = absurd (omega arith)
child_here at (x ∷ ts) zero d h = refl
child_here at (x ∷ ts) (suc n) d h = child_here (at + length (text_of x)) ts n d (omega arith)

child_none : (at : ℕ) (ts : List Tree) (n : ℕ) → length ts ≤ n → child_at (laid at ts) n ≡ None
child_none at [] n h = refl
child_none at (x ∷ ts) zero h = absurd (omega arith)
child_none at (x ∷ ts) (suc n) h = child_none (at + length (text_of x)) ts n (omega arith)

at_index : (ns : List Note) (rs re : ℕ) (path : List ℕ) (run : Option (List ℕ)) (i at : ℕ) (f : Forest) (c : Child) → child_at (laid at (trees f)) i ≡ Some c → candidates_at ns rs re path run i at f ≡ candidates_at ns rs re path run 0 c.start (forest (c.node ∷ []))
unfolding candidates_at
at_index ns rs re path run i at none c e = absurd (cc)
at_index ns rs re path run zero at (more h ks r) c e = grind arith
at_index ns rs re path run (suc i) at (more h ks r) c e = at_index ns rs re path run i (at + length (h.text ++ joined ks)) r c e

pub node_is : (ns : List Note) (rs re : ℕ) (path : List ℕ) (run : Option (List ℕ)) (at : ℕ) (t : Tree) → candidates_at ns rs re path run 0 at (forest (t ∷ [])) ≡ below ns rs re path at t ++ of_run rs re path (at + length t.head.text) (trees t.kids) run
unfolding candidates_at
node_is ns rs re path run at t = grind (arith, at_index)

pub begins_end : (at : ℕ) (ts : List Tree) → begins at ts (length ts) ≡ at + length (joined (forest ts))
begins_end at [] = omega arith
begins_end at (t ∷ ts) = omega (arith, begins_end (at + length (text_of t)) ts, length-append t.head.text (joined t.kids ++ joined (forest ts)), length-append (joined t.kids) (joined (forest ts)), length-append t.head.text (joined t.kids))

-- a node ends where its last child does
pub ends_of : (at a : ℕ) (t : Tree) (ts : List Tree) → ts ≡ trees t.kids → a ≡ at + length t.head.text → begins a ts (length ts) ≡ at + length (text_of t)
ends_of at a t ts e p = grind (arith, forest_trees, begins_end, length-append)

-- the end of a node can be counted, and so can its children's
pub fits_of : (at a : ℕ) (t : Tree) (ts : List Tree) → ts ≡ trees t.kids → a ≡ at + length t.head.text → at + length (text_of t) < 2 ^ 64 → begins a ts (length ts) < 2 ^ 64
fits_of at a t ts e p h = omega (arith, h, ends_of at a t ts e p)

pub child_fits : (a : ℕ) (ts : List Tree) (n : ℕ) (d : Tree) → n < length ts → begins a ts (length ts) < 2 ^ 64 → begins a ts n + length (text_of (get_or ts n d)) < 2 ^ 64
child_fits a ts n d h fits = omega (arith, begins_next a ts n d h, begins_most a ts (n + 1) (omega arith))

-- a child has fewer nodes
pub fewer : (ts : List Tree) (n : ℕ) (d : Tree) → n < length ts → nodes (get_or ts n d) ≤ count (forest ts)
fewer [] n d h = absurd (omega arith)
fewer (t ∷ ts) zero d h = omega arith
fewer (t ∷ ts) (suc n) d h = omega (arith, fewer ts n d (omega arith))

-- a child at hand
child_in_hand : (a : ℕ) (ts : List Tree) (n : ℕ) (u : Tree) → n < length ts → u ≡ get_or ts n u → child_at (laid a ts) n ≡ Some (record { start = begins a ts n; end = begins a ts n + length (text_of u); node = u })
child_in_hand a ts n u h e = child_here a ts n u h ∙ ap (λ (v : Tree). Some (record { start = begins a ts n; end = begins a ts n + length (text_of v); node = v })) (sym e)

-- whether it covers the replaced bytes, by its places
covers_is : (a : ℕ) (ts : List Tree) (rs re : ℕ) (near : Near) (u : Tree) → IsNear a ts rs re near → near.first.index < length ts → u ≡ get_or ts near.first.index u
    → covers rs re (laid a ts) near.first.index (record { start = begins a ts near.first.index; end = begins a ts near.first.index + length (text_of u); node = u }) ≡ is_covered rs re near u.head.is_inner
covers_is a ts rs re near u is h e = pick (near.end.index == suc near.first.index) refl
  where
    pick : (b : Bool) → (near.end.index == suc near.first.index) ≡ b → covers rs re (laid a ts) near.first.index (record { start = begins a ts near.first.index; end = begins a ts near.first.index + length (text_of u); node = u }) ≡ is_covered rs re near u.head.is_inner
    pick false f = rw (← is.end, f) refl
    pick true f =
        let next : near.end.index ≡ near.first.index + 1 = grind (arith, nat_tests) in
        let long : length (text_of (get_or ts near.first.index u)) ≡ length (text_of u) = ap (λ (v : Tree). length (text_of v)) (sym e) in
        let ends : near.end.byte ≡ begins a ts near.first.index + length (text_of u) = is.end_edge.byte ∙ (ap (begins a ts) next ∙ (begins_next a ts near.first.index u h ∙ ap (λ (n : ℕ). begins a ts near.first.index + n) long)) in
        rw (← is.end, f, is.first_edge.byte, ends) refl

abbrev Rest : List Note → ℕ → ℕ → List ℕ → ℕ → SyntaxKind → ℕ → List Tree → ℕ → Option Child → List Candidate
Rest ns rs re path at parent a ts i o = elim o as (λ _. List Candidate) [
  | None ↦ []
  | Some c ↦
      if covers rs re (laid a ts) i c
      then candidates_at ns rs re (path ++ i ∷ []) (run_in ns at parent c.node.head.kind) 0 c.start (forest (c.node ∷ [])) ++ of_block path a ts i c.node.head.kind
      else []
]

module _ (ns : List Note) (rs re : ℕ) (path : List ℕ) (at a : ℕ) (t : Tree) (ts : List Tree) (near : Near) (kids : trees t.kids ≡ ts) (inside : at + length t.head.text ≡ a) (is : IsNear a ts rs re near) where
  -- what lies below, over the children at hand
  in_hand : below ns rs re path at t ≡ Rest ns rs re path at t.head.kind a ts near.first.index (child_at (laid a ts) near.first.index)
  in_hand = grind arith

  pub below_none : length ts ≤ near.first.index → below ns rs re path at t ≡ []
  below_none h = in_hand ∙ ap (Rest ns rs re path at t.head.kind a ts near.first.index) (child_none a ts near.first.index h)

  module _ (u : Tree) (h : near.first.index < length ts) (e : u ≡ get_or ts near.first.index u) where
    pub below_else : is_covered rs re near u.head.is_inner ≡ false → below ns rs re path at t ≡ []
    below_else f = in_hand ∙ (ap (Rest ns rs re path at t.head.kind a ts near.first.index) (child_in_hand a ts near.first.index u h e) ∙ rw (covers_is a ts rs re near u is h e ∙ f) refl)

    below_then : is_covered rs re near u.head.is_inner ≡ true
        → below ns rs re path at t ≡ candidates_at ns rs re (path ++ near.first.index ∷ []) (run_in ns at t.head.kind u.head.kind) 0 (begins a ts near.first.index) (forest (u ∷ [])) ++ of_block path a ts near.first.index u.head.kind
    below_then f = in_hand ∙ (ap (Rest ns rs re path at t.head.kind a ts near.first.index) (child_in_hand a ts near.first.index u h e) ∙ rw (covers_is a ts rs re near u is h e ∙ f) refl)

    -- with those at the child, by its path and its run
    pub deeper : (longer : List ℕ) (run : Option (List ℕ)) → is_covered rs re near u.head.is_inner ≡ true → longer ≡ path ++ near.first.index ∷ [] → run ≡ run_in ns at t.head.kind u.head.kind
        → below ns rs re path at t ≡ candidates_at ns rs re longer run 0 near.first.byte (forest (u ∷ [])) ++ of_block path a ts near.first.index u.head.kind
    deeper longer run f way same =
        below_then f ∙ ap (λ (ys : List Candidate). ys ++ of_block path a ts near.first.index u.head.kind)
        (sym (λ k. candidates_at ns rs re (way k) (same k) 0 (is.first_edge.byte k) (forest (u ∷ []))))

-- a longer path begins with a shorter one
pub path_front : (p q r : List ℕ) (i : ℕ) → q ≡ p ++ i ∷ [] → take (length q) r ≡ q → take (length p) r ≡ p
path_front p q r i e f =
    let long : length p ≤ length q = omega (arith, ap length e, length-append p (i ∷ [])) in
    sym (take-take (length p) (length q) r long) ∙ (ap (take (length p)) (f ∙ e) ∙ take_at p (i ∷ []) (length p) refl)
