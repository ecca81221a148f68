-- Where a candidate that is pieces comes from: from the run of the tree's root, or from that of a child that covers the replaced bytes and is the markup of a content block.
use Rattle.typst_edits.proofs.Cited.{◌≡◌, ◌⊎◌, inl, inr, ℕ, zero, suc, ◌+◌, ◌<◌, Bool, true, false, ◌&&◌, if◌then◌else◌, List, [], ◌∷◌, ◌++◌, length, Option, Some, None, refl, ap, sym, ◌∙◌, subst, arith, append_assoc, length-append, same, Head, SyntaxKind, Note, texts, Forest, none, more, Tree, forest, trees, Child, laid, first_near, child_at, Candidate, of_run, run_in, candidates_at, cuts_in, Among, Every, Deep, fill, path_in, under, forest_trees}
use Rattle.typst_tree.specs.Tree.{joined}
use Rattle.typst_edits.specs.Hole.Deep.{bare}
use Rattle.typst_kinds.specs.declared.kind.SyntaxKind.TheVariants as kind
use Rattle.typst_kinds.proofs.Sameness.{same-is}
use Rattle.typst_edits.proofs.MarkupCandidates.{split-child, Covers, covers-is, AtIndex, at-child, Own, every-among, node-every, run-own}
use Rattle.typst_edits.proofs.BlockPlaces.{deep-same, split-same}
use Rattle.typst_edits.proofs.Edit.{among}
use Rattle.typst_edits.proofs.Every.{every-by}
use Rattle.typst_edits.proofs.Walk.{deep_text}

module _ (ns : List Note) (rs re : ℕ) where
  -- In a tree that begins at a byte the candidate is children of a child of this node, which is a run and covers the replaced bytes.
  pub record Placed (path : List ℕ) (at : ℕ) (t : Tree) (c : Candidate) : Type 0 where
    pub deep : Deep
    pub node : Tree
    pub is : t ≡ fill deep node
    pub inner : node.head.is_inner ≡ true
    pub step : ℕ
    pub path_is : c.path ≡ path ++ (path_in deep ++ step ∷ [])
    pub child : Child
    pub there : child_at (laid ((at + length (deep_text deep)) + length node.head.text) (trees node.kids)) step ≡ Some child
    pub covers : Covers rs re child
    pub own : Among c (of_run rs re c.path (child.start + length child.node.head.text) (trees child.node.kids) (run_in ns (at + length (deep_text deep)) node.head.kind child.node.head.kind))

  -- The candidate is of a node's own run, or of a child's.
  abbrev Comes : List ℕ → Option (List ℕ) → Candidate → ℕ → Head → Forest → Type 0
  Comes path run c at h ks = ((c.path ≡ path) × Among c (of_run rs re path (at + length h.text) (trees ks) run)) ⊎ (h.is_inner ≡ true → Placed path at (record { head = h; kids = ks }) c)

  abbrev Finds : List ℕ → Option (List ℕ) → ℕ → ℕ → Forest → Candidate → Type 0
  Finds path run index at f c = c.is_block ≡ false → AtIndex (Comes path run c) index at f

  -- one within a child
  within-child : (path : List ℕ) (at i : ℕ) (h : Head) (ks : Forest) (d : Child) (c : Candidate) → child_at (laid (at + length h.text) (trees ks)) i ≡ Some d → Placed (path ++ i ∷ []) d.start d.node c → Placed path at (record { head = h; kids = ks }) c
  within-child path at i h ks d c e p =
      let s = split-child (at + length h.text) i (trees ks) d e in
      let x = p.node in
      let own : Tree = record { head = h; kids = ks } in
      let deep = under h s.left p.deep s.right in
      let kids : ks ≡ forest (s.left ++ fill p.deep x ∷ s.right) = sym (forest_trees ks) ∙ ap forest (s.is ∙ ap (λ t. s.left ++ t ∷ s.right) p.is) in
      let one = length-append h.text (texts s.left ++ deep_text p.deep) in
      let at_is : d.start + length (deep_text p.deep) ≡ at + length (deep_text deep) = omega (arith, one, length-append (texts s.left) (deep_text p.deep), s.start) in
      record {
        deep = deep;
        node = x;
        is = ap (λ f. record { head = h; kids = f }) kids;
        inner = p.inner;
        step = p.step;
        path_is = p.path_is ∙ append_assoc path (i ∷ []) (path_in p.deep ++ p.step ∷ []) ∙ ap (λ n. path ++ n ∷ (path_in p.deep ++ p.step ∷ [])) (sym s.index);
        child = p.child;
        there = subst (λ a. child_at (laid (a + length x.head.text) (trees x.kids)) p.step ≡ Some p.child) at_is p.there;
        covers = p.covers;
        own = subst (λ a. Among c (of_run rs re c.path (p.child.start + length p.child.node.head.text) (trees p.child.node.kids) (run_in ns a x.head.kind p.child.node.head.kind))) at_is p.own;
      }

  -- one of a child's own run
  of-child : (path : List ℕ) (at i : ℕ) (h : Head) (ks : Forest) (d : Child) (c : Candidate) → child_at (laid (at + length h.text) (trees ks)) i ≡ Some d → Covers rs re d → h.is_inner ≡ true → c.path ≡ path ++ i ∷ []
      → Among c (of_run rs re (path ++ i ∷ []) (d.start + length d.node.head.text) (trees d.node.kids) (run_in ns at h.kind d.node.head.kind)) → Placed path at (record { head = h; kids = ks }) c
  of-child path at i h ks d c e on inner p own =
      let none : List ℕ = [] in
      let zero_more : at ≡ at + length none = omega arith in
      record {
        deep = bare;
        node = record { head = h; kids = ks };
        is = refl;
        inner = inner;
        step = i;
        path_is = p;
        child = d;
        there = subst (λ a. child_at (laid (a + length h.text) (trees ks)) i ≡ Some d) zero_more e;
        covers = on;
        own = subst (λ a. Among c (of_run rs re c.path (d.start + length d.node.head.text) (trees d.node.kids) (run_in ns a h.kind d.node.head.kind))) zero_more
            (subst (λ q. Among c (of_run rs re q (d.start + length d.node.head.text) (trees d.node.kids) (run_in ns at h.kind d.node.head.kind))) (sym p) own);
      }

  -- one of a child that covers the replaced bytes
  by-child : (path : List ℕ) (at i : ℕ) (h : Head) (ks : Forest) (d : Child) (c : Candidate) → child_at (laid (at + length h.text) (trees ks)) i ≡ Some d → Covers rs re d → h.is_inner ≡ true
      → Comes (path ++ i ∷ []) (run_in ns at h.kind d.node.head.kind) c d.start d.node.head d.node.kids → Placed path at (record { head = h; kids = ks }) c
  by-child path at i h ks d c e on inner (inl own) = of-child path at i h ks d c e on inner own.0 own.1
  by-child path at i h ks d c e on inner (inr f) = within-child path at i h ks d c e (f on.inner)

  all-find : (path : List ℕ) (run : Option (List ℕ)) (index at : ℕ) (f : Forest) → Every (Finds path run index at f) (candidates_at ns rs re path run index at f)
  unfolding candidates_at
  all-find path run index at none = tt
  all-find path run (suc index) at (more h ks r) = all-find path run index (at + length (h.text ++ joined ks)) r
  all-find path run zero at (more h ks r) =
      let inside = at + length h.text in
      let cs = laid inside (trees ks) in
      let i = first_near rs cs in
      node-every ns rs re (Finds path run zero at (more h ks r)) path run at h ks r
      (λ d e on.
      let q = path ++ i ∷ [] in
      let own = run_in ns at h.kind d.node.head.kind in
      every-by {Q = Finds path run zero at (more h ks r)} (λ c f pieces. inr (λ inner. by-child path at i h ks d c e (covers-is rs re cs i d on) inner (at-child (Comes q own c) i inside ks d e (f pieces)))) _ (all-find q own i inside ks))
      (λ c e on one pieces. absurd (cc))
      (every-by {Q = Finds path run zero at (more h ks r)} (λ c a pieces. inl ((among (Own path) c _ a (run-own rs re path inside (trees ks) run)).at_end, a)) _ (every-among (of_run rs re path inside (trees ks) run)))

  -- of a tree whose root is an inner node
  pub in-tree : (path : List ℕ) (run : Option (List ℕ)) (at : ℕ) (t : Tree) → t.head.is_inner ≡ true → Every (λ c. c.is_block ≡ false → (c.path ≡ path → ⊥) → Placed path at t c) (candidates_at ns rs re path run zero at (more t.head t.kids none))
  in-tree path run at t inner = grind (arith, every-by, all-find)

  -- Pieces of its root are those of the root's run.
  pub own-run : (path : List ℕ) (run : Option (List ℕ)) (at : ℕ) (t : Tree) → t.head.is_inner ≡ true
      → Every (λ c. c.is_block ≡ false → c.path ≡ path → Among c (of_run rs re path (at + length t.head.text) (trees t.kids) run)) (candidates_at ns rs re path run zero at (more t.head t.kids none))
  own-run path run at t inner =
      every-by {Q = λ c. c.is_block ≡ false → c.path ≡ path → Among c (of_run rs re path (at + length t.head.text) (trees t.kids) run)}
      (λ c f pieces p. elim (f pieces) [ inl own ↦ own.1 | inr placed ↦ (let x = placed inner in absurd (omega (arith, ap length (sym p ∙ x.path_is), length-append path (path_in x.deep ++ x.step ∷ []), length-append (path_in x.deep) (x.step ∷ [])))) ])
      _ (all-find path run zero at (more t.head t.kids none))

  -- ---- down to a block

  -- it is one of the run of the node's second child, which begins before the bytes and ends after them
  pub record InMarkup (at : ℕ) (x : Tree) (c : Candidate) : Type 0 where
    pub child : Child
    pub is : child_at (laid (at + length x.head.text) (trees x.kids)) 1 ≡ Some child
    pub starts : child.start < rs
    pub ends : re < child.end
    pub chosen : Among c (of_run rs re c.path (child.start + length child.node.head.text) (trees child.node.kids) (run_in ns at x.head.kind child.node.head.kind))

  -- of the tree with the block in place of a hole, one at the path of its second child is in its markup
  pub at-second : (d : Deep) (x : Tree) (run : Option (List ℕ)) (at : ℕ) (c : Candidate) → (fill d x).head.is_inner ≡ true → Among c (candidates_at ns rs re [] run zero at (more (fill d x).head (fill d x).kids none)) → c.is_block ≡ false
      → c.path ≡ path_in d ++ 1 ∷ [] → InMarkup (at + length (deep_text d)) x c
  at-second d x run at c inner chosen pieces path =
      let p = among _ c _ chosen (in-tree [] run at (fill d x) inner) pieces (λ root. absurd (omega (arith, ap length (sym root ∙ path), length-append (path_in d) (1 ∷ [])))) in
      let steps : path_in d ++ 1 ∷ [] ≡ path_in p.deep ++ p.step ∷ [] = sym path ∙ p.path_is in
      let same = split-same (path_in d) [] (path_in p.deep) [] 1 p.step (omega (arith, ap length steps, length-append (path_in d) (1 ∷ []), length-append (path_in p.deep) (p.step ∷ []))) steps in
      let there = deep-same d p.deep x p.node same.0 p.is in
      grind arith

-- ---- the markup of a content block

-- The run is one that is noted, of markup in a content block.
pub record InContent (ns : List Note) (at : ℕ) (parent child : SyntaxKind) : Type 0 where
  pub content : parent ≡ kind.ContentBlock
  pub markup : child ≡ kind.Markup
  pub cuts : List ℕ
  pub noted : cuts_in at ns ≡ Some cuts

some-run : (rs re : ℕ) (path : List ℕ) (at : ℕ) (ts : List Tree) (c : Candidate) (run : Option (List ℕ)) → Among c (of_run rs re path at ts run) → (run ≡ None → ⊥)
some-run rs re path at ts c run a e = grind arith

pub in-content : (ns : List Note) (at : ℕ) (parent child : SyntaxKind) → (run_in ns at parent child ≡ None → ⊥) → InContent ns at parent child
in-content ns at parent child some = by-tests (same kind.ContentBlock parent) (same kind.Markup child) refl refl some
  where
    by-cuts : (o : Option (List ℕ)) → cuts_in at ns ≡ o → parent ≡ kind.ContentBlock → child ≡ kind.Markup → (o ≡ None → ⊥) → InContent ns at parent child
    by-cuts o e p m some = grind arith

    by-tests : (a b : Bool) → same kind.ContentBlock parent ≡ a → same kind.Markup child ≡ b → ((if a && b then cuts_in at ns else None) ≡ None → ⊥) → InContent ns at parent child
    by-tests true true p m some = by-cuts (cuts_in at ns) refl (same-is kind.ContentBlock parent p) (same-is kind.Markup child m) some
    by-tests true false p m some = absurd (some refl)
    by-tests false b p m some = absurd (some refl)

pub of-content : (ns : List Note) (rs re : ℕ) (path : List ℕ) (from : ℕ) (ts : List Tree) (c : Candidate) (at : ℕ) (parent child : SyntaxKind) → Among c (of_run rs re path from ts (run_in ns at parent child)) → InContent ns at parent child
of-content ns rs re path from ts c at parent child a = in-content ns at parent child (some-run rs re path from ts c (run_in ns at parent child) a)
