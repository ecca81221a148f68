-- What holds of the candidates of a node, by those of its child near the replaced bytes and of its own run; and where a candidate that is a block stands.
use Rattle.typst_edits.proofs.Cited.{◌≡◌, ℕ, zero, suc, ◌+◌, ◌*◌, ◌<◌, true, false, if◌then◌else◌, List, [], ◌∷◌, ◌++◌, length, Option, Some, None, refl, ap, sym, subst, ◌∙◌, arith, append_assoc, length-append, is_block, Head, Note, texts, Forest, none, more, Tree, forest, trees, text_of, Child, laid, first_near, end_near, child_at, ChildRange, Candidate, of_run, run_in, candidates_at, begins, of_children, is_all, of_child_ranges, child_ranges, covers, Among, this, that, Every, Hole, plug, path_of, under, on_both, forest_trees, is_block_head, begins_first, and-both}
use Rattle.typst_tree.specs.Tree.{joined}
use Rattle.typst_candidates.specs.Candidates.{around, of_block}
use Rattle.typst_edits.specs.Hole.Deep.{bare}
use Rattle.typst_edits.proofs.Edit.{among}
use Rattle.typst_edits.proofs.Every.{every-append, every-by, every-if, some_or}
use Rattle.typst_edits.proofs.Walk.{length-texts, left_text}

-- ---- lists

pub every-among : {X : Type 0} (xs : List X) → Every (λ x. Among x xs) xs
every-among [] = tt
every-among (x ∷ xs) = (this xs, every-by (λ y h. that x xs h) xs (every-among xs))

-- ---- those of a node

-- pieces of the node at the end of a path
pub record Own (path : List ℕ) (c : Candidate) : Type 0 where
  pub at_end : c.path ≡ path
  pub pieces : c.is_block ≡ false

child_ranges-own : (path : List ℕ) (at : ℕ) (ts : List Tree) (ss : List ChildRange) → Every (Own path) (of_child_ranges path at ts ss)
child_ranges-own path at ts [] = tt
child_ranges-own path at ts (s ∷ ss) = (record { at_end = refl; pieces = refl }, child_ranges-own path at ts ss)

pub run-own : (rs re : ℕ) (path : List ℕ) (at : ℕ) (ts : List Tree) (run : Option (List ℕ)) → Every (Own path) (of_run rs re path at ts run)
run-own rs re path at ts run = grind (arith, child_ranges-own)

-- ---- a child

pub record Covers (rs re : ℕ) (c : Child) : Type 0 where
  pub starts : c.start < rs
  pub ends : re < c.end
  pub inner : c.node.head.is_inner ≡ true

pub covers-is : (rs re : ℕ) (cs : List Child) (i : ℕ) (c : Child) → covers rs re cs i c ≡ true → Covers rs re c
covers-is rs re cs i c e = grind arith

-- What is so of the tree of an index among some side by side, by where that begins, is so of the child there.
abbrev pub AtIndex : (ℕ → Head → Forest → Type 0) → ℕ → ℕ → Forest → Type 0
AtIndex P index at none = Unit {0}
AtIndex P zero at (more h ks r) = P at h ks
AtIndex P (suc index) at (more h ks r) = AtIndex P index (at + length (h.text ++ joined ks)) r

pub at-child : (P : ℕ → Head → Forest → Type 0) (index at : ℕ) (f : Forest) (d : Child) → child_at (laid at (trees f)) index ≡ Some d → AtIndex P index at f → P d.start d.node.head d.node.kids
at-child P index at none d e g = absurd (cc)
at-child P zero at (more h ks r) d e g = grind arith
at-child P (suc index) at (more h ks r) d e g = at-child P index (at + length (h.text ++ joined ks)) r d e g

module _ (ns : List Note) (rs re : ℕ) where
  -- What holds of those of its child near the bytes, if that covers them, of that child, and of those of its own run, holds of those of a node.
  pub node-every : (P : Candidate → Type 0) (path : List ℕ) (run : Option (List ℕ)) (at : ℕ) (h : Head) (ks r : Forest)
      → (let inside = at + length h.text in let cs = laid inside (trees ks) in let i = first_near rs cs in
      ((c : Child) → child_at cs i ≡ Some c → covers rs re cs i c ≡ true → Every P (candidates_at ns rs re (path ++ i ∷ []) (run_in ns at h.kind c.node.head.kind) i inside ks))
      → ((c : Child) → child_at cs i ≡ Some c → covers rs re cs i c ≡ true → is_block c.node.head.kind ≡ true → P (of_children true path inside (trees ks) i (suc i)))
      → Every P (of_run rs re path inside (trees ks) run) → Every P (candidates_at ns rs re path run zero at (more h ks r)))
  unfolding candidates_at
  node-every P path run at h ks r f g own =
      let cs = laid (at + length h.text) (trees ks) in
      every-append P _ _ (by-child (child_at cs (first_near rs cs)) f g) own
    where
      by-child : (o : Option Child) → ((c : Child) → o ≡ Some c → covers rs re (laid (at + length h.text) (trees ks)) (first_near rs (laid (at + length h.text) (trees ks))) c ≡ true
          → Every P (candidates_at ns rs re (path ++ first_near rs (laid (at + length h.text) (trees ks)) ∷ []) (run_in ns at h.kind c.node.head.kind) (first_near rs (laid (at + length h.text) (trees ks))) (at + length h.text) ks))
          → ((c : Child) → o ≡ Some c → covers rs re (laid (at + length h.text) (trees ks)) (first_near rs (laid (at + length h.text) (trees ks))) c ≡ true → is_block c.node.head.kind ≡ true
          → P (of_children true path (at + length h.text) (trees ks) (first_near rs (laid (at + length h.text) (trees ks))) (suc (first_near rs (laid (at + length h.text) (trees ks))))))
          → Every P (elim o as (λ _. List Candidate) [
            | None ↦ []
            | Some c ↦
                if covers rs re (laid (at + length h.text) (trees ks)) (first_near rs (laid (at + length h.text) (trees ks))) c
                then candidates_at ns rs re (path ++ first_near rs (laid (at + length h.text) (trees ks)) ∷ []) (run_in ns at h.kind c.node.head.kind) (first_near rs (laid (at + length h.text) (trees ks))) (at + length h.text) ks ++ of_block path (at + length h.text) (trees ks) (first_near rs (laid (at + length h.text) (trees ks))) c.node.head.kind
                else []
          ])
      by-child None f g = tt
      by-child (Some c) f g =
          let inside = at + length h.text in
          let cs = laid inside (trees ks) in
          let i = first_near rs cs in
          every-if P (covers rs re cs i c) (candidates_at ns rs re (path ++ i ∷ []) (run_in ns at h.kind c.node.head.kind) i inside ks ++ of_block path inside (trees ks) i c.node.head.kind) []
          (λ e. every-append P (candidates_at ns rs re (path ++ i ∷ []) (run_in ns at h.kind c.node.head.kind) i inside ks) (of_block path inside (trees ks) i c.node.head.kind) (f c refl e)
          (every-if P (is_block c.node.head.kind) (of_children true path inside (trees ks) i (suc i) ∷ []) [] (λ one. (g c refl e one, tt)) (λ no. tt)))
          (λ e. tt)

-- ---- candidates of a run

-- A candidate is the children of a stretch around the bytes.
pub record OfStretch (rs re : ℕ) (path : List ℕ) (at : ℕ) (ts : List Tree) (cuts : List ℕ) (c : Candidate) : Type 0 where
  pub more : ℕ
  pub is : (let cs = laid at ts in let s = around cuts cs (first_near rs cs) (end_near re cs) more in c ≡ of_children false path at ts s.from s.to)

module _ (rs re : ℕ) (path : List ℕ) (at : ℕ) (ts : List Tree) (cuts : List ℕ) where
  child_ranges-of : (tries x : ℕ) → (let cs = laid at ts in Every (OfStretch rs re path at ts cuts) (of_child_ranges path at ts (child_ranges cuts cs (first_near rs cs) (end_near re cs) tries x)))
  child_ranges-of zero x = tt
  child_ranges-of (suc tries) x =
      let cs = laid at ts in
      let s = around cuts cs (first_near rs cs) (end_near re cs) x in
      (record { more = x; is = refl }, on_both (λ (ss : List ChildRange). Every (OfStretch rs re path at ts cuts) (of_child_ranges path at ts ss)) (is_all cs s) [] (child_ranges cuts cs (first_near rs cs) (end_near re cs) tries (2 * x)) tt (child_ranges-of tries (2 * x)))

  -- Each candidate of a run is one.
  pub of-run : (c : Candidate) → Among c (of_run rs re path at ts (Some cuts)) → OfStretch rs re path at ts cuts c
  of-run c chosen = among (OfStretch rs re path at ts cuts) c _ chosen (child_ranges-of (suc (length ts)) 1)

-- ---- where a block candidate stands: its node in a hole, by bytes

-- A node of a block's kind stands in a hole among some nodes, the first of which begins at a byte; it begins before a stretch and ends after it.
pub record BlockAt (path : List ℕ) (at rs re : ℕ) (ts : List Tree) (c : Candidate) : Type 0 where
  pub hole : Hole
  pub node : Tree
  pub is : ts ≡ plug hole node
  pub path_is : c.path ++ c.from ∷ [] ≡ path ++ path_of hole
  pub head : is_block_head node.head ≡ true
  pub start : c.start ≡ at + length (left_text hole)
  pub end : c.end ≡ c.start + length (text_of node)
  pub starts : c.start < rs
  pub ends : re < c.end

-- ---- a child

pub record Split (at i : ℕ) (ts : List Tree) (c : Child) : Type 0 where
  pub left : List Tree
  pub right : List Tree
  pub is : ts ≡ left ++ c.node ∷ right
  pub index : length left ≡ i
  pub start : c.start ≡ at + length (texts left)
  pub end : c.end ≡ c.start + length (text_of c.node)
  pub begin : begins at ts i ≡ c.start
  pub next : begins at ts (suc i) ≡ c.end

pub split-child : (at i : ℕ) (ts : List Tree) (c : Child) → child_at (laid at ts) i ≡ Some c → Split at i ts c
split-child at i [] c e = absurd (cc)
split-child at zero (t ∷ ts) c e =
    let d : Child = record { start = at; end = at + length (text_of t); node = t } in
    let same : d ≡ c = ap (some_or d) e in
    let none : List Tree = [] in
    let zero_is : length none ≡ 0 = omega arith in
    subst (Split at zero (t ∷ ts)) same (record { left = []; right = ts; is = refl; index = zero_is; start = omega arith; end = refl; begin = refl; next = begins_first (at + length (text_of t)) ts })
split-child at (suc i) (t ∷ ts) c e =
    let r = split-child (at + length (text_of t)) i ts c e in
    let l = length-texts t r.left in
    record { left = t ∷ r.left; right = r.right; is = ap (λ us. t ∷ us) r.is; index = omega (arith, r.index); start = omega (arith, r.start, l); end = r.end; begin = r.begin; next = r.next }

-- ---- those of a node

-- What is found of the tree of an index among some trees side by side.
abbrev Found : List ℕ → ℕ → ℕ → Candidate → ℕ → Head → Forest → Type 0
Found path rs re c at h ks = BlockAt path (at + length h.text) rs re (trees ks) c

abbrev Finds : List ℕ → ℕ → ℕ → ℕ → ℕ → Forest → Candidate → Type 0
Finds path index at rs re f c = c.is_block ≡ true → AtIndex (Found path rs re c) index at f

pub block-head : (t : Tree) → t.head.is_inner ≡ true → is_block t.head.kind ≡ true → is_block_head t.head ≡ true
block-head t e f = and-both t.head.is_inner (is_block t.head.kind) e f

module _ (ns : List Note) (rs re : ℕ) where
  -- the child alone
  alone-at : (path : List ℕ) (at i : ℕ) (ts : List Tree) (d : Child) → child_at (laid at ts) i ≡ Some d → Covers rs re d → is_block d.node.head.kind ≡ true → BlockAt path at rs re ts (of_children true path at ts i (suc i))
  alone-at path at i ts d e on is_one =
      let s = split-child at i ts d e in
      record {
        hole = record { left = s.left; deep = bare; right = s.right };
        node = d.node;
        is = s.is;
        path_is = ap (λ n. path ++ n ∷ []) (sym s.index);
        head = block-head d.node on.inner is_one;
        start = omega (arith, s.begin, s.start, length-append (texts s.left) []);
        end = omega (arith, s.begin, s.next, s.end);
        starts = omega (arith, s.begin, on.starts);
        ends = omega (arith, s.next, on.ends);
      }

  -- one within a child
  within-child : (path : List ℕ) (at i : ℕ) (ts : List Tree) (d : Child) (c : Candidate) → child_at (laid at ts) i ≡ Some d → BlockAt (path ++ i ∷ []) (d.start + length d.node.head.text) rs re (trees d.node.kids) c → BlockAt path at rs re ts c
  within-child path at i ts d c e b =
      let s = split-child at i ts d e in
      let h = b.hole in
      let y : Tree = record { head = d.node.head; kids = forest (plug h b.node) } in
      let same : d.node ≡ y = ap (λ f. record { head = d.node.head; kids = f }) (sym (forest_trees d.node.kids) ∙ ap forest b.is) in
      record {
        hole = record { left = s.left; deep = under d.node.head h.left h.deep h.right; right = s.right };
        node = b.node;
        is = s.is ∙ ap (λ t. s.left ++ t ∷ s.right) same;
        path_is = b.path_is ∙ append_assoc path (i ∷ []) (path_of h) ∙ ap (λ n. path ++ n ∷ path_of h) (sym s.index);
        head = b.head;
        start = omega (arith, b.start, s.start, length-append d.node.head.text (left_text h), length-append (texts s.left) (d.node.head.text ++ left_text h));
        end = b.end;
        starts = b.starts;
        ends = b.ends;
      }

  pub all-find : (path : List ℕ) (run : Option (List ℕ)) (index at : ℕ) (f : Forest) → Every (Finds path index at rs re f) (candidates_at ns rs re path run index at f)
  unfolding candidates_at
  all-find path run index at none = tt
  all-find path run (suc index) at (more h ks r) = all-find path run index (at + length (h.text ++ joined ks)) r
  all-find path run zero at (more h ks r) =
      let inside = at + length h.text in
      let cs = laid inside (trees ks) in
      let i = first_near rs cs in
      let q = path ++ i ∷ [] in
      node-every ns rs re (Finds path zero at rs re (more h ks r)) path run at h ks r
      (λ d e on. every-by {Q = Finds path zero at rs re (more h ks r)} (λ c f is. within-child path inside i (trees ks) d c e (at-child (Found q rs re c) i inside ks d e (f is))) _ (all-find q (run_in ns at h.kind d.node.head.kind) i inside ks))
      (λ d e on one is. alone-at path inside i (trees ks) d e (covers-is rs re cs i d on) one)
      (every-by {Q = Finds path zero at rs re (more h ks r)} (λ c o is. absurd (let no = sym is ∙ o.pieces in cc)) _ (run-own rs re path inside (trees ks) run))
