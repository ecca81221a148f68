-- From candidates that are asked one after the other to the answer of an edit.
use Rattle.typst_parser.proofs.Cited.{◌≡◌, ℕ, zero, suc, ◌≤◌, ◌<◌, ◌^◌, Bool, IsTrue, List, [], ◌∷◌, ◌++◌, length, take, drop, Option, Some, None, Ok, refl, ap, sym, subst, ◌∙◌, arith, same_Some, slice_get, IfOk, IfSome, Result, Range, CharClasses, bytes-length, width, Tree, bare, text_of, At, Reaches, kids_of, replaced_at, Candidate, Units, end_of, spliced, log, tree, leaves, IsAnswer, Refused, part, entries_in, StandsIn, Among, Every, listed, candidate-places-law, in-order, tree-inner, among, Fails, IsPart, Speaks, TextReplacement, Holds, Makes, candidates, text_before, HasTaken, NonePassesOf, Takes, TakesFirst, Asked, ReparsedPart, Reread, Replacement, joined_bare, answer-tree-law, unique-law}
use Rattle.std.specs.declared.alloc.AllocError.{AllocError}
use Rattle.typst_candidates.specs.Candidates as candidate
use Rattle.typst_parser.proofs.Numbers.{entries-end}
use Rattle.typst_parser.proofs.Places.{bytes-width}

-- ---- lists

pub split-at : {X : Type 0} (xs : List X) (i : ℕ) (x : X) → slice_get xs i ≡ Some x → xs ≡ take i xs ++ x ∷ drop (suc i) xs
split-at [] i x h = absurd (cc)
split-at (y ∷ ys) zero x h = ap (λ z. z ∷ ys) (same_Some y x h)
split-at (y ∷ ys) (suc i) x h = ap (λ zs. y ∷ zs) (split-at ys i x h)

-- one more of which something holds
pub each-next : {X : Type 0} (P : X → Type 0) (xs : List X) (i : ℕ) (x : X) → slice_get xs i ≡ Some x → Every P (take i xs) → P x → Every P (take (suc i) xs)
each-next P [] i x h e p = tt
each-next P (y ∷ ys) zero x h e p = (subst P (sym (same_Some y x h)) p, tt)
each-next P (y ∷ ys) (suc i) x h e p = (e.0, each-next P ys i x h e.1 p)

-- of fewer too
pub each-fewer : {X : Type 0} (P : X → Type 0) (xs : List X) (m n : ℕ) → n ≤ m → Every P (take m xs) → Every P (take n xs)
each-fewer P xs m zero h e = tt
each-fewer P xs zero (suc n) h e = absurd (omega arith)
each-fewer P [] (suc m) (suc n) h e = tt
each-fewer P (x ∷ xs) (suc m) (suc n) h e = (e.0, each-fewer P xs m n (omega arith) e.1)

-- ---- children

-- where a path reaches children from one on, it reaches them from another on
pub reaches-from : (path : List ℕ) (from other to : ℕ) (t : Tree) → Reaches path from to t → (other ≤ to → Reaches path other to t) × (from ≤ to)
reaches-from [] from other to t h = ((λ l. (h.0, l, h.2)), h.1)
reaches-from (i ∷ path) from other to t h = by-kid (slice_get (kids_of t) i) (reaches-from path from other to) h
  where
    by-kid : (o : Option Tree) → ((k : Tree) → Reaches path from to k → (other ≤ to → Reaches path other to k) × (from ≤ to)) → At (Reaches path from to) o → (other ≤ to → At (Reaches path other to) o) × (from ≤ to)
    by-kid o on h = grind arith

-- ---- the old text

text-bare : (t : Tree) → text_of (bare t) ≡ text_of t
text-bare t = ap (λ xs. t.head.text ++ xs) (joined_bare t.kids)

module _ (k : CharClasses) (c : TextReplacement) (root : Tree) (units : Units) (h : Holds k c root units) where
  -- the old tree's leaves are the old text
  pub root-length : length (text_of root) ≡ width (text_before c)
  root-length =
      ap (λ xs. length xs) (sym (text-bare root) ∙ ap text_of h.tree_is ∙ text-bare (tree k (text_before c)) ∙ leaves k (text_before c))
      ∙ sym (bytes-length (text_before c)) ∙ sym (bytes-width (text_before c))

  pub root-fits : (new : List ℕ) (e : Replacement) → Makes c new e → length (text_of root) < 2 ^ 64
  root-fits new e m = let l = root-length in let f = m.fits in omega (arith, l, f)

  pub entries-are : units.entries ≡ entries_in k (text_before c)
  entries-are = ap (λ (u : Units). u.entries) h.units_are

  pub places-fit : (new : List ℕ) (e : Replacement) → Makes c new e → end_of 0 units.entries < 2 ^ 64
  places-fit new e m = grind (arith, entries-end, entries-are)

  pub root-inner : IsTrue root.head.is_inner
  root-inner = subst (λ (b : Bool). IsTrue b) (sym (ap (λ (t : Tree). t.head.is_inner) h.tree_is)) (tree-inner k (text_before c))

  pub edit-order : (new : List ℕ) (e : Replacement) → Makes c new e → e.start ≤ e.old_end
  edit-order new e m = let o = in-order c.front c.old in let a = m.start in let b = m.old_end in omega (arith, o, a, b)

  -- a candidate stands in the tree
  pub candidate-stands : (d : Candidate) → Among d (candidates k c root) → StandsIn root d
  candidate-stands d chosen =
      among (StandsIn root) d (candidates k c root) chosen
      (candidate-places-law (listed (log k (text_before c)).notes) (width c.front) (width (c.front ++ c.old)) root root-inner (in-order c.front c.old))

  pub candidate-order : (d : Candidate) → Among d (candidates k c root) → d.from ≤ d.to
  candidate-order d chosen = (reaches-from d.path d.from d.from d.to root (candidate-stands d chosen).reaches).1

  -- a part is put at children that are there
  pub part-reaches : (d : Candidate) → Among d (candidates k c root) → (p : ReparsedPart) → IsPart k c root d p → Reaches d.path p.first_child d.to root
  part-reaches d chosen p is = (reaches-from d.path d.from p.first_child d.to root (candidate-stands d chosen).reaches).0 is.first

  -- the candidates of the replaced bytes are those of the edit
  pub candidates-are : (new : List ℕ) (e : Replacement) → Makes c new e → candidate.candidates (listed (log k (text_before c)).notes) e.start e.old_end root ≡ candidates k c root
  candidates-are new e m = grind arith

  -- ---- one candidate

  module _ (d : Candidate) (chosen : Among d (candidates k c root)) where
    pub fails-refused : Fails k c d → Refused k c root d
    fails-refused never = λ ts g. absurd (never ts g)

    pub full-refused : (p : ReparsedPart) → IsPart k c root d p → replaced_at d.path p.first_child d.to p.nodes.items root ≡ None → Refused k c root d
    full-refused p is none = λ ts g.
        ap (λ us. replaced_at d.path d.from d.to us root) (unique-law k c root d ts is.nodes h.tree_is chosen g is.gives) ∙ is.puts ∙ none

    pub part-taken : (p : ReparsedPart) (now : Tree) (units_now : Units) → IsPart k c root d p → replaced_at d.path p.first_child d.to p.nodes.items root ≡ Some now → units_now ≡ spliced p.from_entry p.to_entry p.entries.units.entries units → HasTaken k c d root now units_now p.end
    part-taken p now units_now is put spliced_is = record {
      nodes = is.nodes;
      gives = is.gives;
      put = is.puts ∙ put;
      shifted = is.end;
      units_are = spliced_is ∙ ap (λ u. spliced p.from_entry p.to_entry p.entries.units.entries u) h.units_are ∙ sym is.units;
    }

  -- ---- the answer

  -- the candidate of a number, where all before it are refused
  pub takes-it : (cs : List Candidate) → cs ≡ candidates k c root → (i : ℕ) (d : Candidate) (now : Tree) (units_now : Units) (end : ℕ) → slice_get cs i ≡ Some d → Every (Refused k c root) (take i cs)
      → HasTaken k c d root now units_now end → Takes k c root now units_now (record { start = d.start; end = end })
  takes-it cs same i d now units_now end at refused taken =
      let split = sym same ∙ split-at cs i d at in
      let range : Range ℕ = record { start = d.start; end = end } in
      let answer : IsAnswer k c (candidates k c root) root now range = part (take i cs) d (drop (suc i) cs) taken.nodes split refused taken.gives taken.put refl taken.shifted in
      record { answer = answer; tree_is = answer-tree-law k c root now range h.tree_is answer; units_are = taken.units_are }

-- ---- candidates of a tree that stayed

module _ (k : CharClasses) (c : TextReplacement) (root : Tree) (units : Units) (r : Tree) (r_is : r ≡ root) (u : Units) (u_is : u ≡ units) where
  pub holds-still : Holds k c root units → Holds k c r u
  holds-still h = subst (λ x. Holds k c x u) (sym r_is) (subst (λ v. Holds k c root v) (sym u_is) h)

  pub speaks-still : {C : Type 0} (q : Asked C) → Speaks k c q root units → Speaks k c q r u
  speaks-still q h = subst (λ x. Speaks k c q x u) (sym r_is) (subst (λ v. Speaks k c q root v) (sym u_is) h)

  pub none-still : (n : ℕ) → NonePassesOf k c root n → NonePassesOf k c r n
  none-still n h = subst (λ x. NonePassesOf k c x n) (sym r_is) h

  -- what was taken of it is taken of the tree before
  pub taken-before : (now : Tree) (units_now : Units) (n : ℕ) (o : Result (Option Reread) AllocError) → IfOk o (λ x. TakesFirst k c r now units_now n x) → IfOk o (λ x. IfSome x (λ read. Takes k c root now units_now read.range))
  taken-before now units_now n o h = grind arith

  -- where nothing was taken of it, there is none among so many
  pub none-of : (now : Tree) (units_now : Units) (n : ℕ) (o : Result (Option Reread) AllocError) → o ≡ Ok None → IfOk o (λ x. TakesFirst k c r now units_now n x) → NonePassesOf k c r n
  none-of now units_now n o e h = subst (λ (p : Result (Option Reread) AllocError). IfOk p (λ x. TakesFirst k c r now units_now n x)) e h
