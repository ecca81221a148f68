-- A tree that was numbered as a whole, or not at all.
use Rattle.typst_parser.proofs.Cited.{◌≡◌, ℕ, ◌+◌, ◌-◌, ◌^◌, ◌≤◌, Bool, true, if◌then◌else◌, List, ◌++◌, Option, Some, None, refl, arith, All, nat_le, same_Some, Forest, none, more, Tree, places, preorder, nodes, bare, bare_forest, joined, text_of, with_each, synthesized, chars, CharClasses, tree, Units, Held, file_of, Headline, AreNumbered, AreOrdered, numbered_in, AreUnits, IsPlaced, IsPlacedBy, KeepsRecords, All-nil, All-cons, All-append, spanned, placed, numbered, numbered_bare, text_numbered, nodes_numbered}
use Rattle.typst_parser.proofs.Replaced.{IsDetached, numbered-spans}

-- ---- a tree without numbers

forest-detached : (f : Forest) → All IsDetached (preorder (with_each (spanned None) f))
forest-detached none = All-nil IsDetached
forest-detached (more h ks r) =
    All-cons IsDetached (record { head = spanned None h; kids = with_each (spanned None) ks })
    (preorder (with_each (spanned None) ks) ++ preorder (with_each (spanned None) r)) refl
    (All-append IsDetached (preorder (with_each (spanned None) ks)) (preorder (with_each (spanned None) r)) (forest-detached ks) (forest-detached r))

detached : (t : Tree) → All IsDetached (places (synthesized None t))
detached t = All-cons IsDetached (synthesized None t) (preorder (with_each (spanned None) t.kids)) refl (forest-detached t.kids)

bare-each : (f : Forest) → bare_forest (with_each (spanned None) f) ≡ bare_forest f
bare-each none = refl
bare-each (more h ks r) = rw (bare-each ks, bare-each r) refl

joined-each : (f : Forest) → joined (with_each (spanned None) f) ≡ joined f
joined-each none = refl
joined-each (more h ks r) = rw (joined-each ks, joined-each r) refl

-- ---- the fresh tree of a source

record WasNumbered (file : ℕ) (t u : Tree) : Type 0 where
  fits : nodes t ≤ 2 ^ 47 - 2
  is : numbered file 2 (2 ^ 47 - 2) t ≡ u

was-by : (file : ℕ) (t u : Tree) (b : Bool) → nat_le (nodes t) (2 ^ 47 - 2) ≡ b → (if b then Some (numbered file 2 (2 ^ 47 - 2) t) else None) ≡ Some u → WasNumbered file t u
was-by file t u b e is = grind arith

was-numbered : (file : ℕ) (t u : Tree) → numbered_in (Some file) t ≡ Some u → WasNumbered file t u
was-numbered file t u is = was-by file t u (nat_le (nodes t) (2 ^ 47 - 2)) refl is

pub fresh-bare : (file : Option ℕ) (t u : Tree) → numbered_in file t ≡ Some u → bare u ≡ bare t
fresh-bare file t u is = grind (arith, same_Some, bare-each, was-numbered, numbered_bare)

pub fresh-text : (file : Option ℕ) (t u : Tree) → numbered_in file t ≡ Some u → text_of u ≡ text_of t
fresh-text file t u is = grind (arith, same_Some, joined-each, was-numbered, text_numbered)

-- its root names the file
pub fresh-file : (file : Option ℕ) (t u : Tree) → numbered_in file t ≡ Some u → file_of u ≡ file
fresh-file file t u is = grind arith

pub fresh-numbers : (file : Option ℕ) (t u : Tree) → numbered_in file t ≡ Some u → AreOrdered file u → AreNumbered file u
fresh-numbers file t u is order = grind (arith, same_Some, detached, was-numbered, numbered-spans, nodes_numbered)

-- the headline holds of a source with such a tree
pub headline-new : {C : Type 0} (k : CharClasses) (s : Held C) (file : Option ℕ) → numbered_in file (tree k (chars s.text)) ≡ Some s.root → text_of s.root ≡ s.text → AreNumbered file s.root → Headline k s
headline-new k s file is leaves numbers = grind (arith, fresh-bare, fresh-file)

-- and the numbers of its root lie among those that nodes can have
pub placed-new : (file : Option ℕ) (t u : Tree) → numbered_in file t ≡ Some u → t.head.is_inner ≡ true → IsPlacedBy file u → IsPlaced file u
placed-new file t u is inner numbered = grind arith

-- what a source keeps whose whole text was read
pub records-new : {C : Type 0} (k : CharClasses) (s : Held C) (file : Option ℕ) (units : Units) (text : List ℕ) → text ≡ s.text → numbered_in file (tree k (chars text)) ≡ Some s.root → text_of s.root ≡ text → AreNumbered file s.root
    → IsPlaced file s.root → AreUnits k text units → KeepsRecords k s units
records-new k s file units text e is leaves numbers placed are = grind (arith, headline-new, fresh-file)
