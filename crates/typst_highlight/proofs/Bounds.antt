-- Steps lead to other numbers of the same tree.
use Rattle.typst_highlight.proofs.Cited.{◌≡◌, ℕ, ◌+◌, ◌<◌, ◌≤◌, ◌==◌, Bool, true, false, ◌&&◌, List, [], ◌∷◌, length, map, Option, None, Some, refl, ap, sym, ◌∙◌, inl, inr, arith, cond, nat_lt, find, option_and_then, list_any, nat_tests, Forest, none, more, Tree, count, places, saturated, numbers, first_at, last_leaf, if_none, has_child, is_leaf, At, at, kind_of, parent, next_sibling, prev_leaf, leftmost_leaf, is_name, is_dot, access, named, name_before, earlier_name, leaf_of, expression_leaf}
use Rattle.std.proofs.lemmas.Bool.{cases_eq, and_parts}
use Rattle.std.proofs.lemmas.Option.{same_Some, none-some}
use Rattle.typst_highlight.proofs.Cases.{bool_cases, cond_case, cond_some, then_some, map_some}

abbrev pub member : ℕ → List ℕ → Bool
member k ns = list_any (λ m. m == k) ns

pub member_from : (k n : ℕ) (f : Forest) → member k (numbers n f) ≡ true → n ≤ k
member_from k n none h = absurd (cc)
member_from k n (more g ks r) h =
    elim (cases_eq n k) [
      | inl same ↦ omega (arith, same)
      | inr other ↦ (let fails : (n == k) ≡ false = grind (arith, nat_tests, other) in
          let w : n + 1 + count ks ≤ k = member_from k (n + 1 + count ks) r (rw fails at h) in
          omega (arith, w))
    ]

pub member_until : (k n : ℕ) (f : Forest) → member k (numbers n f) ≡ true → k < n + count f
member_until k n none h = absurd (cc)
member_until k n (more g ks r) h =
    elim (cases_eq n k) [
      | inl same ↦ omega (arith, same)
      | inr other ↦ (let fails : (n == k) ≡ false = grind (arith, nat_tests, other) in
          let w : k < n + 1 + count ks + count r = member_until k (n + 1 + count ks) r (rw fails at h) in
          omega (arith, w))
    ]

pub not_before : (k n : ℕ) (f : Forest) → k < n → member k (numbers n f) ≡ false
not_before k n f h = grind (arith, bool_cases, member_from)

pub first_within : (p : ℕ → ℕ → Tree → Bool) (n a m : ℕ) (xs : List Tree) → first_at p n a xs ≡ Some m → (n ≤ m) × (m < n + length xs)
first_within p n a m [] e = absurd (none-some m e)
first_within p n a m (x ∷ xs) e =
    cond_case (p n (saturated a) x) n m (first_at p (n + 1) (a + length x.head.text) xs) e
    (λ h s. (omega (arith, s), omega (arith, s)))
    (λ h f. let w = first_within p (n + 1) (a + length x.head.text) m xs f in (omega (arith, w.0), omega (arith, w.1)))

pub parent_within : (k n a m : ℕ) (xs : List Tree) → first_at (has_child k) n a xs ≡ Some m → m < k
parent_within k n a m [] e = absurd (none-some m e)
parent_within k n a m (x ∷ xs) e =
    cond_case (has_child k n (saturated a) x) n m (first_at (has_child k) (n + 1) (a + length x.head.text) xs) e
    (λ h s. omega (arith, s, member_from k (n + 1) x.kids h))
    (λ h f. parent_within k (n + 1) (a + length x.head.text) m xs f)

below_case : (o : Option ℕ) (y x : Bool) (n b k : ℕ) → y ≡ (nat_lt n b && x) → if_none o (cond y (Some n) None) ≡ Some k → (o ≡ Some k → k < b) → k < b
below_case o y x n b k h e f = grind arith

last_below : (b n k : ℕ) (xs : List Tree) → last_leaf b n xs ≡ Some k → k < b
last_below b n k [] e = absurd (none-some k e)
last_below b n k (x ∷ xs) e =
    below_case (last_leaf b (n + 1) xs) (nat_lt n b && is_leaf x) (is_leaf x) n b k refl e (λ f. last_below b (n + 1) k xs f)

pub prev_below : (a b : At) → prev_leaf a ≡ Some b → b.number < a.number
prev_below a b e = grind (arith, map_some, last_below)

pub parent_below : (a p : At) → parent a ≡ Some p → p.number < a.number
parent_below a p e =
    let w = map_some (first_at (has_child a.number) 0 0 (places a.root)) (at a.root) p e in
    let less : w.0 < a.number = parent_within a.number 0 0 w.0 (places a.root) w.1.0 in
    omega (arith, less, ap (λ x. x.number) w.1.1)

access_case : (o : Option At) (p : At) → access o ≡ Some p → o ≡ Some p
access_case o p e = grind arith

pub access_below : (a p : At) → access (parent a) ≡ Some p → p.number < a.number
access_below a p e = parent_below a p (access_case (parent a) p e)

pub named_is : (d b : At) → named d ≡ Some b → d ≡ b
named_is d b e = same_Some d b (cond_some (is_name (kind_of d)) (Some d) b e).1

pub name_below : (a b : At) → earlier_name a ≡ Some b → b.number < a.number
name_below a b e =
    let u = then_some (prev_leaf a) name_before b e in
    let v = then_some (prev_leaf u.0) named b (cond_some (is_dot (kind_of u.0)) (option_and_then named (prev_leaf u.0)) b u.1.1).1 in
    let same : v.0.number ≡ b.number = ap (λ x. x.number) (named_is v.0 b v.1.1) in
    omega (arith, same, prev_below a u.0 u.1.0, prev_below u.0 v.0 v.1.0)

-- a node that was found among nodes of a tree
pub find_sound : (q : At → Bool) (root : Tree) (ns : List ℕ) (s : At) → find q (map (at root) ns) ≡ Some s → (q s ≡ true) × (s.root ≡ root)
find_sound q root [] s e = absurd (none-some s e)
find_sound q root (n ∷ ns) s e =
    cond_case (q (at root n)) (at root n) s (find q (map (at root) ns)) e
    (λ h same. (ap q (sym same) ∙ h, ap (λ x. x.root) (sym same)))
    (λ h f. find_sound q root ns s f)

pub sibling_after : (a s : At) → next_sibling a ≡ Some s → (a.number < s.number) × (s.root ≡ a.root)
sibling_after a s e = grind (arith, then_some, map_some, find_sound, and_parts, nat_tests)

pub leaf_after : (s b : At) → leftmost_leaf s ≡ Some b → (s.number ≤ b.number) × (b.root ≡ s.root)
leaf_after s b e = grind (arith, map_some, first_within)

-- the leaf whose tag a hash has is behind the hash
pub expression_after : (a b : At) → expression_leaf a ≡ Some b → (a.number < b.number) × (b.root ≡ a.root)
expression_after a b e =
    let u = then_some (next_sibling a) leaf_of b e in
    let s = sibling_after a u.0 u.1.0 in
    let l = leaf_after u.0 b (cond_some _ (leftmost_leaf u.0) b u.1.1).1 in
    (omega (arith, s.0, l.0), l.1 ∙ s.1)
