-- A tree of which children were replaced: its spans, its head and how many nodes it has.
use Rattle.typst_parser.proofs.Cited.{◌≡◌, ℕ, ◌+◌, ◌-◌, ◌*◌, ◌/◌, ◌^◌, ◌<◌, ◌≤◌, Bool, if◌then◌else◌, List, [], ◌∷◌, ◌++◌, take, drop, Option, Some, None, refl, sym, subst, arith, set, slice_get_within, get_or_from_slice_get, number_of, Forest, none, more, Tree, forest, trees, places, preorder, count, nodes, kids_of, with_kids, in_file, swapped, exchanged, middle, back, replaced, replaced_at, Reaches, Along, along, exchange_some, exchange_none, All-nil, All-cons, All-head, All-tail, All-append, All-take, All-drop, All-set, Head, placed, stride, numbered, numbered_forest, numbered_list, upper_at, IsOrdered, IsNumbered}
use Rattle.std.specs.Prelude.{All, option_map, slice_get, slice_range}
use Rattle.typst_tree.specs.Same.{front}
use Rattle.typst_tree.proofs.KeepsOrder.{replaced_numbered}

-- ---- numbered nodes name the file

abbrev pub IsOf : ℕ → Tree → Type 0
IsOf file n = n.head.span ≡ Some (file, number_of n.head.span)

placed-by : (file m n e : ℕ) (h : Head) (b : Bool) →
    (if b then record h { span = Some (file, m); upper = e } else record h { span = Some (file, n); upper = 0 }).span ≡ Some (file, number_of (if b then record h { span = Some (file, m); upper = e } else record h { span = Some (file, n); upper = 0 }).span)
placed-by file m n e h b = grind arith

pub placed-span : (file s a e : ℕ) (h : Head) → (placed file s a e h).span ≡ Some (file, number_of (placed file s a e h).span)
placed-span file s a e h = placed-by file (a + s / 2) ((a + e) / 2) e h h.is_inner

forest-spans : (file s a : ℕ) (f : Forest) → All (IsOf file) (preorder (numbered_forest file s a f))
forest-spans file s a none = All-nil (IsOf file)
forest-spans file s a (more h ks r) =
    let n = 1 + count ks in
    let inner = stride (n * s) n in
    All-cons (IsOf file) (record { head = placed file inner a (a + n * s) h; kids = numbered_forest file inner (a + inner) ks })
    (preorder (numbered_forest file inner (a + inner) ks) ++ preorder (numbered_forest file s (a + n * s) r))
    (placed-span file inner a (a + n * s) h)
    (All-append (IsOf file) (preorder (numbered_forest file inner (a + inner) ks)) (preorder (numbered_forest file s (a + n * s) r)) (forest-spans file inner (a + inner) ks) (forest-spans file s (a + n * s) r))

pub numbered-spans : (file a p : ℕ) (t : Tree) → All (IsOf file) (places (numbered file a p t))
numbered-spans file a p t = grind (arith, placed-span, forest-spans)

-- ---- the trees of a list name the file

-- each node of a tree names the file
abbrev IsAllOf : ℕ → Tree → Type 0
IsAllOf file t = All (IsOf file) (places t)

list-spans : (file s a : ℕ) (ts : List Tree) → All (IsAllOf file) (numbered_list file s a ts)
list-spans file s a [] = All-nil (IsAllOf file)
list-spans file s a (t ∷ ts) =
    All-cons (IsAllOf file) (numbered file a (nodes t * s) t) (numbered_list file s (a + nodes t * s) ts) (numbered-spans file a (nodes t * s) t) (list-spans file s (a + nodes t * s) ts)

all-left : {X : Type 0} (P : X → Type 0) (xs ys : List X) → All P (xs ++ ys) → All P xs
all-left P [] ys h = All-nil P
all-left P (x ∷ xs) ys h = All-cons P x xs (All-head P x (xs ++ ys) h) (all-left P xs ys (All-tail P x (xs ++ ys) h))

all-right : {X : Type 0} (P : X → Type 0) (xs ys : List X) → All P (xs ++ ys) → All P ys
all-right P [] ys h = h
all-right P (x ∷ xs) ys h = all-right P xs ys (All-tail P x (xs ++ ys) h)

-- between the nodes of a forest and those of each of its trees
of-trees : (P : Tree → Type 0) (f : Forest) → All P (preorder f) → All (λ t. All P (places t)) (trees f)
of-trees P none h = All-nil (λ t. All P (places t))
of-trees P (more h ks r) all =
    let t : Tree = record { head = h; kids = ks } in
    let below : All P (preorder ks ++ preorder r) = All-tail P t (preorder ks ++ preorder r) all in
    All-cons (λ u. All P (places u)) t (trees r)
    (All-cons P t (preorder ks) (All-head P t (preorder ks ++ preorder r) all) (all-left P (preorder ks) (preorder r) below))
    (of-trees P r (all-right P (preorder ks) (preorder r) below))

of-forest : (P : Tree → Type 0) (ts : List Tree) → All (λ t. All P (places t)) ts → All P (preorder (forest ts))
of-forest P [] h = All-nil P
of-forest P (t ∷ ts) h =
    All-append P (places t) (preorder (forest ts)) (All-head (λ u. All P (places u)) t ts h) (of-forest P ts (All-tail (λ u. All P (places u)) t ts h))

-- ---- the children after a replacement name the file

parts-spans : (file s a l r : ℕ) (xs new : List Tree) → All (IsAllOf file) xs → All (IsAllOf file) (take l xs ++ (numbered_list file s a new ++ drop r xs))
parts-spans file s a l r xs new all =
    All-append (IsAllOf file) (take l xs) (numbered_list file s a new ++ drop r xs) (All-take (IsAllOf file) l xs all)
    (All-append (IsAllOf file) (numbered_list file s a new) (drop r xs) (list-spans file s a new) (All-drop (IsAllOf file) r xs all))

exchanged-spans : (file : ℕ) (h : Head) (xs : List Tree) (from to : ℕ) (ns ys : List Tree) → exchanged file h xs from to ns ≡ Some ys → All (IsAllOf file) xs → All (IsAllOf file) ys
exchanged-spans file h xs from to [] ys e all =
    subst (All (IsAllOf file)) (exchange_none file h xs from to ys e) (All-append (IsAllOf file) (take from xs) (drop to xs) (All-take (IsAllOf file) from xs all) (All-drop (IsAllOf file) to xs all))
exchanged-spans file h xs from to (n ∷ ns) ys e all = grind (arith, exchange_some, parts-spans)

-- where the children were swapped, each node of the result names the file
kids-spans : (file from to : ℕ) (new : List Tree) (t u : Tree) (r : Option (List Tree)) →
    swapped file t.head (kids_of t) from to (slice_range (kids_of t) from to) new ≡ r → option_map (with_kids t) r ≡ Some u → All (IsOf file) (places t) → All (IsOf file) (places u)
kids-spans file from to new t u None s e all = absurd (cc)
kids-spans file from to new t u (Some ys) s e all =
    let is : with_kids t ys ≡ u = cc in
    let a = front (slice_range (kids_of t) from to) new in
    let b = back a (slice_range (kids_of t) from to) new in
    let old : All (IsAllOf file) (kids_of t) = of-trees (IsOf file) t.kids (All-tail (IsOf file) t (preorder t.kids) all) in
    let kids : All (IsAllOf file) ys = exchanged-spans file t.head (kids_of t) (from + a) (to - b) (middle a b new) ys s old in
    subst (λ (v : Tree). All (IsOf file) (places v)) is
    (All-cons (IsOf file) (with_kids t ys) (preorder (forest ys)) (All-head (IsOf file) t (preorder t.kids) all) (of-forest (IsOf file) ys kids))

-- a tree whose nodes all name the file stays so
replaced-spans : (file : ℕ) (from to : ℕ) (new : List Tree) (t u : Tree) → Reaches [] from to t → replaced from to new t ≡ Some u → All (IsOf file) (places t) → All (IsOf file) (places u)
replaced-spans file from to new t u r e all = grind (arith, kids-spans)

-- ---- along a path

abbrev pub IsDetached : Tree → Type 0
IsDetached n = n.head.span ≡ None

-- a tree keeps its head and the file that all its nodes name, and some of its nodes have numbers
pub record Stays (t u : Tree) : Type 0 where
  pub head : u.head ≡ t.head
  pub spans : (file : ℕ) → All (IsOf file) (places t) → All (IsOf file) (places u)
  pub numbered : All IsDetached (places t) → ⊥

-- a node without a file takes no new children
takes-none : (from to : ℕ) (new : List Tree) (t u : Tree) (span : Option (ℕ × ℕ)) → option_map (with_kids t) (in_file span t.head (kids_of t) from to new) ≡ Some u → span ≡ None → ⊥
takes-none from to new t u span e n = grind arith

stays : (from to : ℕ) (new : List Tree) (t u : Tree) → Reaches [] from to t → replaced from to new t ≡ Some u → Stays t u
stays from to new t u r e = record {
  head = (replaced_numbered from to new t u r e).head;
  spans = λ file all. replaced-spans file from to new t u r e all;
  numbered = λ all. takes-none from to new t u t.head.span e (All-head IsDetached t (preorder t.kids) all);
}

pub all-at : {X : Type 0} (P : X → Type 0) (xs : List X) (i : ℕ) (x : X) → All P xs → slice_get xs i ≡ Some x → P x
all-at P xs i x h g = subst P (get_or_from_slice_get xs i x x g) (h i x (slice_get_within xs i x g))

-- so does the tree of which a child does
with-kid : (t k l : Tree) (i : ℕ) → slice_get (kids_of t) i ≡ Some k → Stays k l → Stays t (with_kids t (set (kids_of t) i l))
with-kid t k l i there s = record {
  head = refl;
  spans = λ file all. (
      let kids = of-trees (IsOf file) t.kids (All-tail (IsOf file) t (preorder t.kids) all) in
      let kid = s.spans file (all-at (IsAllOf file) (kids_of t) i k kids there) in
      All-cons (IsOf file) (with_kids t (set (kids_of t) i l)) (preorder (forest (set (kids_of t) i l))) (All-head (IsOf file) t (preorder t.kids) all)
      (of-forest (IsOf file) (set (kids_of t) i l) (All-set (IsAllOf file) (kids_of t) i l kid kids)));
  numbered = λ all. s.numbered (all-at (λ u. All IsDetached (places u)) (kids_of t) i k (of-trees IsDetached t.kids (All-tail IsDetached t (preorder t.kids) all)) there);
}

stays-along : (path : List ℕ) (t u : Tree) → Along Stays path t u → Stays t u
stays-along [] t u l = l
stays-along (i ∷ path) t u l = subst (Stays t) (sym l.3) (with-kid t l.0 l.1 i l.2 (stays-along path l.0 l.1 l.4))

pub replaced-stays : (path : List ℕ) (from to : ℕ) (new : List Tree) (t u : Tree) → Reaches path from to t → replaced_at path from to new t ≡ Some u → Stays t u
replaced-stays path from to new t u r e = stays-along path t u (along Stays from to new (stays from to new) path t u r e)

-- ---- how many nodes there are

-- a stretch in which numbers stand in order has a number for each of the nodes
pub count-within : (a e : ℕ) (f : Forest) → IsOrdered a f e → a + count f ≤ e
count-within a e none o = omega (arith, o)
count-within a e (more h ks r) o =
    omega (arith, o.0, count-within (number_of h.span + 1) (upper_at h) ks o.1, count-within (upper_at h) e r o.2)

-- so a numbered tree has fewer nodes than there are numbers
pub few-nodes : (t : Tree) → IsNumbered t → 1 ≤ number_of t.head.span → upper_at t.head ≤ 2 ^ 47 → nodes t < 2 ^ 47
few-nodes t o low high = omega (arith, low, high, count-within (number_of t.head.span + 1) (upper_at t.head) t.kids o)
