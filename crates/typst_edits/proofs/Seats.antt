-- A block's spot at a position among the nodes of an outcome.
use Rattle.typst_edits.proofs.Cited.{◌≡◌, ◌⊎◌, inl, inr, ℕ, suc, ◌+◌, ◌-◌, ◌<◌, ◌≤◌, true, false, ◌&&◌, nat_le, List, [], ◌∷◌, ◌++◌, length, take, drop, length-append, length-take, length-drop, append_assoc, refl, ap, sym, ◌∙◌, subst, arith, and_left, and_parts, and_right, flat_map, is_error, Head, inner_head, SyntaxKind, Tree, forest, Block, Outcome, answered, joined, less, plain, reshaped, hinted, NodeChange, is_delimited, in_parens, Shape, is_sign, ends_with, stays, turns_wrong, is_not, renamed, unparened, keeps, holds, lacks, warns, fails, on_if, is_ordinary, change_by, shape_by, under, Deep, fill, path_in, Hole, plug, stub, between_parens, changed_deep, change_hole, in_node, in_nodes, after_nodes, lack_hole, wrap_in, wrap_hole, last_spot, reshaped_spot, Spot, block_head, then_spot, after_spot, le-leb}
use Rattle.typst_grammar.proofs.Fine.{or-left as or-first, or-right as or-second, or-both}
use Rattle.typst_edits.specs.Hole.Deep.{bare}
use Rattle.typst_edits.specs.Hole.{top}
use Rattle.typst_language.specs.declared.calls.Block.TheVariants as block
use Rattle.typst_language.proofs.Backs.{changed-long as length-changed}
use Rattle.typst_edits.proofs.Complete.{Any, any-left, any-right}
use Rattle.typst_edits.proofs.Outcomes.{hints-first, then-around}
use Rattle.typst_edits.proofs.Positions.{has_text, is_hollow, Each, each-by, each-from, each-take, each-drop, each-append, each-shaped, each-holds, not-error, Stays, Step}
use Rattle.typst_edits.proofs.Spots.{wraps-hole}

-- ---- holes

-- No node around the hole is an error or has a text.
abbrev pub Open : Deep → Type 0
Open bare = Unit {0}
Open (under head left d right) = (is_hollow head ≡ false) × Open d

pub top-solid : (d : Deep) (b : Block) → Open d → is_error (top d (block_head b)).kind ≡ false
top-solid bare block.Code h = refl
top-solid bare block.Content h = refl
top-solid (under head left d right) b h = or-first (is_error head.kind) (has_text head.text) h.0

top-bare : (d : Deep) (b : Block) → Open d → has_text (top d (block_head b)).text ≡ false
top-bare bare b h = refl
top-bare (under head left d right) b h = or-second (is_error head.kind) (has_text head.text) h.0

sign-none : (c : ℕ) (text : List ℕ) (t : Tree) → t.head.text ≡ text → has_text text ≡ false → is_sign c t ≡ false
sign-none c text t e h = grind arith

ends-none : (c : ℕ) (left : List Tree) (t : Tree) → is_sign c t ≡ false → ends_with c (left ++ t ∷ []) ≡ false
ends-none c [] t h = h
ends-none c (u ∷ []) t h = h
ends-none c (u ∷ v ∷ left) t h = ends-none c (v ∷ left) t h

-- There is just one hole, at this position.
pub record Only (hs : List Hole) (n : ℕ) (q : List ℕ) : Type 0 where
  pub one : Hole
  pub is : hs ≡ one ∷ []
  pub first : length one.left ≡ n
  pub path : path_in one.deep ≡ q
  pub passes : Open one.deep

only-as : (hs gs : List Hole) (n m : ℕ) (q r : List ℕ) → gs ≡ hs → n ≡ m → q ≡ r → Only hs n q → Only gs m r
only-as hs gs n m q r e f g o = record { one = o.one; is = e ∙ o.is; first = o.first ∙ f; path = o.path ∙ g; passes = o.passes }

record OnlyDeep (ds : List Deep) (q : List ℕ) : Type 0 where
  one : Deep
  is : ds ≡ one ∷ []
  path : path_in one ≡ q
  passes : Open one

-- ---- the first node changes

less-not : (n : ℕ) → n < n → ⊥
less-not n h = omega (arith, h)

only-between : (head : Head) (b : Block) (left : List Tree) (d : Deep) (right : List Tree) → Open d → has_text head.text ≡ false → in_parens (left ++ stub d (block_head b) ∷ right) ≡ true → OnlyDeep (between_parens head left d right) (length left ∷ path_in d)
only-between head b left d right o t e = grind (arith, and_left, sign-none, top-bare, and_right, ends-none)

only-deep : (change : NodeChange) (b : Block) (d : Deep) (n : ℕ) → change_by is_ordinary change ≡ true → Stays change n n (path_in d) → Open d → OnlyDeep (changed_deep change (block_head b) d) (path_in d)
only-deep stays b d n a s o = record { one = d; is = refl; path = refl; passes = o }
only-deep (turns_wrong message) b d n a s o = absurd (less-not n s)
only-deep (is_not thing) b d n a s o = absurd (less-not n s)
only-deep (renamed k) b d n a (inl s) o = absurd (less-not n s)
only-deep (renamed k) b bare n a (inr s) o = absurd s
only-deep (renamed k) b (under head left d right) n a (inr s) o = grind (arith, not-error, or-both, or-second)
only-deep unparened block.Code bare n a s o = record { one = bare; is = refl; path = refl; passes = tt }
only-deep unparened block.Content bare n a s o = record { one = bare; is = refl; path = refl; passes = tt }
only-deep unparened b (under head left d right) n a s o =
    let t = is_delimited head.kind && in_parens (left ++ stub d (block_head b) ∷ right) in
    on_if (λ ds. OnlyDeep ds (length left ∷ path_in d)) t (between_parens head left d right) (under head left d right ∷ [])
    (λ e. only-between head b left d right o.1 (or-second (is_error head.kind) (has_text head.text) o.0) (and_parts (is_delimited head.kind) (in_parens (left ++ stub d (block_head b) ∷ right)) e).1)
    (λ e. record { one = under head left d right; is = refl; path = refl; passes = o })

only-change : (change : NodeChange) (b : Block) (left : List Tree) (d : Deep) (right : List Tree) (n i : ℕ) → change_by is_ordinary change ≡ true → i ≡ length left + n → Stays change n i (path_in d) → Open d → Only (change_hole change (block_head b) left d right) (length left) (path_in d)
only-change change b (t ∷ left) d right n i a e s o = record { one = _; is = refl; first = length-changed change (t ∷ left); path = refl; passes = o }
only-change change b [] d right n i a e s o =
    let f : i ≡ n = omega (arith, e) in
    grind (arith, only-deep change b d n a (subst (λ j. Stays change n j (path_in d)) f s) o)

-- ---- what several nodes become

only-in : (head : Head) (kept : List Tree) (h : Hole) (q : List ℕ) → is_hollow head ≡ false → Open h.deep → path_in h.deep ≡ q → Only (in_node head kept h) (length kept) (length h.left ∷ q)
only-in head kept h q e o p = grind arith

only-nodes : (head : Head) (kept : List Tree) (hs : List Hole) (n : ℕ) (q : List ℕ) → is_hollow head ≡ false → Only hs n q → Only (in_nodes head kept hs) (length kept) (n ∷ q)
only-nodes head kept hs n q e h = grind (arith, only-as, only-in)

only-behind : (kept : List Tree) (hs : List Hole) (n : ℕ) (q : List ℕ) → Only hs n q → Only (after_nodes kept hs) (length kept + n) q
only-behind kept hs n q h = grind (arith, length-append)

sound-kind : (k : SyntaxKind) → is_error k ≡ false → is_hollow (inner_head k) ≡ false
sound-kind k a = or-both (is_error k) false a refl

lack-left : (count : ℕ) (error : Tree) (left : List Tree) → count ≤ length left → length (take count left ++ error ∷ drop count left) ≡ suc (length left)
lack-left count error left l = grind (arith, length-append, length-take, length-drop)

only-lack-behind : (count : ℕ) (error : Tree) (head : Head) (kept left : List Tree) (d : Deep) (right : List Tree) → is_hollow head ≡ false → Open d → count ≤ length left
    → Only (in_node head kept (lack_hole count error left d right)) (length kept) (suc (length left) ∷ path_in d)
only-lack-behind count error head kept left d right e o l = grind (arith, only-as, le-leb, lack-left, only-in)

-- ---- a spot at a position

pub record Sits {A : Type 0} (o : Outcome A) (i : ℕ) (q : List ℕ) (c : Spot A) : Type 0 where
  pub first : length c.hole.left ≡ i
  pub path : path_in c.hole.deep ≡ q
  pub value : c.value ≡ o.value
  pub back : c.back ≡ o.back
  pub hints : c.hints ≡ o.hints
  pub nodes : plug c.hole c.node ≡ o.nodes
  pub head : c.node.head ≡ block_head c.name
  pub passes : Open c.hole.deep

solid-node : {A : Type 0} (c : Spot A) → c.node.head ≡ block_head c.name → Open c.hole.deep → is_error (fill c.hole.deep c.node).head.kind ≡ false
solid-node c e o = by-deep c.hole.deep o
  where
    by-name : (b : Block) (h : Head) → h ≡ block_head b → is_error h.kind ≡ false
    by-name b h e = grind arith

    by-deep : (d : Deep) → Open d → is_error (fill d c.node).head.kind ≡ false
    by-deep bare o = by-name c.name c.node.head e
    by-deep (under head left d right) o = or-first (is_error head.kind) (has_text head.text) o.0

sits-long : {A : Type 0} (o : Outcome A) (i : ℕ) (q : List ℕ) (c : Spot A) → Sits o i q c → length o.nodes ≡ i + suc (length c.hole.right)
sits-long o i q c s = sym (ap length s.nodes) ∙ length-append c.hole.left (fill c.hole.deep c.node ∷ c.hole.right) ∙ ap (λ n. n + suc (length c.hole.right)) s.first

pub then-sits : {A B : Type 0} (o : Outcome B) (p : Outcome A) (i : ℕ) (q : List ℕ) (c : Spot B) → i < length o.nodes - p.back → Sits o i q c → Sits (joined o p) i q (then_spot c p)
then-sits o p i q c l s =
    let e = sits-long o i q c s in
    let few : p.back ≤ length c.hole.right = omega (arith, e, l) in
    let less_back : p.back < length o.nodes = omega (arith, e, few) in
    let none : o.back + (p.back - length o.nodes) ≡ o.back = omega (arith, less_back) in
    record {
      first = s.first;
      path = s.path;
      value = refl;
      back = s.back ∙ sym none;
      hints = s.hints ∙ sym (hints-first o p less_back);
      nodes = sym (ap (λ (u : Outcome _). u.nodes) (then-around c (plain tt c.state) c.node p few (solid-node c s.head s.passes))) ∙ ap (λ u. hinted p.hints (less p.back u) ++ p.nodes) s.nodes;
      head = s.head;
      passes = s.passes;
    }

pub after-sits : {A B : Type 0} (o : Outcome B) (p : Outcome A) (i j : ℕ) (q : List ℕ) (c : Spot A) → j ≡ i + length (hinted p.hints (less p.back o.nodes)) → Sits p i q c → Sits (joined o p) j q (after_spot o c)
after-sits o p i j q c e s = grind (arith, length-append, append_assoc)

pub last-sits : {A B : Type 0} (o : Outcome (B × A)) (i : ℕ) (q : List ℕ) (c : Spot (B × A)) → Sits o i q c → Sits (answered o.value.1 o) i q (last_spot c)
last-sits o i q c s = record { first = s.first; path = s.path; value = ap (λ v. v.1) s.value; back = s.back; hints = s.hints; nodes = s.nodes; head = s.head; passes = s.passes }

-- ---- a spot in what several nodes become

pub reshape-sits : {A : Type 0} (shape : Shape) (n : ℕ) (o : Outcome A) (i j : ℕ) (q r : List ℕ) (c : Spot A) → Sits o i q c → Only (wrap_hole shape (block_head c.name) (n + c.back) c.hole) j r
    → Any (Sits (reshaped shape n o) j r) (reshaped_spot shape n c)
reshape-sits shape n o i j q r c s h = grind (arith, wraps-hole, top-solid)

-- ---- each position in what several nodes become

-- A block of the one kind or of the other stands there.
abbrev pub Stood : {A : Type 0} → Outcome A → List (Spot A) → List (Spot A) → ℕ → List ℕ → Type 0
Stood o cs ds i q = Any (Sits o i q) cs ⊎ Any (Sits o i q) ds

pub any-flat : {A B : Type 0} (P : Spot A → Type 0) (Q : Spot B → Type 0) (f : Spot A → List (Spot B)) → ((c : Spot A) → P c → Any Q (f c)) → (cs : List (Spot A)) → Any P cs → Any Q (flat_map f cs)
any-flat P Q f g [] h = elim h [ ]
any-flat P Q f g (c ∷ cs) (inl h) = any-left Q (f c) (flat_map f cs) (g c h)
any-flat P Q f g (c ∷ cs) (inr h) = any-right Q (f c) (flat_map f cs) (any-flat P Q f g cs h)

pub stood-flat : {A B : Type 0} (P : Spot A → Type 0) (Q : Spot B → Type 0) (f : Spot A → List (Spot B)) → ((c : Spot A) → P c → Any Q (f c)) → (cs ds : List (Spot A)) → Any P cs ⊎ Any P ds → Any Q (flat_map f cs) ⊎ Any Q (flat_map f ds)
stood-flat P Q f g cs ds (inl h) = inl (any-flat P Q f g cs h)
stood-flat P Q f g cs ds (inr h) = inr (any-flat P Q f g ds h)

-- The spots that sit at one position have just one hole in what the nodes become, at another position.
abbrev pub Goes : {A : Type 0} → Shape → ℕ → Outcome A → ℕ → ℕ → List ℕ → List ℕ → Type 0
Goes {A} shape n o i j q r = (c : Spot A) → Sits o i q c → Only (wrap_hole shape (block_head c.name) (n + c.back) c.hole) j r

module _ {A : Type 0} (n : ℕ) (o : Outcome A) where
  goes-past : (shape : Shape) (i : ℕ) (q : List ℕ) → i < n + o.back → Goes shape n o i i q q
  goes-past shape i q l c s = grind arith

  -- what comes after the first nodes
  record Behind (i : ℕ) (c : Spot A) : Type 0 where
    is : nat_le (n + c.back) (length c.hole.left) ≡ true
    kept : length (take (n + c.back) c.hole.left) ≡ length (take (n + o.back) o.nodes)
    left : length (drop (n + c.back) c.hole.left) + (n + o.back) ≡ i
    all : length (take (n + o.back) o.nodes) ≡ n + o.back

  behind-of : (i : ℕ) (q : List ℕ) (c : Spot A) → n + o.back ≤ i → Sits o i q c → Behind i c
  behind-of i q c l s = let w = sits-long o i q c s in grind (arith, length-take, le-leb, length-drop)

  goes-in : (shape : Shape) (i j : ℕ) (r : List ℕ) (c : Spot A) → Behind i c → (m : ℕ) (t : List ℕ) → m ≡ j → t ≡ r
      → Only (wrap_in shape (block_head c.name) (take (n + c.back) c.hole.left) (drop (n + c.back) c.hole.left) c.hole.deep c.hole.right) m t → Only (wrap_hole shape (block_head c.name) (n + c.back) c.hole) j r
  goes-in shape i j r c b m t e f h = grind arith

  changed-hole : (change : NodeChange) (i : ℕ) (q : List ℕ) (c : Spot A) → change_by is_ordinary change ≡ true → n + o.back ≤ i → Stays change (n + o.back) i q → Sits o i q c
      → Only (change_hole change (block_head c.name) (drop (n + c.back) c.hole.left) c.hole.deep c.hole.right) (length (drop (n + c.back) c.hole.left)) (path_in c.hole.deep)
  changed-hole change i q c a l st s =
      only-change change c.name (drop (n + c.back) c.hole.left) c.hole.deep c.hole.right (n + o.back) i a (sym (behind-of i q c l s).left) (subst (λ r. Stays change (n + o.back) i r) (sym s.path) st) s.passes

  goes-keeps : (change : NodeChange) (i j : ℕ) (q : List ℕ) → change_by is_ordinary change ≡ true → n + o.back ≤ i → i + length (take (n + o.back) o.nodes) ≡ j + (n + o.back) → Stays change (n + o.back) i q → Goes (keeps change) n o i j q q
  goes-keeps change i j q a l e st c s =
      let b = behind-of i q c l s in
      goes-in (keeps change) i j q c b _ (path_in c.hole.deep) (omega (arith, e, b.kept, b.left)) s.path
      (only-behind (take (n + c.back) c.hole.left) _ (length (drop (n + c.back) c.hole.left)) (path_in c.hole.deep) (changed-hole change i q c a l st s))

  goes-holds : (change : NodeChange) (k : SyntaxKind) (i j : ℕ) (q : List ℕ) → change_by is_ordinary change ≡ true → is_error k ≡ false → n + o.back ≤ i → i ≡ j + (n + o.back) → Stays change (n + o.back) i q
      → Goes (holds change k) n o i (length (take (n + o.back) o.nodes)) q (j ∷ q)
  goes-holds change k i j q a ak l e st c s =
      let b = behind-of i q c l s in
      let at : length (drop (n + c.back) c.hole.left) ≡ j = omega (arith, e, b.left) in
      grind (arith, goes-in, only-nodes, sound-kind, changed-hole)

  goes-before : (count : ℕ) (message : List ℕ) (k : SyntaxKind) (i j : ℕ) (q : List ℕ) → is_error k ≡ false → n + o.back ≤ i → i ≡ j + (n + o.back) → j < count → Goes (lacks count message k) n o i (length (take (n + o.back) o.nodes)) q (j ∷ q)
  goes-before count message k i j q ak l e few c s = let b = behind-of i q c l s in grind arith

  goes-behind : (count : ℕ) (message : List ℕ) (k : SyntaxKind) (i j : ℕ) (q : List ℕ) → is_error k ≡ false → n + o.back ≤ i → suc i ≡ j + (n + o.back) → count < j → Goes (lacks count message k) n o i (length (take (n + o.back) o.nodes)) q (j ∷ q)
  goes-behind count message k i j q ak l e more c s =
      let b = behind-of i q c l s in
      let at : suc (length (drop (n + c.back) c.hole.left)) ≡ j = omega (arith, e, b.left) in
      grind (arith, goes-in, only-lack-behind, sound-kind)

  goes-warns : (k : SyntaxKind) (message hint : List ℕ) (i j : ℕ) (q : List ℕ) → is_error k ≡ false → n + o.back ≤ i → i ≡ j + (n + o.back) → Goes (warns k message hint) n o i (length (take (n + o.back) o.nodes)) q (j ∷ q)
  goes-warns k message hint i j q ak l e c s = let b = behind-of i q c l s in grind arith

  module _ (Q : ℕ → List ℕ → Type 0) (cs ds : List (Spot A)) where
    -- what becomes of a position where a spot sits, by where its hole goes
    abbrev pub Lift : Shape → Type 0
    Lift shape = (i j : ℕ) (q r : List ℕ) → Goes shape n o i j q r → Stood o cs ds i q → Q j r

    abbrev Late : ℕ → List ℕ → Type 0
    Late i q = (n + o.back ≤ i) × Stood o cs ds i q

    steps : (shape : Shape) → shape_by is_ordinary shape ≡ true → Lift shape → Step shape Late Q (n + o.back) (length (take (n + o.back) o.nodes))
    steps (keeps change) a f = λ i j q e st p. f i j q q (goes-keeps change i j q a p.0 e st) p.1
    steps (holds change k) a f = λ i j q e st p. f i _ q (j ∷ q) (goes-holds change k i j q (and_parts (change_by is_ordinary change) (is_ordinary k) a).0 (not-error k (and_parts (change_by is_ordinary change) (is_ordinary k) a).1) p.0 e st) p.1
    steps (lacks count message k) a f = (λ i j q e l p. f i _ q (j ∷ q) (goes-before count message k i j q (not-error k a) p.0 e l) p.1, λ i j q e l p. f i _ q (j ∷ q) (goes-behind count message k i j q (not-error k a) p.0 e l) p.1)
    steps (warns k message hint) a f = λ i j q e p. f i _ q (j ∷ q) (goes-warns k message hint i j q (not-error k a) p.0 e) p.1
    steps (fails message) a f = tt

    -- the positions before what becomes something else, and those in it
    each-parts : (us : List Tree) (shape : Shape) → Lift shape → Each (Stood o cs ds) 0 (forest o.nodes) → (Each Late (n + o.back) (forest (drop (n + o.back) o.nodes)) → Each Q (length (take (n + o.back) o.nodes)) (forest us))
        → Each Q 0 (forest (take (n + o.back) o.nodes ++ us))
    each-parts us shape f h g =
        let m = n + o.back in
        let ts = o.nodes in
        each-append Q 0 (length (take m ts)) (take m ts) us (omega arith)
        (each-by _ Q 0 (forest (take m ts)) (λ i q p. f i i q q (goes-past shape i q p.0) p.1) (each-take (Stood o cs ds) 0 m m ts (omega arith) h))
        (g (each-from (Stood o cs ds) m m (forest (drop m ts)) (omega arith) (each-drop (Stood o cs ds) 0 m m ts (omega arith) h)))

    pub each-reshaped : (shape : Shape) → shape_by is_ordinary shape ≡ true → Lift shape → Each (Stood o cs ds) 0 (forest o.nodes) → Each Q 0 (forest (reshaped shape n o).nodes)
    each-reshaped shape a f h = each-parts _ shape f h (each-shaped shape Late Q (n + o.back) (length (take (n + o.back) o.nodes)) (drop (n + o.back) o.nodes) a (steps shape a f))

    -- where they become a node of any kind, of which the same is known
    pub each-enclosed : (change : NodeChange) (k : SyntaxKind) → change_by is_ordinary change ≡ true → is_error k ≡ false → Q (length (take (n + o.back) o.nodes)) [] → Lift (holds change k) → Each (Stood o cs ds) 0 (forest o.nodes)
        → Each Q 0 (forest (reshaped (holds change k) n o).nodes)
    each-enclosed change k a e b f h =
        each-parts _ (holds change k) f h
        (each-holds change k Late Q (n + o.back) (length (take (n + o.back) o.nodes)) (drop (n + o.back) o.nodes) a e (λ _. b)
        (λ i j q d st p. f i _ q (j ∷ q) (goes-holds change k i j q a e p.0 d st) p.1))
