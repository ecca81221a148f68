-- What holds where an inner node of a block's kind stands among several nodes, and what of each token's node.
use Rattle.typst_edits.proofs.Cited.{◌≡◌, ◌⊎◌, inl, inr, ℕ, zero, suc, ◌+◌, ◌-◌, ◌<◌, ◌≤◌, Bool, true, false, ◌&&◌, ◌||◌, nat_le, List, [], ◌∷◌, ◌++◌, length, take, drop, length-take, None, refl, ap, sym, ◌∙◌, subst, arith, nat_lt, Option, Some, nat_tests, and_left, and_parts, is_error, same, Head, inner_head, SyntaxKind, hint_with, Tree, Forest, forest, error_of, with_kind, made_error, advised, inner_of, topped, all_advised, leaf_of, less, Level, hand_of, Outcome, plain, joined, entered, asked, run, taken_node, done, hand_asks_of, hinted, NodeChange, is_delimited, without_parens, first_changed, Shape, shaped, Making, after_node, hinted_last, renamed_last, parens_renamed, stays, turns_wrong, is_not, renamed, unparened, keeps, holds, lacks, warns, fails, on_both, on_if, is_ordinary, change_by, shape_by, Deep, fill, path_in, Hole, plug, warned_head, under, SyntaxMode, CharClasses, Place, moved, token_node, Token, Reading, Point, Trivia, pending, Ahead, ahead, ahead_by, after_trivia, direct, hand_at, token_at, len_at, at_trivia, as_at_hand, text_ahead, itself, surprise, of_kind, flush_trivia, close_if, takes, markup_reading, inner, look_again, bracket, inner_tail, inner_close, Every, last_node, made_expected, drop-all, is_block_head, codes, raw_node, hints, message, access_node, making_by}
use Rattle.typst_language.specs.Shape.{made}
use Rattle.typst_edits.specs.Hole.Deep.{bare}
use Rattle.typst_language.specs.Shape.Making.{wanted}
use Rattle.typst_tree.specs.Messages.{made_unexpected, unexpected_message}
use Rattle.typst_edits.specs.Standing.{is_block}
use Rattle.typst_language.specs.Raw.{delimited_node, closed_node, block_node, inline_node, delimited, two_delimiters, tag_leaves, is_pair, before_ticks, ticks}
use Rattle.typst_language.specs.Fields.{field_node, fields_node, name_node, named_node, names_of}
use Rattle.typst_kinds.specs.Names.{name_of}
use Rattle.typst_tree.specs.Tree.Forest.{none, more}
use Rattle.typst_candidates.proofs.Found.{forest_trees as trees-forest}
use Rattle.typst_language.specs.RawLines.{leaf, RawLine, trimmed, first_line, later_lines, is_blank, dedent, front, closing, line_leaves, first_leaves, block_of, block_leaves, inline_leaves}
use Rattle.typst_language.specs.RawTag.{tag, warned, is_whole, only_tag}
use Rattle.typst_grammar.proofs.Lists.{All, all-append}
use Rattle.typst_edits.proofs.Blocks.{last-is}
use Rattle.typst_kinds.specs.declared.kind.SyntaxKind.TheVariants as kind

-- ---- positions

abbrev pub has_text : List ℕ → Bool
has_text [] = false
has_text (c ∷ cs) = true

-- An error, or a node with a text, has no block in it.
abbrev pub is_hollow : Head → Bool
is_hollow h = is_error h.kind || has_text h.text

abbrev pub Unless : Bool → Type 0 → Type 0
Unless true P = ⊥
Unless false P = P

-- A property holds at the position of each inner node of a block's kind: its index among the nodes, counted from here, and the path from there.
abbrev pub Each : (ℕ → List ℕ → Type 0) → ℕ → Forest → Type 0
Each P n none = Unit {0}
Each P n (more h ks r) = (is_block_head h ≡ true → P n []) × (Each (λ i q. Unless (is_hollow h) (P n (i ∷ q))) 0 ks × Each P (suc n) r)

-- No such node stands there.
abbrev pub Nowhere : ℕ → List ℕ → Type 0
Nowhere i q = ⊥

abbrev pub Clean : List Tree → Type 0
Clean ts = Each Nowhere 0 (forest ts)

unless-by : (b : Bool) (P Q : Type 0) → (P → Q) → Unless b P → Unless b Q
unless-by true P Q f h = h
unless-by false P Q f h = f h

pub each-by : (P Q : ℕ → List ℕ → Type 0) (n : ℕ) (f : Forest) → ((i : ℕ) (q : List ℕ) → P i q → Q i q) → Each P n f → Each Q n f
each-by P Q n none g h = tt
each-by P Q n (more a ks r) g h =
    (λ u. g n [] (h.0 u), (each-by _ _ 0 ks (λ i q. unless-by (is_hollow a) (P n (i ∷ q)) (Q n (i ∷ q)) (g n (i ∷ q))) h.1.0, each-by P Q (suc n) r g h.1.1))

-- the positions counted from somewhere else
pub each-move : (P Q : ℕ → List ℕ → Type 0) (d e n m : ℕ) (f : Forest) → n + d ≡ m + e → ((i j : ℕ) (q : List ℕ) → i + d ≡ j + e → P i q → Q j q) → Each P n f → Each Q m f
each-move P Q d e n m none s g h = tt
each-move P Q d e n m (more a ks r) s g h = (
  λ u. g n m [] s (h.0 u),
  (
    each-by _ _ 0 ks (λ i q. unless-by (is_hollow a) (P n (i ∷ q)) (Q m (i ∷ q)) (g n m (i ∷ q) s)) h.1.0,
    each-move P Q d e (suc n) (suc m) r (omega (arith, s)) g h.1.1,
  ),
)

pub each-clean : (Q : ℕ → List ℕ → Type 0) (m : ℕ) (f : Forest) → Each Nowhere 0 f → Each Q m f
each-clean Q m f h = each-move Nowhere Q m 0 0 m f (omega arith) (λ i j q e b. elim b [ ]) h

pub each-append : (P : ℕ → List ℕ → Type 0) (n m : ℕ) (ts us : List Tree) → m ≡ n + length ts → Each P n (forest ts) → Each P m (forest us) → Each P n (forest (ts ++ us))
each-append P n m [] us e h k = let f : m ≡ n = omega (arith, e) in subst (λ i. Each P i (forest us)) f k
each-append P n m (t ∷ ts) us e h k = (h.0, (h.1.0, each-append P (suc n) m ts us (omega (arith, e)) h.1.1 k))

-- from the node after others on
pub each-skip : (P : ℕ → List ℕ → Type 0) (n m : ℕ) (ts us : List Tree) → m ≡ n + length ts → Each P n (forest (ts ++ us)) → Each P m (forest us)
each-skip P n m [] us e h = let f : n ≡ m = omega (arith, e) in subst (λ i. Each P i (forest us)) f h
each-skip P n m (t ∷ ts) us e h = each-skip P (suc n) m ts us (omega (arith, e)) h.1.1

-- No index is less than the first.
pub each-from : (P : ℕ → List ℕ → Type 0) (b n : ℕ) (f : Forest) → b ≤ n → Each P n f → Each (λ i q. (b ≤ i) × P i q) n f
each-from P b n none l h = tt
each-from P b n (more a ks r) l h =
    (λ u. (l, h.0 u), (each-by _ _ 0 ks (λ i q. unless-by (is_hollow a) (P n (i ∷ q)) ((b ≤ n) × P n (i ∷ q)) (λ p. (l, p))) h.1.0, each-from P b (suc n) r (omega (arith, l)) h.1.1))

pub each-take : (P : ℕ → List ℕ → Type 0) (n m b : ℕ) (ts : List Tree) → b ≡ n + m → Each P n (forest ts) → Each (λ i q. (i < b) × P i q) n (forest (take m ts))
each-take P n zero b ts e h = tt
each-take P n (suc m) b [] e h = tt
each-take P n (suc m) b (t ∷ ts) e h =
    let l : n < b = omega (arith, e) in
    (λ u. (l, h.0 u), (each-by _ _ 0 t.kids (λ i q. unless-by (is_hollow t.head) (P n (i ∷ q)) ((n < b) × P n (i ∷ q)) (λ p. (l, p))) h.1.0, each-take P (suc n) m b ts (omega (arith, e)) h.1.1))

pub each-drop : (P : ℕ → List ℕ → Type 0) (n m b : ℕ) (ts : List Tree) → b ≡ n + m → Each P n (forest ts) → Each P b (forest (drop m ts))
each-drop P n zero b ts e h = let f : n ≡ b = omega (arith, e) in subst (λ i. Each P i (forest ts)) f h
each-drop P n (suc m) b [] e h = tt
each-drop P n (suc m) b (t ∷ ts) e h = each-drop P (suc n) m b ts (omega (arith, e)) h.1.1

pub each-less : (P : ℕ → List ℕ → Type 0) (n : ℕ) (ts : List Tree) → Each P 0 (forest ts) → Each (λ i q. (i < length ts - n) × P i q) 0 (forest (less n ts))
unfolding less
each-less P n ts h = each-take P 0 (length ts - n) (length ts - n) ts (omega arith) h

-- ---- hints

pub each-advised : (P : ℕ → List ℕ → Type 0) (n : ℕ) (hints : List (List ℕ)) (t : Tree) (r : Forest) → Each P n (more t.head t.kids r) → Each P n (more (all_advised hints t).head (all_advised hints t).kids r)
each-advised P n [] t r h = h
each-advised P n (hint ∷ hints) t r h = each-advised P n hints (advised (hint_with None hint) t) r h

each-last : (P : ℕ → List ℕ → Type 0) (n : ℕ) (hints : List (List ℕ)) (ts : List Tree) → Each P n (forest ts) → Each P n (forest (hinted_last hints ts))
each-last P n hints [] h = tt
each-last P n hints (t ∷ []) h = on_both (λ (u : Tree). Each P n (more u.head u.kids none)) (is_error t.head.kind) (all_advised hints t) t (each-advised P n hints t none h) h
each-last P n hints (t ∷ u ∷ ts) h = (h.0, (h.1.0, each-last P (suc n) hints (u ∷ ts) h.1.1))

pub each-hinted : (P : ℕ → List ℕ → Type 0) (n : ℕ) (hints : List (List ℕ)) (ts : List Tree) → Each P n (forest ts) → Each P n (forest (hinted hints ts))
each-hinted P n hints ts h = grind (arith, each-last)

-- ---- what becomes of a node

pub not-error : (k : SyntaxKind) → is_ordinary k ≡ true → is_error k ≡ false
not-error k h = grind arith

not-block : (k : SyntaxKind) (b : Bool) → is_ordinary k ≡ true → (b && is_block k) ≡ true → ⊥
not-block k b h e = grind arith

-- No block stands in an error.
each-error : (P Q : ℕ → List ℕ → Type 0) (n : ℕ) (t : Tree) (r : Forest) → is_error t.head.kind ≡ true → Each P n (more t.head t.kids r) → Each Q (suc n) r → Each Q n (more t.head t.kids r)
each-error P Q n t r e h k = grind arith

pub each-leaf : (Q : ℕ → List ℕ → Type 0) (n : ℕ) (h : Head) (r : Forest) → h.is_inner ≡ false → Each Q (suc n) r → Each Q n (more h none r)
each-leaf Q n h r e k = (λ u. (let none : true ≡ false = sym u ∙ and_left h.is_inner (is_block h.kind) e in absurd (cc)), (tt, k))

pub each-wrong : (P Q : ℕ → List ℕ → Type 0) (n : ℕ) (message : List ℕ) (t : Tree) (r : Forest) → Each P n (more t.head t.kids r) → Each Q (suc n) r → Each Q n (more (made_error message t).head (made_error message t).kids r)
each-wrong P Q n message t r h k = grind arith

pub each-wanted : (P Q : ℕ → List ℕ → Type 0) (n : ℕ) (thing : List ℕ) (t : Tree) (r : Forest) → Each P n (more t.head t.kids r) → Each Q (suc n) r → Each Q n (more (made_expected thing t).head (made_expected thing t).kids r)
each-wanted P Q n thing t r h k = grind arith

-- Whether something stands in it is the same for a node of another kind that is no error.
unless-kind : (a b c : Bool) (P Q : Type 0) → a ≡ false → b ≡ false → (P → Q) → Unless (a || c) P → Unless (b || c) Q
unless-kind a b c P Q e f g h = grind arith

-- A node of another kind is no block's, and what stands in it stays.
each-topped : (P Q : ℕ → List ℕ → Type 0) (n : ℕ) (k : SyntaxKind) (t : Tree) (r : Forest) → is_ordinary k ≡ true → is_error t.head.kind ≡ false → ((i : ℕ) (q : List ℕ) → P n (i ∷ q) → Q n (i ∷ q))
    → Each P n (more t.head t.kids r) → Each Q (suc n) r → Each Q n (more (record t.head { kind = k }) t.kids r)
each-topped P Q n k t r a e g h j = grind (arith, not-block, each-by, unless-kind, not-error)

pub each-kind : (P Q : ℕ → List ℕ → Type 0) (n : ℕ) (k : SyntaxKind) (t : Tree) (r : Forest) → is_ordinary k ≡ true → ((i : ℕ) (q : List ℕ) → P n (i ∷ q) → Q n (i ∷ q))
    → Each P n (more t.head t.kids r) → Each Q (suc n) r → Each Q n (more (with_kind k t).head (with_kind k t).kids r)
each-kind P Q n k t r a g h j =
    on_if (λ (u : Tree). Each Q n (more u.head u.kids r)) (is_error t.head.kind) t (topped t (record t.head { kind = k }))
    (λ e. each-error P Q n t r e h j) (λ e. each-topped P Q n k t r a e g h j)

each-renamed-last : (P : ℕ → List ℕ → Type 0) (n : ℕ) (k : SyntaxKind) (ts : List Tree) → is_ordinary k ≡ true → Each P n (forest ts) → Each P n (forest (renamed_last k ts))
each-renamed-last P n k [] a h = tt
each-renamed-last P n k (t ∷ []) a h = each-kind P P n k t none a (λ i q p. p) h tt
each-renamed-last P n k (t ∷ u ∷ ts) a h = (h.0, (h.1.0, each-renamed-last P (suc n) k (u ∷ ts) a h.1.1))

each-parens : (P : ℕ → List ℕ → Type 0) (n : ℕ) (ts : List Tree) → Each P n (forest ts) → Each P n (forest (parens_renamed ts))
each-parens P n ts h = grind (arith, each-kind, each-renamed-last)

delimited-sound : (k : SyntaxKind) (b : Bool) → (is_delimited k && b) ≡ true → is_error k ≡ false
delimited-sound k b h = grind arith

each-without : (P : ℕ → List ℕ → Type 0) (n : ℕ) (t : Tree) (r : Forest) → Each P n (more t.head t.kids r) → Each P n (more (without_parens t).head (without_parens t).kids r)
each-without P n t r h = grind (arith, on_if, each-topped, delimited-sound, each-parens, trees-forest)

-- ---- what becomes of several nodes

abbrev pub Deeper : List ℕ → Type 0
Deeper [] = ⊥
Deeper (i ∷ q) = Unit {0}

-- What stands there still does if the first of several nodes is changed: it comes after the first, or the change leaves it.
abbrev pub Stays : NodeChange → ℕ → ℕ → List ℕ → Type 0
Stays stays n i q = Unit {0}
Stays (turns_wrong message) n i q = n < i
Stays (is_not thing) n i q = n < i
Stays (renamed k) n i q = (n < i) ⊎ Deeper q
Stays unparened n i q = Unit {0}

abbrev Left : (ℕ → List ℕ → Type 0) → NodeChange → ℕ → ℕ → List ℕ → Type 0
Left P change n i q = Stays change n i q × P i q

behind : (P : ℕ → List ℕ → Type 0) (n : ℕ) (r : Forest) → Each P (suc n) r → Each (λ i q. (n < i) × P i q) (suc n) r
behind P n r h = each-by _ _ (suc n) r (λ i q p. (omega (arith, p.0), p.1)) (each-from P (suc n) (suc n) r (omega arith) h)

each-changed : (P : ℕ → List ℕ → Type 0) (change : NodeChange) (n : ℕ) (ts : List Tree) → change_by is_ordinary change ≡ true → Each P n (forest ts) → Each (Left P change n) n (forest (first_changed change ts))
each-changed P stays n ts a h = each-by _ _ n (forest ts) (λ i q p. (tt, p)) h
each-changed P (turns_wrong message) n [] a h = tt
each-changed P (turns_wrong message) n (t ∷ ts) a h = each-wrong P (Left P (turns_wrong message) n) n message t (forest ts) h (behind P n (forest ts) h.1.1)
each-changed P (is_not thing) n [] a h = tt
each-changed P (is_not thing) n (t ∷ ts) a h = each-wanted P (Left P (is_not thing) n) n thing t (forest ts) h (behind P n (forest ts) h.1.1)
each-changed P (renamed k) n [] a h = tt
each-changed P (renamed k) n (t ∷ ts) a h =
    each-kind P (Left P (renamed k) n) n k t (forest ts) a (λ i q p. (inr tt, p)) h (each-by _ _ (suc n) (forest ts) (λ i q p. (inl p.0, p.1)) (behind P n (forest ts) h.1.1))
each-changed P unparened n [] a h = tt
each-changed P unparened n (t ∷ ts) a h = each-by _ _ n (forest (without_parens t ∷ ts)) (λ i q p. (tt, p)) (each-without P n t (forest ts) h)

-- What stood somewhere among several nodes, counted from m, stands in what they become, which is counted from n.
abbrev pub Step : Shape → (ℕ → List ℕ → Type 0) → (ℕ → List ℕ → Type 0) → ℕ → ℕ → Type 0
Step (keeps change) P Q m n = (i j : ℕ) (q : List ℕ) → i + n ≡ j + m → Stays change m i q → P i q → Q j q
Step (holds change k) P Q m n = (i j : ℕ) (q : List ℕ) → i ≡ j + m → Stays change m i q → P i q → Q n (j ∷ q)
Step (lacks count message k) P Q m n = ((i j : ℕ) (q : List ℕ) → i ≡ j + m → j < count → P i q → Q n (j ∷ q)) × ((i j : ℕ) (q : List ℕ) → suc i ≡ j + m → count < j → P i q → Q n (j ∷ q))
Step (warns k message hint) P Q m n = (i j : ℕ) (q : List ℕ) → i ≡ j + m → P i q → Q n (j ∷ q)
Step (fails message) P Q m n = Unit {0}

-- an inner node over them
each-over : (Q : ℕ → List ℕ → Type 0) (n : ℕ) (k : SyntaxKind) (h : Head) (f : Forest) → h.kind ≡ k → h.text ≡ [] → is_error k ≡ false → (is_block_head h ≡ true → Q n []) → Each (λ i q. Q n (i ∷ q)) 0 f → Each Q n (more h f none)
each-over Q n k h f e t a b j = grind arith

pub each-inner : (Q : ℕ → List ℕ → Type 0) (n : ℕ) (k : SyntaxKind) (h : Head) (f : Forest) → h.kind ≡ k → h.text ≡ [] → is_ordinary k ≡ true → Each (λ i q. Q n (i ∷ q)) 0 f → Each Q n (more h f none)
each-inner Q n k h f e t a j = grind arith

pub each-holds : (change : NodeChange) (k : SyntaxKind) (P Q : ℕ → List ℕ → Type 0) (m n : ℕ) (ts : List Tree) → change_by is_ordinary change ≡ true → is_error k ≡ false → (is_block_head (inner_head k) ≡ true → Q n [])
    → Step (holds change k) P Q m n → Each P m (forest ts) → Each Q n (forest (shaped (holds change k) ts))
each-holds change k P Q m n ts a e b g h =
    each-over Q n k (inner_head k) (forest (first_changed change ts)) refl refl e b
    (each-move _ (λ i q. Q n (i ∷ q)) 0 m m 0 (forest (first_changed change ts)) (omega arith) (λ i j q e p. g i j q (omega (arith, e)) p.0 p.1) (each-changed P change m ts a h))

pub each-shaped : (shape : Shape) (P Q : ℕ → List ℕ → Type 0) (m n : ℕ) (ts : List Tree) → shape_by is_ordinary shape ≡ true → Step shape P Q m n → Each P m (forest ts) → Each Q n (forest (shaped shape ts))
each-shaped (keeps change) P Q m n ts a g h = each-move _ Q n m m n (forest (first_changed change ts)) (omega arith) (λ i j q e p. g i j q e p.0 p.1) (each-changed P change m ts a h)
each-shaped (holds change k) P Q m n ts a g h =
    let both = and_parts (change_by is_ordinary change) (is_ordinary k) a in
    each-holds change k P Q m n ts both.0 (not-error k both.1) (λ u. absurd (not-block k true both.1 u)) g h
each-shaped (lacks count message k) P Q m n ts a g h =
    each-inner Q n k (inner_head k) (forest (take count ts ++ error_of message [] ∷ drop count ts)) refl refl a
    (each-append (λ i q. Q n (i ∷ q)) 0 (length (take count ts)) (take count ts) (error_of message [] ∷ drop count ts) (omega arith)
    (each-move _ (λ i q. Q n (i ∷ q)) 0 m m 0 (forest (take count ts)) (omega arith) (λ i j q e p. g.0 i j q (omega (arith, e)) (omega (arith, e, p.0)) p.1) (each-take P m count (m + count) ts refl h))
    (each-leaf (λ i q. Q n (i ∷ q)) (length (take count ts)) (error_of message []).head (forest (drop count ts)) refl (rest (nat_le count (length ts)) refl)))
  where
    long : nat_le count (length ts) ≡ true → count ≤ length ts
    long e = grind (arith, nat_tests)

    short : nat_le count (length ts) ≡ false → length ts ≤ count
    short e = grind (arith, nat_tests)

    rest : (b : Bool) → nat_le count (length ts) ≡ b → Each (λ i q. Q n (i ∷ q)) (suc (length (take count ts))) (forest (drop count ts))
    rest true e =
        let l = length-take count ts in
        let c = long e in
        each-move _ (λ i q. Q n (i ∷ q)) 1 m (m + count) (suc (length (take count ts))) (forest (drop count ts)) (omega (arith, l, c)) (λ i j q e p. g.1 i j q (omega (arith, e)) (omega (arith, e, p.0)) p.1)
        (each-from P (m + count) (m + count) (forest (drop count ts)) (omega arith) (each-drop P m count (m + count) ts refl h))
    rest false e = subst (λ us. Each (λ i q. Q n (i ∷ q)) (suc (length (take count ts))) (forest us)) (sym (drop-all count ts (short e))) tt
each-shaped (warns k message hint) P Q m n ts a g h =
    each-inner Q n k (warned_head k message hint) (forest ts) refl refl a (each-move P (λ i q. Q n (i ∷ q)) 0 m m 0 (forest ts) (omega arith) (λ i j q e p. g i j q (omega (arith, e)) p) h)
each-shaped (fails message) P Q m n ts a g h = (λ u. absurd (cc), (tt, tt))

-- ---- the node in a hole

unless-gives : (b : Bool) (P : Type 0) → Unless b P → P
unless-gives true P h = elim h [ ]
unless-gives false P h = h

pub each-fill : (P : ℕ → List ℕ → Type 0) (n : ℕ) (d : Deep) (x : Tree) (r : Forest) → is_block_head x.head ≡ true → Each P n (more (fill d x).head (fill d x).kids r) → P n (path_in d)
each-fill P n bare x r e h = h.0 e
each-fill P n (under head left d right) x r e h =
    unless-gives (is_hollow head) (P n (length left ∷ path_in d))
    (each-fill (λ i q. Unless (is_hollow head) (P n (i ∷ q))) (length left) d x (forest right) e
    (each-skip (λ i q. Unless (is_hollow head) (P n (i ∷ q))) 0 (length left) left (fill d x ∷ right) (omega arith) h.1.0))

pub each-plug : (P : ℕ → List ℕ → Type 0) (hole : Hole) (x : Tree) → is_block_head x.head ≡ true → Each P 0 (forest (plug hole x)) → P (length hole.left) (path_in hole.deep)
each-plug P hole x e h = each-fill P (length hole.left) hole.deep x (forest hole.right) e (each-skip P 0 (length hole.left) hole.left (fill hole.deep x ∷ hole.right) (omega arith) h)

-- ---- what holds of each token's node: none has a node of a block's kind in it

-- WHAT A TOKEN'S NODE IS MADE OF: a property that these keep holds of each.
pub record OfTokens (P : Tree → Type 0) : Type 0 where
  pub leaves : (k : SyntaxKind) (s : List ℕ) → P (leaf_of k s)
  pub errors : (message text : List ℕ) → P (error_of message text)
  pub advice : (hs : List (List ℕ)) (t : Tree) → P t → P (all_advised hs t)
  pub tags : (n : ℕ) (now : List ℕ) (t : Tree) → P t → P (only_tag n now t)
  pub raws : (ts : List Tree) → All P ts → P (inner_of kind.Raw (forest ts))
  pub accesses : (ts : List Tree) → All P ts → P (inner_of kind.MathFieldAccess (forest ts))

module _ (P : Tree → Type 0) (of : OfTokens P) where
  -- names with fields
  of-fields : (left : Tree) (names : List (List ℕ)) → P left → P (fields_node left names)
  of-fields left [] h = h
  of-fields left (name ∷ names) h = of-fields (field_node left name) names (of.accesses (left ∷ leaf_of kind.Dot (codes ".") ∷ name_node name ∷ []) (h, (of.leaves _ _, (of.leaves _ _, tt))))

  of-access : (taken : List ℕ) → P (access_node taken)
  unfolding access_node
  of-access taken = by-names (names_of taken)
    where
      by-names : (names : List (List ℕ)) → P (named_node names)
      by-names [] = of.leaves _ _
      by-names (name ∷ names) = of-fields (name_node name) names (of.leaves _ _)

  -- raw texts
  of-trimmed : (cs : List ℕ) → All P (trimmed cs)
  of-trimmed cs = grind arith

  of-lines : (d : ℕ) (held : List ℕ) (rs : List RawLine) (closing : List ℕ) → All P (line_leaves d held rs closing)
  of-lines d held [] closing = of-trimmed (held ++ closing)
  of-lines d held (r ∷ rs) closing = (of.leaves _ _, (of.leaves _ _, of-lines d [] rs closing))

  of-start : (cs : List ℕ) → All P (first_leaves cs)
  of-start cs = grind arith

  of-block : (cs : List ℕ) → All P (block_leaves cs)
  unfolding block_leaves
  of-block cs = by-parts (dedent cs) (first_line (front cs)) (later_lines (front cs)) (closing cs)
    where
      by-parts : (d : ℕ) (first : List ℕ) (rs : List RawLine) (closing : List ℕ) → All P (block_of d first rs closing)
      by-parts d first rs closing = on_both (All P) (is_blank first) _ _ (of-lines d first rs closing) (all-append P (first_leaves first) (line_leaves d [] rs closing) (of-start first) (of-lines d [] rs closing))

  of-inline : (cs : List ℕ) → All P (inline_leaves cs)
  unfolding inline_leaves
  of-inline cs = (of.leaves _ _, of-lines 0 [] (later_lines cs) [])

  of-tag : (cs : List ℕ) → All P (tag_leaves cs)
  of-tag cs = grind arith

  of-delimited : (delim : List ℕ) (leaves : List Tree) → All P leaves → P (delimited delim leaves)
  of-delimited delim leaves h = of.raws (leaf kind.RawDelim delim ∷ (leaves ++ leaf kind.RawDelim delim ∷ [])) (of.leaves _ _, all-append P leaves (leaf kind.RawDelim delim ∷ []) h (of.leaves _ _, tt))

  of-warned : (n : ℕ) (now cs : List ℕ) (t : Tree) → P t → P (warned n now cs t)
  unfolding warned
  of-warned n now cs t h = on_both P (is_whole now cs) (only_tag n now t) t (of.tags n now t h) h

  of-raw : (cs : List ℕ) → P (raw_node cs)
  unfolding raw_node
  of-raw cs = by-sides (ticks cs) (drop (length (ticks cs)) cs)
    where
      by-end : (delim message text : List ℕ) (o : Option (List ℕ)) → P (elim o as (λ _. Tree) [ None ↦ error_of message text | Some inner ↦ closed_node delim inner ])
      by-end delim message text None = of.errors message text
      by-end delim message text (Some inner) =
          on_both P (nat_lt 2 (length delim)) (block_node delim inner) (inline_node delim inner)
          (of-warned (length delim) (tag inner) inner _
          (of-delimited delim _ (all-append P (tag_leaves (tag inner)) (block_leaves (drop (length (tag inner)) inner)) (of-tag (tag inner)) (of-block (drop (length (tag inner)) inner)))))
          (of-delimited delim _ (of-inline inner))

      by-sides : (delim rest : List ℕ) → P (delimited_node cs delim rest)
      by-sides delim rest = on_both P (is_pair delim rest) two_delimiters _ (of.raws (leaf kind.RawDelim (96 ∷ []) ∷ leaf kind.RawDelim (96 ∷ []) ∷ []) (of.leaves _ _, (of.leaves _ _, tt))) (by-end delim _ _ (before_ticks (length delim) rest))

  pub of-token : (k : CharClasses) (t : Token) (taken : List ℕ) → P (token_node k t taken)
  of-token k t taken = grind (arith, on_both, of-raw, of-access)

-- ---- no node of a block's kind

abbrev pub CleanTree : Tree → Type 0
CleanTree t = Clean (t ∷ [])

clean-all : (ts : List Tree) → All CleanTree ts → Clean ts
clean-all [] h = tt
clean-all (t ∷ ts) h = (h.0.0, (h.0.1.0, each-clean Nowhere 1 (forest ts) (clean-all ts h.1)))

clean-inner : (k : SyntaxKind) (ts : List Tree) → is_ordinary k ≡ true → All CleanTree ts → CleanTree (inner_of k (forest ts))
clean-inner k ts a h = each-inner Nowhere 0 k (inner_head k) (forest ts) refl refl a (clean-all ts h)

pub clean-token : (k : CharClasses) (t : Token) (taken : List ℕ) → CleanTree (token_node k t taken)
clean-token = of-token CleanTree (record {
  leaves = λ k s. (λ u. absurd (cc), (tt, tt));
  errors = λ message text. (λ u. absurd (cc), (tt, tt));
  advice = λ hs t h. each-advised Nowhere 0 hs t none h;
  tags = λ n now t h. h;
  raws = λ ts h. clean-inner kind.Raw ts refl h;
  accesses = λ ts h. clean-inner kind.MathFieldAccess ts refl h;
})

-- ---- what a token becomes, and trivia

pub clean-made : (m : Making) (t : Tree) → making_by is_ordinary m ≡ true → CleanTree t → CleanTree (made m t)
clean-made itself t a h = h
clean-made (of_kind k) t a h = each-kind Nowhere Nowhere 0 k t none a (λ i q p. p) h tt
clean-made (surprise hints) t a h = each-advised Nowhere 0 hints (made_unexpected t) none (each-wrong Nowhere Nowhere 0 (unexpected_message (name_of t.head.kind)) t none h tt)
clean-made (wanted thing) t a h = each-wanted Nowhere Nowhere 0 thing t none h tt

head-first : (t : Tree) (ts : List Tree) → CleanTree t → Clean ts → Clean (t ∷ ts)
head-first t ts h k = (h.0, (h.1.0, each-clean Nowhere 1 (forest ts) k))

clean-ahead : (k : CharClasses) (m : SyntaxMode) (n : ℕ) (z : Place) → Clean (ahead_by k m n z).trivia
clean-ahead k m zero z = tt
clean-ahead k m (suc n) z =
    let t = token_at k m z in
    let l = len_at k m z in
    let node = token_node k t (take l z.ahead) in
    on_both (λ (a : Ahead). Clean a.trivia) (at_trivia k m z) (after_trivia t l node (ahead_by k m n (moved l z))) (direct t l)
    (head-first node _ (clean-token k t (take l z.ahead)) (clean-ahead k m n (moved l z))) tt

clean-known : (k : CharClasses) (held : Reading) (known : Option Trivia) (z : Place) → Clean (pending known) → Clean (hand_at k held known z).trivia
unfolding hand_at ahead
clean-known k held known z h = grind (arith, clean-ahead)

pub clean-hand : (l : Level) (z : Place) (s : Point) → Clean (pending s.known) → Clean (hand_of l z s).trivia
clean-hand l z s h = clean-known l.classes s.held s.known z h

-- ---- no token's node is an inner node of markup, and so no bracket of a content block

-- no inner node of markup
abbrev pub NoMarkup : Tree → Type 0
NoMarkup t = t.head.is_inner ≡ true → t.head.kind ≡ kind.Markup → ⊥

no-advised : (hs : List (List ℕ)) (t : Tree) → NoMarkup t → NoMarkup (all_advised hs t)
no-advised [] t h = h
no-advised (m ∷ hs) t h = no-advised hs _ h

pub no-token : (k : CharClasses) (t : Token) (taken : List ℕ) → NoMarkup (token_node k t taken)
no-token = of-token NoMarkup (record {
  leaves = λ k s e f. absurd (cc);
  errors = λ message text e f. absurd (cc);
  advice = no-advised;
  tags = λ n now t h. h;
  raws = λ ts h e f. absurd (cc);
  accesses = λ ts h e f. absurd (cc);
})

-- Nor are they as an error in its place.
pub no-wrong : (message : List ℕ) (t : Tree) → NoMarkup t → NoMarkup (made_error message t)
no-wrong message t h = on_both NoMarkup (is_error t.head.kind) t (error_of message _) h (λ e f. absurd (cc))

-- ---- a content block's brackets

pub bracket-plain : (k : CharClasses) (levels : ℕ) (z : Place) (s : Point) (node : Tree) → (bracket k levels z s).nodes ≡ node ∷ [] → NoMarkup node
bracket-plain k levels z s node e =
    let h = hand_of (inner k levels) z (entered markup_reading (look_again k levels z s).state) in
    let taken = taken_node k itself h z in
    let is : taken ≡ node = sym (last-is h.trivia taken) ∙ ap last_node e in
    subst NoMarkup is (no-token k h.token (text_ahead h.len (moved h.gap z)))

-- The one after flushed trivia, if there is one.
pub close-plain : (k : CharClasses) (levels m n : ℕ) (s : Point) (z w : Place) → Every NoMarkup (inner_close k levels n (inner_tail k levels m s w).state z).nodes
unfolding run close_if flush_trivia hand_at less
close-plain k levels m n s z w =
    let l = inner k levels in
    let y = moved n z in
    let p = after_node false [] (inner_tail k levels m s w).state in
    let h = hand_of l y p in
    let a = asked h p in
    let first = record (plain (as_at_hand h) a) { asks = hand_asks_of l y p } in
    let took = done l (takes false itself) (moved 0 y) a in
    let g = hand_of l (moved 0 y) a in
    on_both (λ (o : Outcome _). Every NoMarkup (joined first o).nodes) (same kind.RightBracket (as_at_hand h).kind) (joined took (plain true took.state)) (plain false a) (no-token k g.token (text_ahead g.len (moved g.gap (moved 0 y))), tt) tt
