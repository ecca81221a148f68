-- The equations of forests.
use Rattle.typst_tree.proofs.Cited.{◌≡◌, ℕ, List, [], ◌∷◌, ◌++◌, length, map, take, drop, ◌≤◌, ◌<◌, zero, suc, get_or, true, false, if◌then◌else◌, refl, ap, arith, append-nil, set, SyntaxKind, take_all, drop_all, SpanValue, Head, spanned, Forest, none, more, Tree, forest, joined, count, with_each, synthesized, at_tree, with_kind, is_error}

pub joined_spanned : (sp : SpanValue) (f : Forest) → joined (with_each (spanned sp) f) ≡ joined f
joined_spanned sp none = refl
joined_spanned sp (more h ks r) = simp (joined_spanned sp ks, joined_spanned sp r)

pub count_with_each : (set : Head → Head) (f : Forest) → count (with_each set f) ≡ count f
count_with_each set none = refl
count_with_each set (more h ks r) = omega (arith, count_with_each set ks, count_with_each set r)

pub forest_synthesized : (sp : SpanValue) (ts : List Tree) → forest (map (synthesized sp) ts) ≡ with_each (spanned sp) (forest ts)
forest_synthesized sp [] = refl
forest_synthesized sp (t ∷ ts) = ap (more (spanned sp t.head) (with_each (spanned sp) t.kids)) (forest_synthesized sp ts)

-- a loop that wrote f of each element has mapped the list
pub map_over_all : {X : Type 0} (f : X → X) (xs ys : List X) (i : ℕ) → ys ≡ map f (take i xs) ++ drop i xs → length xs ≤ i → ys ≡ map f xs
map_over_all f xs ys i e h = rw (take_all i xs h, drop_all i xs h, append-nil) at e

-- a tree is changed where its element of the list is
pub forest_set : (f : Tree → Tree) (xs : List Tree) (i : ℕ) (x : Tree) → i < length xs → x ≡ get_or xs i x → forest (set xs i (f x)) ≡ at_tree f i (forest xs)
forest_set f [] i x h p = absurd (omega arith)
forest_set f (y ∷ xs) zero x h p = ap (λ z. more (f z).head (f z).kids (forest xs)) p
forest_set f (y ∷ xs) (suc i) x h p = ap (more y.head y.kids) (forest_set f xs i x (omega arith) p)

pub at_tree_past : (f : Tree → Tree) (i : ℕ) (xs : List Tree) → length xs ≤ i → at_tree f i (forest xs) ≡ forest xs
at_tree_past f i [] h = refl
at_tree_past f zero (y ∷ xs) h = absurd (omega arith)
at_tree_past f (suc i) (y ∷ xs) h = ap (more y.head y.kids) (at_tree_past f i xs (omega arith))

-- a kind is no text
pub text_kind : (k : SyntaxKind) (t : Tree) → (with_kind k t).head.text ≡ t.head.text
text_kind k t = elim (is_error t.head.kind) as (λ b. (if b then t else record { head = record t.head { kind = k }; kids = t.kids }).head.text ≡ t.head.text) [ true ↦ refl | false ↦ refl ]

pub kids_kind : (k : SyntaxKind) (t : Tree) → (with_kind k t).kids ≡ t.kids
kids_kind k t = elim (is_error t.head.kind) as (λ b. (if b then t else record { head = record t.head { kind = k }; kids = t.kids }).kids ≡ t.kids) [ true ↦ refl | false ↦ refl ]

pub joined_kind : (k : SyntaxKind) (i : ℕ) (f : Forest) → joined (at_tree (with_kind k) i f) ≡ joined f
joined_kind k i none = refl
joined_kind k zero (more h ks r) = rw (text_kind k (record { head = h; kids = ks }), kids_kind k (record { head = h; kids = ks })) refl
joined_kind k (suc i) (more h ks r) = ap (λ s. h.text ++ (joined ks ++ s)) (joined_kind k i r)

pub count_kind : (k : SyntaxKind) (i : ℕ) (f : Forest) → count (at_tree (with_kind k) i f) ≡ count f
count_kind k i none = refl
count_kind k zero (more h ks r) = rw (kids_kind k (record { head = h; kids = ks })) refl
count_kind k (suc i) (more h ks r) = omega (arith, count_kind k i r)
