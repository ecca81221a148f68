-- Leaves without children.
use Rattle.typst_tree.proofs.Cited.{◌≡◌, ℕ, zero, suc, ◌+◌, ◌<◌, List, ◌∷◌, ◌++◌, length, take, get_or, refl, ap, sym, ◌∙◌, subst, arith, add-one, rules, [], SyntaxKind, SpanValue, bare_head, spanned, Forest, none, more, Tree, forest, bare, bare_forest, with_each, synthesized, with_kind, at_tree, numbered_list, IsWholeForest, IsWhole}
use Rattle.typst_tree.proofs.Numbering.{forest_numbered, numbered_forest_bare}

none_bare : (f : Forest) → bare_forest f ≡ none → f ≡ none
none_bare none e = refl
none_bare (more h ks r) e = absurd (cc)

-- forests that are the same, spans aside, are whole together
pub whole_same : (f g : Forest) → bare_forest f ≡ bare_forest g → IsWholeForest g → IsWholeForest f
whole_same none g e w = tt
whole_same (more h ks r) none e w = absurd (cc)
whole_same (more h ks r) (more h' ks' r') e w =
    let heads : bare_head h ≡ bare_head h' = cc in
    let inner : h.is_inner ≡ h'.is_inner = ap (λ x. x.is_inner) heads in
    let kids : bare_forest ks ≡ bare_forest ks' = cc in
    let rests : bare_forest r ≡ bare_forest r' = cc in
    (λ q. none_bare ks (kids ∙ ap bare_forest (w.0 (sym inner ∙ q))), whole_same ks ks' kids w.1, whole_same r r' rests w.2)

-- a tree is whole if one is that is equal, spans aside
pub whole_same_tree : (t u : Tree) → bare t ≡ bare u → IsWhole u → IsWhole t
whole_same_tree t u e w = grind (arith, none_bare, whole_same)

pub whole_left : (xs ys : List Tree) → IsWholeForest (forest (xs ++ ys)) → IsWholeForest (forest xs)
whole_left [] ys w = tt
whole_left (x ∷ xs) ys w = (w.0, w.1, whole_left xs ys w.2)

pub whole_right : (xs ys : List Tree) → IsWholeForest (forest (xs ++ ys)) → IsWholeForest (forest ys)
whole_right [] ys w = w
whole_right (x ∷ xs) ys w = whole_right xs ys w.2

-- two whole lists of trees are whole as one
pub whole_join : (xs ys : List Tree) → IsWholeForest (forest xs) → IsWholeForest (forest ys) → IsWholeForest (forest (xs ++ ys))
whole_join [] ys w v = v
whole_join (x ∷ xs) ys w v = (w.0, w.1, whole_join xs ys w.2 v)

-- trees are whole where they are once numbered
pub whole_numbered : (file s a : ℕ) (ts : List Tree) → IsWholeForest (forest (numbered_list file s a ts)) → IsWholeForest (forest ts)
whole_numbered file s a ts w =
    whole_same (forest ts) (forest (numbered_list file s a ts)) (sym (rw forest_numbered (numbered_forest_bare file s a (forest ts)))) w

-- one more tree that is whole
pub whole_more : (xs : List Tree) (i : ℕ) (x : Tree) → i < length xs → x ≡ get_or xs i x → IsWholeForest (forest (take i xs)) → IsWhole x → IsWholeForest (forest (take (i + 1) xs))
whole_more [] i x h e w v = absurd (omega arith)
whole_more (y ∷ xs) zero x h e w v = let u : IsWhole y = subst (λ (t : Tree). IsWhole t) e v in (u.0, u.1, tt)
whole_more (y ∷ xs) (suc i) x h e w v = rw add-one (w.0, w.1, rw add-one at (whole_more xs i x (omega arith) e w.2 v))

pub with_each_bare : (sp : SpanValue) (f : Forest) → bare_forest (with_each (spanned sp) f) ≡ bare_forest f
with_each_bare sp none = refl
with_each_bare sp (more h ks r) = λ i. more (bare_head h) (with_each_bare sp ks i) (with_each_bare sp r i)

pub whole_synthesized : (sp : SpanValue) (t : Tree) → IsWhole t → IsWhole (synthesized sp t)
whole_synthesized sp t w = search (rules, whole_same_tree, with_each_bare)

pub whole_kind : (k : SyntaxKind) (i : ℕ) (f : Forest) → IsWholeForest f → IsWholeForest (at_tree (with_kind k) i f)
whole_kind k i none w = tt
whole_kind k zero (more h ks r) w = grind arith
whole_kind k (suc i) (more h ks r) w = (w.0, w.1, whole_kind k i r w.2)
