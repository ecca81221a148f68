-- Which trees have diagnostics.
use Rattle.typst_tree.proofs.Cited.{common_steps, ◌≡◌, ℕ, suc, ◌+◌, ◌<◌, ◌≤◌, Bool, true, false, ◌||◌, List, ◌∷◌, ◌++◌, length, map, take, drop, get_or, zero, Some, if◌then◌else◌, refl, ap, sym, ◌∙◌, arith, [], slice_range, set, take_more, take-append-drop, set_split, set-get_or, drop_split, SyntaxKind, SpanValue, Own, has_any, spanned, Forest, none, more, Tree, forest, bare, bare_forest, have_diagnostics, has_diagnostics, with_each, synthesized, with_kind, at_tree, kids_of, have_others, swapped, is_error, Counts, or_right}
use Rattle.typst_tree.proofs.SpansAside.{over, trees_forest, forest_bare}
use Rattle.typst_tree.proofs.Forests.{kids_kind}
use Rattle.typst_tree.proofs.ReplacesChildren.{swapped_bare}

or_in : (a b c d : Bool) → (a || (b || (c || d))) ≡ ((a || (b || c)) || d)
or_in true b c d = refl
or_in false true c d = refl
or_in false false c d = refl

or_none : (a b : Bool) → (a || (b || false)) ≡ (a || b)
or_none a true = refl
or_none a false = refl

or_turn : (a b c : Bool) → (a || (b || c)) ≡ ((a || c) || b)
or_turn true b c = refl
or_turn false true true = refl
or_turn false true false = refl
or_turn false false true = refl
or_turn false false false = refl

pub have_append : (xs ys : List Tree) → have_diagnostics (forest (xs ++ ys)) ≡ (have_diagnostics (forest xs) || have_diagnostics (forest ys))
have_append [] ys = refl
have_append (x ∷ xs) ys =
    ap (λ b. has_any x.head.diagnostics || (have_diagnostics x.kids || b)) (have_append xs ys)
    ∙ or_in (has_any x.head.diagnostics) (have_diagnostics x.kids) (have_diagnostics (forest xs)) (have_diagnostics (forest ys))

have_one : (x : Tree) → have_diagnostics (forest (x ∷ [])) ≡ has_diagnostics x
have_one x = or_none (has_any x.head.diagnostics) (have_diagnostics x.kids)

-- three stretches of trees, the one between them last
have_three : (a b c : List Tree) → have_diagnostics (forest (a ++ (b ++ c))) ≡ ((have_diagnostics (forest a) || have_diagnostics (forest c)) || have_diagnostics (forest b))
have_three a b c = simp (have_append, or_turn)

-- one more tree
pub have_more : (xs : List Tree) (i : ℕ) (x : Tree) → i < length xs → x ≡ get_or xs i x → have_diagnostics (forest (take (i + 1) xs)) ≡ (have_diagnostics (forest (take i xs)) || has_diagnostics x)
have_more xs i x h e = grind (arith, common_steps, take_more, have_append, have_one)

-- one more tree without diagnostics
pub none_more : (xs : List Tree) (i : ℕ) (x : Tree) → i < length xs → x ≡ get_or xs i x → have_diagnostics (forest (take i xs)) ≡ false → has_diagnostics x ≡ false → have_diagnostics (forest (take (i + 1) xs)) ≡ false
none_more xs i x h e a b = have_more xs i x h e ∙ ap (λ c. c || has_diagnostics x) a ∙ b

-- one of several trees, changed
pub have_set : (xs : List Tree) (i : ℕ) (y : Tree) → i < length xs → have_diagnostics (forest (set xs i y)) ≡ (have_others i xs || has_diagnostics y)
have_set xs i y h =
    let next : suc i ≡ i + 1 = omega arith in
    ap (λ zs. have_diagnostics (forest zs)) (set_split xs i y h ∙ ap (λ n. take i xs ++ y ∷ drop n xs) next)
    ∙ have_three (take i xs) (y ∷ []) (drop (i + 1) xs) ∙ ap (λ b. have_others i xs || b) (have_one y)

-- and as it was
pub have_at : (xs : List Tree) (i : ℕ) (x : Tree) → i < length xs → x ≡ get_or xs i x → have_diagnostics (forest xs) ≡ (have_others i xs || has_diagnostics x)
have_at xs i x h e =
    ap (λ zs. have_diagnostics (forest zs)) (sym (ap (set xs i) e ∙ set-get_or xs i x)) ∙ have_set xs i x h

-- a tree with diagnostics is among some
pub some_have : (xs : List Tree) (i : ℕ) (x : Tree) → i < length xs → x ≡ get_or xs i x → has_diagnostics x ≡ true → have_diagnostics (forest xs) ≡ true
some_have xs i x h e p = have_at xs i x h e ∙ or_right (have_others i xs) (has_diagnostics x) p

-- spans are no diagnostics
have_bare : (f : Forest) → have_diagnostics (bare_forest f) ≡ have_diagnostics f
have_bare none = refl
have_bare (more h ks r) = λ i. has_any h.diagnostics || (have_bare ks i || have_bare r i)

-- trees that are the same, spans aside
pub has_same : (t u : Tree) → bare t ≡ bare u → has_diagnostics t ≡ has_diagnostics u
has_same t u e = grind (arith, have_bare)

have_same : (xs ys : List Tree) → map bare xs ≡ map bare ys → have_diagnostics (forest xs) ≡ have_diagnostics (forest ys)
have_same xs ys e =
    sym (have_bare (forest xs)) ∙ ap have_diagnostics (sym (forest_bare xs) ∙ ap forest e ∙ forest_bare ys) ∙ have_bare (forest ys)

have_spanned : (sp : SpanValue) (f : Forest) → have_diagnostics (with_each (spanned sp) f) ≡ have_diagnostics f
have_spanned sp none = refl
have_spanned sp (more h ks r) = λ i. has_any h.diagnostics || (have_spanned sp ks i || have_spanned sp r i)

pub has_synthesized : (sp : SpanValue) (t : Tree) → has_diagnostics (synthesized sp t) ≡ has_diagnostics t
has_synthesized sp t = ap (λ b. has_any t.head.diagnostics || b) (have_spanned sp t.kids)

-- a kind is no diagnostic
any_kind : (k : SyntaxKind) (t : Tree) → has_any (with_kind k t).head.diagnostics ≡ has_any t.head.diagnostics
any_kind k t = elim (is_error t.head.kind) as (λ b. has_any (if b then t else record { head = record t.head { kind = k }; kids = t.kids }).head.diagnostics ≡ has_any t.head.diagnostics) [ true ↦ refl | false ↦ refl ]

pub have_kind : (k : SyntaxKind) (i : ℕ) (f : Forest) → have_diagnostics (at_tree (with_kind k) i f) ≡ have_diagnostics f
have_kind k i none = refl
have_kind k zero (more h ks r) = let t : Tree = record { head = h; kids = ks } in rw (any_kind k t, kids_kind k t) refl
have_kind k (suc i) (more h ks r) = ap (λ b. has_any h.diagnostics || (have_diagnostics ks || b)) (have_kind k i r)

-- what `recount` requires of the mark: the children ys stand for ones where others came for those that went
abbrev pub Marks : Own → List Tree → Counts → Counts → Type 0
Marks o ys gone come =
    (has_any o.head.diagnostics || (come.is_marked || (if gone.is_marked then have_diagnostics (forest ys) else o.is_marked))) ≡ (has_any o.head.diagnostics || have_diagnostics (forest ys))

marked_by : (o : Own) (xs ys : List Tree) (rest old new : Bool) (gone come : Counts) → have_diagnostics (forest xs) ≡ (rest || old) → have_diagnostics (forest ys) ≡ (rest || new) → o.is_marked ≡ (has_any o.head.diagnostics || have_diagnostics (forest xs)) → gone.is_marked ≡ old → come.is_marked ≡ new → Marks o ys gone come
marked_by o xs ys rest old new gone come x y m g c = grind arith

-- children replaced
pub swapped_marks : (t : Tree) (file : ℕ) (o : Own) (xs : List Tree) (from to : ℕ) (new ys : List Tree) (gone come : Counts) → over o.head xs ≡ t → from ≤ to → to ≤ length (kids_of t) → swapped file o.head xs from to (slice_range xs from to) new ≡ Some ys → o.is_marked ≡ has_diagnostics (over o.head xs) → gone.is_marked ≡ have_diagnostics (forest (slice_range xs from to)) → come.is_marked ≡ have_diagnostics (forest new) → Marks o ys gone come
swapped_marks t file o xs from to new ys gone come view order within e m g c =
    let ends : to ≤ length xs = rw (← view, trees_forest) at within in
    let rest = have_diagnostics (forest (take from xs)) || have_diagnostics (forest (drop to xs)) in
    let parts : xs ≡ take from xs ++ (slice_range xs from to ++ drop to xs) = sym (take-append-drop from xs) ∙ ap (λ zs. take from xs ++ zs) (drop_split xs from to order) in
    let old = ap (λ zs. have_diagnostics (forest zs)) parts ∙ have_three (take from xs) (slice_range xs from to) (drop to xs) in
    let now = have_same ys (take from xs ++ (new ++ drop to xs)) (swapped_bare file o.head xs from to new ys order ends e) ∙ have_three (take from xs) new (drop to xs) in
    marked_by o xs ys rest (have_diagnostics (forest (slice_range xs from to))) (have_diagnostics (forest new)) gone come old now m g c

-- one child changed
pub set_marks : (o : Own) (xs : List Tree) (i : ℕ) (x y : Tree) (gone come : Counts) → i < length xs → x ≡ get_or xs i x → o.is_marked ≡ has_diagnostics (over o.head xs) → gone.is_marked ≡ has_diagnostics x → come.is_marked ≡ has_diagnostics y → Marks o (set xs i y) gone come
set_marks o xs i x y gone come h e m g c = grind (arith, marked_by, have_at, have_set)
