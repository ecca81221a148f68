-- What is left of a walk, step by step.
use Rattle.typst_highlight.proofs.Cited.{◌≡◌, ℕ, ◌+◌, ◌*◌, ◌<◌, ◌&&◌, false, List, [], ◌∷◌, ◌++◌, Option, Some, length, ap, ◌∙◌, arith, reverse, reverse-append, Forest, none, more, Tree, forest, count, saturated, is_childless, is_leaf, Tag, spanned, Outlet, ahead_of, end, first_ahead, first_leaf, joined, left, next_leaf, outer_within, passed, passed_row, past, returned, returns, root_context, steps, tag, waiting, walked, walked_row, within, Waiting, Row}
use Rattle.typst_highlight.specs.declared.progress.Progress.{Progress}

-- the last of a list comes first in the reversed one
pub turned : {A : Type 0} (xs ys : List A) (x : A) → xs ≡ ys ++ (x ∷ []) → reverse xs ≡ x ∷ reverse ys
turned xs ys x e = ap reverse e ∙ reverse-append ys (x ∷ [])

-- what is round a node's children, where what follows the node waits
pub entered : (p q : Progress) (w : Waiting) (t : Tree) (r : Forest) → q.level.parent ≡ Some t.head.kind → q.level.outer ≡ outer_within (joined p) t.head.kind → q.offset ≡ saturated (p.offset + length t.head.text) → q.trail ≡ p.trail → waiting q ≡ w ∷ waiting p → forest w.nodes.now ≡ r → w.start ≡ end (joined p) t → w.level.parent ≡ p.level.parent → joined q ≡ within (joined p) t r
entered p q w t r parent outer offset trail ws n a l =
    let ahead : ahead_of (waiting q) ≡ next_leaf (joined p) t r = ap ahead_of ws ∙ (λ i. first_ahead (first_leaf (l i) (a i) (n i)) (ahead_of (waiting p))) in
    λ i. record { parent = parent i; outer = outer i; offset = offset i; trail = trail i; ahead = ahead i }

-- a node with children is no leaf
pub no_leaf : (t : Tree) → is_childless t.kids ≡ false → is_leaf t ≡ false
no_leaf t e = ap (λ b. b && is_leaf (record t { kids = none })) e

-- at the root
pub left_start : {S : Type 0} (o : Outlet S) (p : Progress) (t : Tree) (s : S) → joined p ≡ root_context → waiting p ≡ [] → left o p (more t.head t.kids none) s ≡ walked o root_context t none s
left_start o p t s j w = λ i. returned o (w i) (passed_row (j i) (more t.head t.kids none)) (walked_row o (j i) (more t.head t.kids none) s)

-- behind a node
pub left_past : {S : Type 0} (o : Outlet S) (p q : Progress) (t : Tree) (r : Forest) (s u : S) → u ≡ walked o (joined p) t r s → joined q ≡ past (joined p) t (passed (joined p) t r) → waiting q ≡ waiting p → left o q r u ≡ left o p (more t.head t.kids r) s
left_past o p q t r s u e j w = λ i. returned o (w i) (passed_row (j i) r) (walked_row o (j i) r (e i))

-- in a node with children
pub left_inner : {S : Type 0} (o : Outlet S) (p q : Progress) (w : Waiting) (t : Tree) (r : Forest) (span kept : Option Tag) (text : List ℕ) (s begun given : S) → is_childless t.kids ≡ false → span ≡ spanned (tag (joined p) t r) → begun ≡ o.begun s span → kept ≡ o.kept s span → text ≡ t.head.text → given ≡ o.given begun text → joined q ≡ within (joined p) t r → waiting q ≡ w ∷ waiting p → forest w.nodes.now ≡ r → w.start ≡ end (joined p) t → w.level ≡ p.level → w.kept ≡ kept → left o q t.kids given ≡ left o p (more t.head t.kids r) s
left_inner o p q w t r span kept text s begun given inner e f g h k j ws n a l m = grind arith

pub fewer_inner : (p q : Progress) (w : Waiting) (t : Tree) (r : Forest) → waiting q ≡ w ∷ waiting p → forest w.nodes.now ≡ r → steps q t.kids < steps p (more t.head t.kids r)
fewer_inner p q w t r e n = omega (arith, ap returns e, ap count n)

-- how many nodes of rows are left, and how many rows
abbrev pub row_returns : List Row → ℕ
row_returns [] = 0
row_returns (w ∷ ws) = 1 + (2 * count (forest w.nodes.now) + row_returns ws)
