-- A copy of a tree, made upwards from one of its nodes.
use Rattle.typst_tree.proofs.Cited.{common_steps, ◌≡◌, ◌≢◌, ℕ, zero, suc, ◌+◌, ◌<◌, ◌≤◌, List, ◌∷◌, ◌++◌, length, take, get_or, refl, ap, sym, subst, ◌∙◌, arith, [], insert, remove, take_all, get_or_default, Forest, none, more, Tree, forest, trees, count, nodes}
use Rattle.typst_tree.specs.declared.node.Ancestor.{Ancestor}
use Rattle.typst_tree.proofs.SpansAside.{trees_forest, forest_trees}

-- the way down from a tree: each tree on it with the index of the child that is the next
abbrev pub IsWay : Tree → List Ancestor → Tree → Type 0
IsWay top [] t = t ≡ top
IsWay top (p ∷ above) t =
    (p.node.now ≡ top) × (p.last < length (trees p.node.now.kids)) × IsWay (get_or (trees p.node.now.kids) p.last p.node.now) above t

pub way_down : (top : Tree) (above : List Ancestor) (p : Ancestor) (t : Tree) → IsWay top above p.node.now → p.last < length (trees p.node.now.kids) → t ≡ get_or (trees p.node.now.kids) p.last p.node.now → IsWay top (above ++ p ∷ []) t
way_down top [] p t w h e = (w, h, e)
way_down top (q ∷ above) p t w h e = (w.0, w.1, way_down (get_or (trees q.node.now.kids) q.last q.node.now) above p t w.2 h e)

-- the last tree of a way, and where it ends
pub record Upper (top : Tree) (above : List Ancestor) (p : Ancestor) (t : Tree) : Type 0 where
  pub way : IsWay top above p.node.now
  pub within : p.last < length (trees p.node.now.kids)
  pub child : t ≡ get_or (trees p.node.now.kids) p.last p.node.now

above_end : (top : Tree) (above : List Ancestor) (p : Ancestor) (t : Tree) → IsWay top (above ++ p ∷ []) t → Upper top above p t
above_end top [] p t w = record { way = w.0; within = w.1; child = w.2 }
above_end top (q ∷ above) p t w = grind (arith, above_end (get_or (trees q.node.now.kids) q.last q.node.now) above p t w.2)

pub way_up : (top : Tree) (above rest : List Ancestor) (p : Ancestor) (t : Tree) → above ≡ rest ++ p ∷ [] → IsWay top above t → Upper top rest p t
way_up top above rest p t e w = above_end top rest p t (subst (λ (ps : List Ancestor). IsWay top ps t) e w)

child_nodes : (f : Forest) (i : ℕ) (d : Tree) → i < length (trees f) → nodes (get_or (trees f) i d) ≤ count f
child_nodes none i d h = absurd (omega (arith, h))
child_nodes (more g ks r) zero d h = omega arith
child_nodes (more g ks r) (suc i) d h = omega (arith, child_nodes r i d (omega (arith, h)))

pub way_nodes : (top : Tree) (above : List Ancestor) (t : Tree) → IsWay top above t → nodes t ≤ nodes top
way_nodes top [] t w = omega (arith, ap nodes w)
way_nodes top (p ∷ above) t w =
    omega (arith, ap nodes w.0, child_nodes p.node.now.kids p.last p.node.now w.1, way_nodes (get_or (trees p.node.now.kids) p.last p.node.now) above t w.2)

-- `remove`, element by element
abbrev pub without : {X : Type 0} → ℕ → List X → List X
without i [] = []
without zero (x ∷ xs) = xs
without (suc i) (x ∷ xs) = x ∷ without i xs

remove_is : {X : Type 0} (xs : List X) (i : ℕ) → remove xs i ≡ without i xs
remove_is [] zero = refl
remove_is [] (suc i) = refl
remove_is (x ∷ xs) zero = refl
remove_is (x ∷ xs) (suc i) = ap (λ ys. x ∷ ys) (remove_is xs i)

without_past : {X : Type 0} (i : ℕ) (xs : List X) → length xs ≤ i → without i xs ≡ xs
without_past i [] h = refl
without_past zero (x ∷ xs) h = absurd (omega (arith, h))
without_past (suc i) (x ∷ xs) h = ap (λ ys. x ∷ ys) (without_past i xs (omega (arith, h)))

length_without : {X : Type 0} (i : ℕ) (xs : List X) → i < length xs → length (without i xs) + 1 ≡ length xs
length_without i [] h = absurd (omega (arith, h))
length_without zero (x ∷ xs) h = omega arith
length_without (suc i) (x ∷ xs) h = omega (arith, length_without i xs (omega (arith, h)))

taken : {X : Type 0} (xs : List X) (i : ℕ) (x : X) → i < length xs → x ≡ get_or xs i x → take (suc i) xs ≡ take i xs ++ x ∷ []
taken [] i x h e = absurd (omega (arith, h))
taken (y ∷ xs) zero x h e = ap (λ z. z ∷ []) (sym e)
taken (y ∷ xs) (suc i) x h e = ap (λ zs. y ∷ zs) (taken xs i x (omega (arith, h)) e)

without_more : {X : Type 0} (xs : List X) (last i : ℕ) (x : X) → i < length xs → i ≢ last → x ≡ get_or xs i x → without last (take (suc i) xs) ≡ without last (take i xs) ++ x ∷ []
without_more [] last i x h ne e = absurd (omega (arith, h))
without_more (y ∷ xs) zero zero x h ne e = absurd (ne refl)
without_more (y ∷ xs) (suc last) zero x h ne e = ap (λ z. z ∷ []) (sym e)
without_more (y ∷ xs) zero (suc i) x h ne e = taken xs i x (omega (arith, h)) e
without_more (y ∷ xs) (suc last) (suc i) x h ne e =
    ap (λ zs. y ∷ zs) (without_more xs last i x (omega (arith, h)) (λ p. ne (ap suc p)) e)

no_more : {X : Type 0} (i : ℕ) → take {A = X} (suc i) [] ≡ take i []
no_more i = grind arith

without_here : {X : Type 0} (xs : List X) (i : ℕ) → without i (take (suc i) xs) ≡ without i (take i xs)
without_here {X = X} [] i = ap (λ (ys : List X). without i ys) (no_more {X = X} i)
without_here (x ∷ xs) zero = refl
without_here (x ∷ xs) (suc i) = ap (λ zs. x ∷ zs) (without_here xs i)

-- copies of the children but one, one child more
pub without_push : {X : Type 0} (xs ys : List X) (last i : ℕ) (x y : X) → ys ≡ without last (take i xs) → i < length xs → i ≢ last → x ≡ get_or xs i x → y ≡ x → ys ++ y ∷ [] ≡ without last (take (i + 1) xs)
without_push xs ys last i x y e h ne is same = grind (arith, without_more)

pub without_skip : {X : Type 0} (xs ys : List X) (last i : ℕ) → ys ≡ without last (take i xs) → i ≡ last → ys ≡ without last (take (i + 1) xs)
without_skip xs ys last i e q = grind (arith, without_here)

-- a tree's children as a list
pub kids_are : (t : Tree) (xs : List Tree) → t.kids ≡ forest xs → trees t.kids ≡ xs
kids_are t xs e = ap trees e ∙ trees_forest xs

pub without_all : (t : Tree) (xs ys : List Tree) (last i : ℕ) → t.kids ≡ forest xs → ys ≡ without last (take i xs) → length xs ≤ i → ys ≡ remove (trees t.kids) last
without_all t xs ys last i e w h = grind (arith, take_all, kids_are, remove_is)

-- the child with which the way goes on
pub record Child (t : Tree) (last : ℕ) (x : Tree) : Type 0 where
  pub within : last < length (trees t.kids)
  pub is : x ≡ get_or (trees t.kids) last t

pub child_at : (t : Tree) (xs : List Tree) (last : ℕ) (x : Tree) → t.kids ≡ forest xs → last < length xs → x ≡ get_or xs last x → Child t last x
child_at t xs last x e h is = grind (arith, kids_are, get_or_default)

-- where no child is left out, the copies are the children
pub copied : (t : Tree) (xs ys : List Tree) (last : ℕ) → t.kids ≡ forest xs → length xs ≤ last → ys ≡ remove (trees t.kids) last → forest ys ≡ t.kids
copied t xs ys last e h w = grind (arith, kids_are, remove_is, without_past, forest_trees)

-- where one is, they are with its copy
pub copied_back : (t : Tree) (ys zs : List Tree) (last : ℕ) (x : Tree) → last < length (trees t.kids) → x ≡ get_or (trees t.kids) last t → ys ≡ remove (trees t.kids) last → zs ≡ insert ys last x → forest zs ≡ t.kids
copied_back t ys zs last x h is w e = grind (arith, common_steps, remove_is, get_or_default, forest_trees)

pub room_for : (t : Tree) (ys : List Tree) (last : ℕ) → last < length (trees t.kids) → ys ≡ remove (trees t.kids) last → last ≤ length ys
room_for t ys last h w = grind (arith, remove_is, length_without)
