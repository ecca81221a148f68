-- What it is for two trees to be the same, spans aside.
use Rattle.typst_tree.proofs.Cited.{common_steps, ◌≡◌, ◌≢◌, ℕ, zero, suc, List, ◌∷◌, map, refl, ap, sym, ◌∙◌, ◌<◌, length, get_or, arith, [], length-map, Head, bare_head, Forest, none, more, Tree, forest, trees, bare, bare_forest}

pub trees_forest : (ts : List Tree) → trees (forest ts) ≡ ts
trees_forest [] = refl
trees_forest (t ∷ ts) = ap (λ us. t ∷ us) (trees_forest ts)

pub forest_trees : (f : Forest) → forest (trees f) ≡ f
forest_trees none = refl
forest_trees (more h ks r) = ap (more h ks) (forest_trees r)

pub forest_bare : (ts : List Tree) → forest (map bare ts) ≡ bare_forest (forest ts)
forest_bare [] = refl
forest_bare (t ∷ ts) = ap (more (bare_head t.head) (bare_forest t.kids)) (forest_bare ts)

-- a tree by its head and its children
abbrev pub over : Head → List Tree → Tree
over h ts = record { head = h; kids = forest ts }

-- same head and same children, spans aside
pub record SameParts (h h' : Head) (xs ys : List Tree) : Type 0 where
  pub heads : bare_head h ≡ bare_head h'
  pub kids : map bare xs ≡ map bare ys

pub parts_from_bare : {t u : Tree} (h h' : Head) (xs ys : List Tree) → over h xs ≡ t → over h' ys ≡ u → bare t ≡ bare u → SameParts h h' xs ys
parts_from_bare {t} {u} h h' xs ys a b e =
    let same : bare (over h xs) ≡ bare (over h' ys) = ap bare a ∙ (e ∙ sym (ap bare b)) in
    record {
      heads = ap (λ v. v.head) same;
      kids = sym (trees_forest (map bare xs)) ∙ (ap trees (forest_bare xs ∙ (ap (λ v. v.kids) same ∙ sym (forest_bare ys))) ∙ trees_forest (map bare ys));
    }

pub bare_from_parts : {t u : Tree} (h h' : Head) (xs ys : List Tree) → over h xs ≡ t → over h' ys ≡ u → bare_head h ≡ bare_head h' → map bare xs ≡ map bare ys → bare t ≡ bare u
bare_from_parts h h' xs ys a b p q =
    sym (ap bare a) ∙ ((λ i. record { head = p i; kids = (sym (forest_bare xs) ∙ (ap forest q ∙ forest_bare ys)) i }) ∙ ap bare b)

pub lengths_from_bare : (xs ys : List Tree) → map bare xs ≡ map bare ys → length xs ≡ length ys
lengths_from_bare xs ys e = omega (arith, ap length e, length-map xs bare, length-map ys bare)

-- trees at one place of lists that are the same
pub same_at : (xs ys : List Tree) (i : ℕ) (x y : Tree) → map bare xs ≡ map bare ys → x ≡ get_or xs i x → y ≡ get_or ys i y → i < length xs → bare x ≡ bare y
same_at [] ys i x y e p q h = absurd (omega arith)
same_at (a ∷ xs) [] i x y e p q h = absurd (omega (arith, ap length e))
same_at (a ∷ xs) (b ∷ ys) zero x y e p q h = cc
same_at (a ∷ xs) (b ∷ ys) (suc i) x y e p q h = same_at xs ys i x y (cc) p q (omega arith)

-- trees of lists that are the same at all places but one, and there too
pub same_but : (xs ys : List Tree) (last : ℕ) → length xs ≡ length ys → ((k : ℕ) (d : Tree) → k < length xs → k ≢ last → bare (get_or xs k d) ≡ bare (get_or ys k d)) → ((d : Tree) → last < length xs → bare (get_or xs last d) ≡ bare (get_or ys last d)) → map bare xs ≡ map bare ys
same_but [] [] last e f g = refl
same_but [] (y ∷ ys) last e f g = absurd (omega (arith, e))
same_but (x ∷ xs) [] last e f g = absurd (omega (arith, e))
same_but (x ∷ xs) (y ∷ ys) zero e f g = λ i.
    g x (omega arith) i ∷ same_but xs ys (length xs) (omega (arith, e)) (λ k d p q. f (suc k) d (omega (arith, p)) (λ z. omega (arith, z))) (λ d p. absurd (omega (arith, p))) i
same_but (x ∷ xs) (y ∷ ys) (suc last) e f g = λ i.
    f 0 x (omega arith) (λ z. omega (arith, z)) i ∷ same_but xs ys last (omega (arith, e)) (λ k d p q. f (suc k) d (omega (arith, p)) (λ z. q (omega (arith, z)))) (λ d p. g d (omega (arith, p))) i

-- trees that are the same, by whatever default
pub same_in : (xs ys : List Tree) (i : ℕ) (d x y : Tree) → x ≡ get_or xs i x → y ≡ get_or ys i y → bare x ≡ bare y → i < length xs → i < length ys → bare (get_or xs i d) ≡ bare (get_or ys i d)
same_in xs ys i d x y p q e h k = grind (arith, common_steps)
