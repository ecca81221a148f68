-- The last node among a node and those below it.
use Rattle.typst_flat.proofs.Cited.{◌≡◌, ◌+◌, ◌<◌, true, List, [], ◌∷◌, ◌++◌, ap, sym, ◌∙◌, arith, append_assoc, append-nil, Forest, Tree, count, forest, nodes, places, preorder, is_childless}

pub no_kids : (f : Forest) → is_childless f ≡ true → count f ≡ 0
no_kids f e = grind arith

preorder_last : (front : List Tree) (kid : Tree) → preorder (forest (front ++ kid ∷ [])) ≡ preorder (forest front) ++ places kid
preorder_last [] kid = ap (λ xs. kid ∷ xs) (append-nil (preorder kid.kids))
preorder_last (t ∷ front) kid =
    ap (λ xs. t ∷ (preorder t.kids ++ xs)) (preorder_last front kid)
    ∙ ap (λ xs. t ∷ xs) (sym (append_assoc (preorder t.kids) (preorder (forest front)) (places kid)))

-- the last child ends where the node does
pub ends_below : (node last kid : Tree) (init row front : List Tree) → places node ≡ init ++ places last → forest row ≡ last.kids → row ≡ front ++ kid ∷ [] → places node ≡ (init ++ last ∷ preorder (forest front)) ++ places kid
ends_below node last kid init row front e kids parts = grind (arith, parts, preorder_last, append_assoc)

count_last : (front : List Tree) (kid : Tree) → count (forest (front ++ kid ∷ [])) ≡ count (forest front) + nodes kid
count_last [] kid = omega arith
count_last (t ∷ front) kid = omega (arith, count_last front kid)

pub fewer_below : (last kid : Tree) (row front : List Tree) → forest row ≡ last.kids → row ≡ front ++ kid ∷ [] → nodes kid < nodes last
fewer_below last kid row front kids parts = grind (arith, parts, count_last)
