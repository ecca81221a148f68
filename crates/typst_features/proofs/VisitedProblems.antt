-- The problems of a tree, by the nodes that a walk comes to.
use Rattle.typst_features.proofs.Cited.{◌≡◌, ℕ, ◌+◌, List, [], ◌∷◌, ◌++◌, length, refl, ap, ◌∙◌, append-nil, arith, Forest, none, more, Tree, joined, saturated, text_of, Visited, walk, diagnosed, inner, behind, flat_map-append, flat_map, Diagnostic}
use Rattle.typst_tree.specs.Preorder as visits
use Rattle.typst_features.specs.Problems.{Reported, own, row, node}

-- what is reported of a node that a walk comes to
abbrev pub own_of : Visited → List Reported
own_of v = own v.offset (length (text_of v.node)) v.node.head.diagnostics

of_row : (o d : ℕ) (f : Forest) → flat_map own_of (visits.row o d f) ≡ row o f
of_row o d none = refl
of_row o d (more h ks r) =
    let below = visits.row (inner o h) (saturated (d + 1)) ks in
    let rest = visits.row (behind o h ks) d r in
    let kids : flat_map own_of below ≡ row (inner o h) ks = of_row (inner o h) (saturated (d + 1)) ks in
    let later : flat_map own_of rest ≡ row (behind o h ks) r = of_row (behind o h ks) d r in
    let parts : flat_map own_of (below ++ rest) ≡ row (inner o h) ks ++ row (behind o h ks) r = flat_map-append own_of below rest ∙ rw (kids, later) refl in
    ap (λ rs. own o (length (h.text ++ joined ks)) h.diagnostics ++ rs) parts

-- those of the nodes that a walk through a tree comes to are the tree's
pub of_walk : (t : Tree) → flat_map own_of (walk 0 t) ≡ node 0 t
of_walk t = grind (arith, of_row, append-nil)

-- of one more node that a walk comes to
with_one : (v : Visited) (vs : List Visited) (ds : List Diagnostic) → v.node.head.diagnostics ≡ ds → flat_map own_of (diagnosed vs) ≡ flat_map own_of vs
    → flat_map own_of (diagnosed (v ∷ vs)) ≡ flat_map own_of (v ∷ vs)
with_one v vs ds clean later = grind arith

-- nodes without errors and warnings have none that are reported
pub of_diagnosed : (vs : List Visited) → flat_map own_of (diagnosed vs) ≡ flat_map own_of vs
of_diagnosed [] = refl
of_diagnosed (v ∷ vs) = with_one v vs v.node.head.diagnostics refl (of_diagnosed vs)
