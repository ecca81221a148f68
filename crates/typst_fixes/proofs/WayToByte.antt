-- The nodes that hold a byte, each a child of the one before it.
use Rattle.typst_fixes.proofs.Cited.{◌≡◌, ℕ, true, false, List, [], ◌∷◌, Option, None, Some, refl, ap, sym, ◌∙◌, if◌then◌else◌, Forest, none, more, Tree, forest, trees, Standing, kid_at, path, within, inner, behind, range}
use Rattle.typst_names.specs.Selections.{holds}
use Rattle.typst_tree.proofs.SpansAside.{trees_forest}

-- a node, if there is one, and those within it that hold byte b
abbrev pub way : ℕ → Option Standing → List Standing
way b None = []
way b (Some n) = n ∷ within b n

way_of : (b a : ℕ) (f : Forest) → path b a f ≡ way b (kid_at b a f)
way_of b a none = refl
way_of b a (more h ks r) =
    let n : Standing = record { start = a; node = record { head = h; kids = ks } } in
    elim (holds b (range a h ks)) as (λ v. (if v then n ∷ path b (inner a h) ks else path b (behind a h ks) r) ≡ way b (if v then Some n else kid_at b (behind a h ks) r)) [
      | true ↦ refl
      | false ↦ way_of b (behind a h ks) r
    ]

-- the way goes on with the child that holds the byte
pub goes_on : (b : ℕ) (n : Standing) (kid : Option Standing) → kid ≡ kid_at b (inner n.start n.node.head) n.node.kids → way b kid ≡ within b n
goes_on b n kid is = ap (way b) is ∙ sym (way_of b (inner n.start n.node.head) n.node.kids)

-- the trees of a node's children
pub children : (ts : List Tree) (f : Forest) → forest ts ≡ f → ts ≡ trees f
children ts f is = sym (trees_forest ts) ∙ ap trees is
