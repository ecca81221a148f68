-- A place between the root's children, before the first that an edit changes, stays one.
use Rattle.typst_parser.proofs.Cited.{◌≡◌, ℕ, suc, ◌≤◌, ◌<◌, true, false, List, [], ◌∷◌, ◌++◌, length, map, take, drop, Some, ap, sym, ◌∙◌, arith, set, set_split, slice_get_within, Tree, bare, trees, IsBoundary, Reaches, kids_of, replaced_at, below, inside, swapped_bare, trees_forest, IsRootEdge, LeadsBy, StandsIn, begins-at, at_path, first_changed, ◌==◌}
use Rattle.typst_tree.specs.declared.boundary.Boundary.{Boundary}
use Rattle.typst_tree.proofs.Boundaries.{shared}
use Rattle.typst_candidates.specs.declared.candidate.Candidate as code
use Rattle.typst_candidates.specs.declared.children.Edge.{Edge}

-- by its index and its byte it is one of those from which candidates are looked for
pub root-edge : (root : Tree) (b : Boundary) → IsBoundary root b → IsRootEdge root (record { index = b.index; byte = b.bytes })
root-edge root b is = record { within = is.within; byte = is.bytes ∙ sym (begins-at (length root.head.text) (trees root.kids) b.index) }

-- ---- children that give way to others

-- the first of them is one of the root's children, or comes after all
pub changed-within : (was : Tree) (path : List ℕ) (d : code.Candidate) (step : Edge) → StandsIn was (at_path path d) → IsRootEdge was step → first_changed path d step.index ≤ length (trees was.kids)
changed-within was path d step stands edge = grind arith

-- what is before them, at the root itself or below one of its children, is before the others
pub boundary-kept : (was now : Tree) (path : List ℕ) (d : code.Candidate) (ts : List Tree) (step : ℕ) (b : Boundary) → StandsIn was (at_path path d) → replaced_at path d.from d.to ts was ≡ Some now → LeadsBy step path → b.index ≤ first_changed path d step → IsBoundary was b → IsBoundary now b
boundary-kept was now [] d ts step b stands put way low is =
    let xs : List Tree = kids_of was in
    let r : Reaches [] d.from d.to was = stands.reaches in
    let i = inside was now d.from d.to ts put in
    let own : length was.head.text ≡ length now.head.text = ap (λ (t : Tree). length t.head.text) i.is in
    let kids : kids_of now ≡ i.kids = sym (ap (λ (t : Tree). kids_of t) i.is) ∙ trees_forest i.kids in
    let within : d.from ≤ length xs = omega (arith, r.1, r.2) in
    shared was now d.from (ts ++ drop d.to xs) b own within (ap (map bare) kids ∙ swapped_bare i.file was.head xs d.from d.to ts i.kids r.1 r.2 i.swaps) low is
boundary-kept was now (i ∷ path) d ts step b stands put way low is =
    let xs : List Tree = kids_of was in
    let k = below path i d.from d.to ts was now stands.reaches put in
    let within : i < length xs = slice_get_within xs i k.kid k.found in
    let own : length was.head.text ≡ length now.head.text = sym (ap (λ (t : Tree). length t.head.text) k.is) in
    let kids : kids_of now ≡ take i xs ++ (k.kid' ∷ drop (suc i) xs) = ap (λ (t : Tree). kids_of t) k.is ∙ (trees_forest (set xs i k.kid') ∙ set_split xs i k.kid' within) in
    let same : i ≡ step = way in
    shared was now i (k.kid' ∷ drop (suc i) xs) b own (omega (arith, within)) (ap (map bare) kids) (omega (arith, same, low)) is

-- ---- a path

-- as much as there is of it still leads to the same child
pub leads-fewer : (i n : ℕ) (path : List ℕ) → LeadsBy i path → LeadsBy i (take n path)
leads-fewer i n path way = grind arith

-- it is empty, or has steps
pub at-root : (path : List ℕ) (d : code.Candidate) (step : ℕ) → (length path == 0) ≡ true → d.from ≡ first_changed path d step
at-root path d step h = grind arith

pub below-root : (path : List ℕ) (d : code.Candidate) (step : ℕ) → (length path == 0) ≡ false → step ≡ first_changed path d step
below-root path d step some = grind arith
