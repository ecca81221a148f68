-- The byte at which the children begin of the node at the end of a path, in a tree with a hole there; spans aside it is the same.
use Rattle.typst_edits.proofs.Cited.{◌≡◌, ℕ, zero, suc, ◌+◌, List, [], ◌∷◌, ◌++◌, length, take, length-append, Option, Some, refl, ap, sym, ◌∙◌, arith, slice_get, option_map, take-append_seam, inner_head, Tree, Forest, none, more, forest, trees, bare, bare_forest, inner_of, start_at, or_none, texts, Deep, fill, path_in, Hole, plug, path_of, under}
use Rattle.typst_tree.specs.Tree.{joined}
use Rattle.typst_edits.specs.Hole.Deep.{bare as alone}
use Rattle.typst_kinds.specs.declared.kind.SyntaxKind.TheVariants as kind
use Rattle.typst_tree.proofs.Numbering.{joined_bare as joined-bare}
use Rattle.typst_edits.proofs.Edit.{trees-of}
use Rattle.typst_edits.proofs.RunCandidates.{joined-trees}
use Rattle.typst_edits.proofs.Walk.{deep_text, left_text}

-- ---- spans aside

taken-bare : (i : ℕ) (f : Forest) → joined (forest (take i (trees (bare_forest f)))) ≡ joined (forest (take i (trees f)))
taken-bare zero f = refl
taken-bare (suc i) none = refl
taken-bare (suc i) (more h ks r) = let a = joined-bare ks in let b = taken-bare i r in (λ j. h.text ++ (a j ++ b j))

got-bare : (i : ℕ) (f : Forest) → slice_get (trees (bare_forest f)) i ≡ option_map bare (slice_get (trees f) i)
got-bare i none = refl
got-bare zero (more h ks r) = refl
got-bare (suc i) (more h ks r) = got-bare i r

or-bare : (f : Tree → ℕ) → ((t : Tree) → f (bare t) ≡ f t) → (o : Option Tree) → or_none f (option_map bare o) ≡ or_none f o
or-bare f h o = grind arith

start-bare : (path : List ℕ) (i : ℕ) (t : Tree) → start_at path i (bare t) ≡ start_at path i t
start-bare [] i t = ap (λ xs. length t.head.text + length xs) (taken-bare i t.kids)
start-bare (j ∷ path) i t =
    let b : or_none (start_at path i) (slice_get (trees (bare_forest t.kids)) j) ≡ or_none (start_at path i) (slice_get (trees t.kids) j) =
    ap (or_none (start_at path i)) (got-bare j t.kids) ∙ or-bare (start_at path i) (λ u. start-bare path i u) (slice_get (trees t.kids) j) in
    (λ n. (length t.head.text + length (taken-bare j t.kids n)) + b n)

pub start-same : (path : List ℕ) (i : ℕ) (t u : Tree) → bare t ≡ bare u → start_at path i t ≡ start_at path i u
start-same path i t u e = sym (start-bare path i t) ∙ ap (start_at path i) e ∙ start-bare path i u

-- ---- in a hole

got-behind : (xs : List Tree) (y : Tree) (ys : List Tree) → slice_get (xs ++ y ∷ ys) (length xs) ≡ Some y
got-behind [] y ys = refl
got-behind (x ∷ xs) y ys = got-behind xs y ys

start-fill : (d : Deep) (x : Tree) → start_at (path_in d) 0 (fill d x) ≡ length (deep_text d) + length x.head.text
start-fill alone x = omega arith
start-fill (under head left d right) x =
    let ts = left ++ fill d x ∷ right in
    let before : joined (forest (take (length left) (trees (forest ts)))) ≡ texts left =
    ap (λ us. joined (forest (take (length left) us))) (trees-of ts) ∙ ap (λ us. joined (forest us)) (take-append_seam left (fill d x ∷ right)) ∙ joined-trees (forest left) ∙ ap texts (trees-of left) in
    let there : or_none (start_at (path_in d) 0) (slice_get (trees (forest ts)) (length left)) ≡ start_at (path_in d) 0 (fill d x) =
    ap (λ us. or_none (start_at (path_in d) 0) (slice_get us (length left))) (trees-of ts) ∙ ap (or_none (start_at (path_in d) 0)) (got-behind left (fill d x) right) in
    omega (arith, there, start-fill d x, ap length before, length-append head.text (texts left ++ deep_text d), length-append (texts left) (deep_text d))

-- of a text's tree
pub start-plug : (h : Hole) (x : Tree) → start_at (path_of h) 0 (inner_of kind.Markup (forest (plug h x))) ≡ length (left_text h) + length x.head.text
start-plug h x = start-fill (under (inner_head kind.Markup) h.left h.deep h.right) x
