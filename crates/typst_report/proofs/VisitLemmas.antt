-- What is reported and printed of the nodes that a walk in preorder visits.
use Rattle.typst_report.proofs.Cited.{◌≡◌, ℕ, ◌+◌, List, [], ◌∷◌, ◌++◌, length, refl, sym, ap, ◌∙◌, append_assoc, arith, Forest, none, more, Tree, joined, saturated, text_of, line, Reported, reported, reported_in, reported_of}
use Rattle.typst_kinds.specs.Diagnostic.{Diagnostic}
use Rattle.typst_tree.specs.Preorder.{Visited, row, walk, diagnosed}
use Rattle.typst_report.specs.TreeLines.{end_of, node, node_lines, tree_lines}

module _ {A : Type 0} (of : Visited → List A) where
  -- what each visit gives, one after the other
  abbrev pub each : List Visited → List A
  each [] = []
  each (v ∷ vs) = of v ++ each vs

  pub each_append : (us vs : List Visited) → each (us ++ vs) ≡ each us ++ each vs
  each_append [] vs = refl
  each_append (u ∷ us) vs = ap (λ xs. of u ++ xs) (each_append us vs) ∙ sym (append_assoc (of u) (each us) (each vs))

-- the errors and warnings of a node that was come to
abbrev pub reported_at : Visited → List Reported
reported_at v = reported_of v.offset (saturated (v.offset + length (text_of v.node))) v.node.head.diagnostics

reported_row : (o d : ℕ) (f : Forest) → each reported_at (row o d f) ≡ reported_in o f
reported_row o d none = refl
reported_row o d (more h ks r) =
    let end : ℕ = saturated (o + length (h.text ++ joined ks)) in
    let own : List Reported = reported_of o end h.diagnostics in
    ap (λ xs. own ++ xs)
    (each_append reported_at (row (saturated (o + length h.text)) (saturated (d + 1)) ks) (row end d r)
    ∙ rw (reported_row (saturated (o + length h.text)) (saturated (d + 1)) ks, reported_row end d r) refl)

-- a walk reports what is reported of the tree
pub reported_walk : (t : Tree) → each reported_at (walk 0 t) ≡ reported t
reported_walk t = reported_row 0 0 (more t.head t.kids none)

-- of one more node that was come to
with_one : (v : Visited) (vs : List Visited) (ds : List Diagnostic) → v.node.head.diagnostics ≡ ds → each reported_at (diagnosed vs) ≡ each reported_at vs
    → each reported_at (diagnosed (v ∷ vs)) ≡ each reported_at (v ∷ vs)
with_one v vs ds clean later = grind arith

-- nodes without errors and warnings report none
pub reported_diagnosed : (vs : List Visited) → each reported_at (diagnosed vs) ≡ each reported_at vs
reported_diagnosed [] = refl
reported_diagnosed (v ∷ vs) = with_one v vs v.node.head.diagnostics refl (reported_diagnosed vs)

-- the line of a node that was come to
abbrev pub line_at : Visited → List ℕ
line_at v = line (node v.depth v.offset (end_of v.offset v.node.head v.node.kids) v.node.head)

lines_row : (o d : ℕ) (f : Forest) → each line_at (row o d f) ≡ node_lines d o f
lines_row o d none = refl
lines_row o d (more h ks r) =
    let end : ℕ = end_of o h ks in
    let own : List ℕ = line (node d o end h) in
    ap (λ xs. own ++ xs)
    (each_append line_at (row (saturated (o + length h.text)) (saturated (d + 1)) ks) (row end d r)
    ∙ rw (lines_row (saturated (o + length h.text)) (saturated (d + 1)) ks, lines_row end d r) refl)

-- a walk prints the lines of the tree
pub lines_walk : (t : Tree) → each line_at (walk 0 t) ≡ tree_lines t
lines_walk t = lines_row 0 0 (more t.head t.kids none)
