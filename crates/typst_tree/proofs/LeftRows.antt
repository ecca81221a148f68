-- What is left of a walk in preorder, row by row.
use Rattle.typst_tree.proofs.Cited.{common_steps, ◌≡◌, ℕ, ◌+◌, Bool, cond, true, false, ◌||◌, List, ◌∷◌, ◌++◌, length, map, refl, ap, sym, ◌∙◌, arith, append_assoc, append-nil, [], or_parts, map-append, filter-append, has_any, Forest, none, more, Tree, forest, places, preorder, saturated, text_of, have_diagnostics, Visited, row, walk, below, is_marked, marked, is_diagnosed, diagnosed, left, left_above, IsReady, IsAtMarked}
use Rattle.typst_tree.specs.declared.preorder.Row.{Row}

nodes_of_row : (o d : ℕ) (f : Forest) → map (λ (v : Visited). v.node) (row o d f) ≡ preorder f
nodes_of_row o d none = refl
nodes_of_row o d (more h ks r) =
    let t : Tree = record { head = h; kids = ks } in
    let kids = row (saturated (o + length h.text)) (saturated (d + 1)) ks in
    let rest = row (saturated (o + length (text_of t))) d r in
    ap (λ ts. t ∷ ts) (map-append (λ (v : Visited). v.node) kids rest
    ∙ rw (nodes_of_row (saturated (o + length h.text)) (saturated (d + 1)) ks, nodes_of_row (saturated (o + length (text_of t))) d r) refl)

-- a walk comes to the nodes in preorder
pub nodes_of_walk : (o : ℕ) (t : Tree) → map (λ (v : Visited). v.node) (walk o t) ≡ places t
nodes_of_walk o t = nodes_of_row o 0 (more t.head t.kids none) ∙ ap (λ ts. t ∷ ts) (append-nil (preorder t.kids))

row_of_none : (o d : ℕ) (ts : List Tree) → length ts ≡ 0 → row o d (forest ts) ≡ []
row_of_none o d ts e = grind (arith, common_steps)

-- nothing is left of a row that is passed
passed : (r : Row) → length r.trees.now ≡ 0 → left r ≡ []
passed r e = row_of_none r.offset r.depth r.trees.now e

-- the last of the rows above comes first
pub left_pushed : (rows : List Row) (r : Row) → left_above (rows ++ r ∷ []) ≡ left r ++ left_above rows
left_pushed [] r = sym (append-nil (left r))
left_pushed (x ∷ rows) r = ap (λ vs. vs ++ left x) (left_pushed rows r) ∙ append_assoc (left r) (left_above rows) (left x)

-- a row above takes the place of one that is passed
pub popped : (old new : List Row) (here next : Row) → length here.trees.now ≡ 0 → old ≡ new ++ next ∷ [] → left next ++ left_above new ≡ left here ++ left_above old
popped old new here next e f = rw (passed here e, f) (sym (left_pushed new next))

none_marked : (o d : ℕ) (f : Forest) → have_diagnostics f ≡ false → marked (row o d f) ≡ []
none_marked o d none e = refl
none_marked o d (more h ks r) e =
    let t : Tree = record { head = h; kids = ks } in
    let v : Visited = record { node = t; offset = o; depth = d } in
    let kids = row (saturated (o + length h.text)) (saturated (d + 1)) ks in
    let rest = row (saturated (o + length (text_of t))) d r in
    let p = or_parts (has_any h.diagnostics) (have_diagnostics ks || have_diagnostics r) e in
    let q = or_parts (have_diagnostics ks) (have_diagnostics r) p.1 in
    let clean : is_marked v ≡ false = λ i. p.0 i || q.0 i in
    ap (λ b. cond b (v ∷ marked (kids ++ rest)) (marked (kids ++ rest))) clean
    ∙ filter-append is_marked kids rest
    ∙ ap (λ vs. vs ++ marked rest) (none_marked (saturated (o + length h.text)) (saturated (d + 1)) ks q.0)
    ∙ none_marked (saturated (o + length (text_of t))) d r q.1

-- an unmarked tree is passed
pub passed_unmarked : (v : Visited) (here behind above : List Visited) → here ≡ v ∷ (below v ++ behind) → is_marked v ≡ false → marked (here ++ above) ≡ marked (behind ++ above)
passed_unmarked v here behind above h e = grind (arith, or_parts, append_assoc, cond, filter-append, none_marked)

-- none is left where the row of the next node is passed
pub at_end : (here : Row) (above : List Row) → IsReady here above → length here.trees.now ≡ 0 → IsAtMarked (left here ++ left_above above)
at_end here above r e = grind (arith, common_steps)

with_one : (v : Visited) (vs : List Visited) (a b : Bool) → has_any v.node.head.diagnostics ≡ a → have_diagnostics v.node.kids ≡ b → diagnosed (marked vs) ≡ diagnosed vs → diagnosed (marked (v ∷ vs)) ≡ diagnosed (v ∷ vs)
with_one v vs true b own kids later = cc
with_one v vs false true own kids later = cc
with_one v vs false false own kids later = cc

-- a node that has a diagnostic itself is marked
diagnosed_marked : (vs : List Visited) → diagnosed (marked vs) ≡ diagnosed vs
diagnosed_marked [] = refl
diagnosed_marked (v ∷ vs) = with_one v vs (has_any v.node.head.diagnostics) (have_diagnostics v.node.kids) refl refl (diagnosed_marked vs)

-- where the same marked nodes are left, the same have diagnostics themselves
pub diagnosed_same : (old new : List Visited) → marked old ≡ marked new → diagnosed old ≡ diagnosed new
diagnosed_same old new e = sym (diagnosed_marked old) ∙ ap diagnosed e ∙ diagnosed_marked new

-- and after the next marked node
pub diagnosed_next : (old : List Visited) (v : Visited) (new : List Visited) → marked old ≡ v ∷ marked new → diagnosed old ≡ cond (is_diagnosed v) (v ∷ diagnosed new) (diagnosed new)
diagnosed_next old v new e = sym (diagnosed_marked old) ∙ ap diagnosed e ∙ ap (λ ws. cond (is_diagnosed v) (v ∷ ws) ws) (diagnosed_marked new)
