-- What a node's children add up to after some of them made way for others.
use Rattle.typst_tree.proofs.Cited.{◌≡◌, ℕ, suc, ◌+◌, ◌-◌, ◌^◌, ◌<◌, ◌≤◌, List, ◌∷◌, ◌++◌, length, map, take, drop, get_or, Some, ap, sym, ◌∙◌, arith, length-append, append-nil, [], slice_range, set, take-append-drop, set_split, set-get_or, drop_split, Head, Own, kept, Tree, forest, joined, count, saturated, text_of, nodes, bare, bare_forest, IsWholeForest, kids_of, swapped, Counts}
use Rattle.typst_tree.proofs.SpansAside.{over, trees_forest, forest_bare}
use Rattle.typst_tree.proofs.Numbering.{count_bare, joined_bare}
use Rattle.typst_tree.proofs.Stretches.{count-append}
use Rattle.typst_tree.proofs.ChildlessLeaves.{whole_same, whole_left, whole_right, whole_join}
use Rattle.typst_tree.proofs.ReplacesChildren.{joined-append, swapped_bare}

-- ys is xs with the children come in place of gone, spans aside
pub record Moved (xs ys gone come : List Tree) : Type 0 where
  pub long : length (joined (forest ys)) + length (joined (forest gone)) ≡ length (joined (forest xs)) + length (joined (forest come))
  pub many : count (forest ys) + count (forest gone) ≡ count (forest xs) + count (forest come)
  pub shorter : length (joined (forest gone)) ≤ length (joined (forest xs))
  pub fewer : count (forest gone) ≤ count (forest xs)
  pub whole : IsWholeForest (forest xs) → IsWholeForest (forest come) → IsWholeForest (forest ys)

-- the text of three stretches of children is as long as theirs together
three_long : (a b c : List Tree) → length (joined (forest (a ++ (b ++ c)))) ≡ length (joined (forest a)) + length (joined (forest b)) + length (joined (forest c))
three_long a b c = grind (arith, joined-append, length-append)

-- three stretches of children have as many nodes as they have together
three_many : (a b c : List Tree) → count (forest (a ++ (b ++ c))) ≡ count (forest a) + count (forest b) + count (forest c)
three_many a b c = omega (arith, count-append a (b ++ c), count-append b c)

-- a stretch of children made way for another
pub moved : (a b c d xs ys : List Tree) → xs ≡ a ++ (b ++ d) → map bare ys ≡ map bare (a ++ (c ++ d)) → Moved xs ys b c
moved a b c d xs ys e f =
    let same : bare_forest (forest ys) ≡ bare_forest (forest (a ++ (c ++ d))) = sym (forest_bare ys) ∙ (ap forest f ∙ forest_bare (a ++ (c ++ d))) in
    grind (arith, joined_bare, count_bare, three_long, three_many, whole_same, whole_join, whole_left, whole_right)

-- children replaced
pub swapped_moved : (t : Tree) (file : ℕ) (h : Head) (xs : List Tree) (from to : ℕ) (new ys : List Tree) → over h xs ≡ t → from ≤ to → to ≤ length (kids_of t) → swapped file h xs from to (slice_range xs from to) new ≡ Some ys → Moved xs ys (slice_range xs from to) new
swapped_moved t file h xs from to new ys view order within e =
    let ends : to ≤ length xs = rw (← view, trees_forest) at within in
    moved (take from xs) (slice_range xs from to) new (drop to xs) xs ys (sym (take-append-drop from xs) ∙ ap (λ zs. take from xs ++ zs) (drop_split xs from to order)) (swapped_bare file h xs from to new ys order ends e)

-- one child changed
pub set_moved : (xs : List Tree) (i : ℕ) (x y : Tree) → i < length xs → x ≡ get_or xs i x → Moved xs (set xs i y) (x ∷ []) (y ∷ [])
set_moved xs i x y h e =
    moved (take i xs) (x ∷ []) (y ∷ []) (drop (suc i) xs) xs (set xs i y) (sym (ap (set xs i) e ∙ set-get_or xs i x) ∙ set_split xs i x h) (ap (map bare) (set_split xs i y h))

-- what `recount` requires: the counts that the node keeps, where they are exact, say those with the children ys
pub record Recounted (o : Own) (ys : List Tree) (gone come : Counts) : Type 0 where
  pub shorter : o.len < 2 ^ 32 - 1 → gone.len ≤ o.len
  pub fewer : o.descendants < 2 ^ 32 - 1 → gone.nodes ≤ o.descendants
  pub len : o.len < 2 ^ 32 - 1 → kept (o.len - gone.len + come.len) ≡ kept (length (o.head.text ++ joined (forest ys)))
  pub nodes : o.descendants < 2 ^ 32 - 1 → kept (o.descendants - gone.nodes + come.nodes) ≡ kept (1 + count (forest ys))

-- what a loop over trees adds up
pub record Totals (ts : List Tree) (n : Counts) : Type 0 where
  pub len : n.len ≡ saturated (length (joined (forest ts)))
  pub nodes : n.nodes ≡ saturated (count (forest ts))

-- what one tree comes to
pub one_total : (t : Tree) (n : Counts) → n.len ≡ saturated (length (text_of t)) → n.nodes ≡ saturated (nodes t) → Totals (t ∷ []) n
one_total t n l d = grind (arith, append-nil)

-- the counts after children moved follow from what went and what came
pub recounted : (o : Own) (xs ys old new : List Tree) (gone come : Counts) → Moved xs ys old new → o.len ≡ kept (length (o.head.text ++ joined (forest xs))) → o.descendants ≡ kept (1 + count (forest xs)) → Totals old gone → Totals new come → Recounted o ys gone come
recounted o xs ys old new gone come m l d g c = grind (arith, length-append)
