-- The steps of a walk for tokens.
use Rattle.typst_styles.proofs.Cited.{◌≡◌, ℕ, ◌+◌, ◌-◌, ◌^◌, ◌<◌, ◌≤◌, List, [], ◌∷◌, ◌++◌, length, take, drop, Option, ap, sym, subst, ◌∙◌, arith, append-nil, append_assoc, Range, AreCounted, IsBoundary, Tree, forest, joined, text_of, trees, start_le, behind, AreRows, Below, IsFewer, IsRow, IsSpot, IsTop, IsWhole, Opens, Seeks, Skips, Takes, left_of, left_of_all, number, of_first, of_spot, row, steps_all, steps_left, all_tokens, touching, Token, Boundary, steps, Row, Spot}
use Rattle.typst_names.specs.declared.contexts.Context.TheVariants as context
use Rattle.typst_styles.proofs.SoughtRows.{GoesOn, below_is, below_left, left_from, left_pushed, number_after, on_is, on_places, rows_popped, rows_pushed, steps_pushed, top_is, top_tokens, whole_nodes, whole_places}
use Rattle.typst_styles.proofs.TokensTouching.{behind_others, node_ended, row_begun, row_from, touching_append}

-- ---- what a range doesn't touch

pub skipped : (range : Range ℕ) (text : List ℕ) (root : Tree) (w : Row) (t : Tree) (ts : List Tree) (later : List Token) → w.nodes.now ≡ t ∷ ts → behind w.start t.head t.kids ≤ range.start
    → touching range (of_first text root (number w) w.start w.around w.context w.nodes.now ++ later) ≡ touching range later
skipped range text root w t ts later e l = grind (arith, behind_others, node_ended)

-- what is left of a row, the first node of which is taken out or isn't there, is left of one that passed nodes before it
pub sought : (range : Range ℕ) (text : List ℕ) (root : Tree) (was w v : Row) (o : Option Spot) → touching range (left_of text root was) ≡ touching range (left_of text root w) → Takes root w o v → Seeks range text root was o v
sought range text root was w v o e t = grind arith

pub sought_fewer : (was w v : Row) (o : Option Spot) → steps_left w ≤ steps_left was → IsFewer w o v → IsFewer was o v
sought_fewer was w v o l less = grind arith

pub over : (range : Range ℕ) (text : List ℕ) (root : Tree) (w : Row) → range.end ≤ w.start → touching range (left_of text root w) ≡ []
over range text root w l = row_begun range text root (number w) w.start w.around w.context (forest w.nodes.now) l

-- what is touched of a part may be put for it
same_part : (range : Range ℕ) (before here there after_it : List Token) → touching range here ≡ touching range there → touching range (before ++ (here ++ after_it)) ≡ touching range (before ++ (there ++ after_it))
same_part range before here there after_it e = grind (arith, touching_append)

pub dropped : (range : Range ℕ) (found part rest : List Token) → touching range part ≡ [] → touching range (found ++ rest) ≡ touching range (found ++ (part ++ rest))
dropped range found part rest e = sym (same_part range found part [] rest e)

-- ---- a node is gone into

pub opened : (text : List ℕ) (root : Tree) (s : Spot) (w : Row) (old new : List Token) → IsSpot root s → Opens text s old new w → new ++ left_of text root w ≡ old ++ of_spot text root s
opened text root s w old new is k = grind (arith, below_left, append_assoc)

pub entered : (text : List ℕ) (root : Tree) (s : Spot) (w : Row) (old new : List Token) (rows pushed : List Row) → IsSpot root s → Opens text s old new w → pushed ≡ rows ++ w ∷ [] → new ++ left_of_all text root pushed ≡ old ++ (of_spot text root s ++ left_of_all text root rows)
entered text root s w old new rows pushed is k put =
    cc (put, left_pushed text root rows w, append_assoc new (left_of text root w) (left_of_all text root rows), opened text root s w old new is k, append_assoc old (of_spot text root s) (left_of_all text root rows))

pub entered_rows : (root : Tree) (s : Spot) (w : Row) (rows pushed : List Row) → IsSpot root s → Below s w → pushed ≡ rows ++ w ∷ [] → AreRows root rows → AreRows root pushed
entered_rows root s w rows pushed is k put are = subst (AreRows root) (sym put) (rows_pushed root rows w are (below_is root s w is k))

pub entered_steps : (s : Spot) (w : Row) (rows pushed : List Row) → Below s w → pushed ≡ rows ++ w ∷ [] → steps_all pushed ≡ 1 + steps s.node.node.now.kids + steps_all rows
entered_steps s w rows pushed k put = omega (arith, ap steps_all put, steps_pushed rows w, ap steps k.kids)

-- ---- a row goes on

pub taken : (range : Range ℕ) (text : List ℕ) (root : Tree) (w v : Row) (s : Spot) (found new : List Token) (rows pushed last : List Row)
    → touching range (left_of text root w) ≡ touching range (of_spot text root s ++ left_of text root v) → pushed ≡ rows ++ v ∷ []
    → new ++ left_of_all text root last ≡ found ++ (of_spot text root s ++ left_of_all text root pushed)
    → touching range (new ++ left_of_all text root last) ≡ touching range (found ++ (left_of text root w ++ left_of_all text root rows))
taken range text root w v s found new rows pushed last e put went = grind (arith, left_pushed, append_assoc, same_part)

pub popped_left : (text : List ℕ) (root : Tree) (found : List Token) (rows rest : List Row) (w : Row) → rows ≡ rest ++ w ∷ [] → found ++ left_of_all text root rows ≡ found ++ (left_of text root w ++ left_of_all text root rest)
popped_left text root found rows rest w e = ap (λ ts. found ++ ts) (ap (left_of_all text root) e ∙ left_pushed text root rest w)

pub popped_rows : (root : Tree) (rows rest : List Row) (w : Row) → rows ≡ rest ++ w ∷ [] → AreRows root rows → AreRows root rest × IsRow root w
popped_rows root rows rest w e are = rows_popped root rest w (subst (AreRows root) e are)

pub popped_steps : (rows rest : List Row) (w : Row) → rows ≡ rest ++ w ∷ [] → steps_all rows ≡ steps_left w + steps_all rest
popped_steps rows rest w e = ap steps_all e ∙ steps_pushed rest w

pub at_end : (range : Range ℕ) (text : List ℕ) (root : Tree) (found all : List Token) (rows : List Row) → rows ≡ [] → touching range (found ++ left_of_all text root rows) ≡ touching range all → touching range found ≡ touching range all
at_end range text root found all rows e so_far = cc (e, so_far, append-nil found)

-- ---- the walk begins

pub from_near : (range : Range ℕ) (text : List ℕ) (root : Tree) (b : Boundary) (w v : Row) → IsWhole root w → w.context ≡ context.Value → AreCounted root → IsBoundary root b → (0 < b.index → b.bytes ≤ range.start) → GoesOn root b w v
    → Skips range text root w v
from_near range text root b w v k plain counted is low g =
    let ts : List Tree = w.nodes.now in
    let kids : List Tree = trees root.kids in
    let i : ℕ = b.index in
    let a : ℕ = length root.head.text in
    let m : ℕ = number_after i w in
    let end : ℕ = a + length (joined (forest (take i ts))) in
    let same : kids ≡ ts = whole_nodes root w k in
    let bytes : b.bytes ≡ end = is.bytes ∙ ap (λ xs. a + length (joined (forest (take i xs)))) same in
    let most : a + length (joined (forest (take i kids))) ≤ length (text_of root) = start_le [] i root in
    let few : end ≤ 2 ^ 64 - 1 = omega (arith, counted.1, bytes, is.bytes, most) in
    let start : w.start ≡ a = omega (arith, k.start, few) in
    let all : left_of text root w ≡ row text root 1 a w.around context.Value (forest ts) = cc (left_from text root 1 w (whole_places root w k), start, plain) in
    let later : left_of text root v ≡ row text root m end w.around context.Value (forest (drop i ts)) = cc (left_from text root m v (on_places root b w v k g), g.start, bytes, g.still, g.role_in, plain, g.later) in
    (on_is root b w v k g, ap (touching range) later ∙ (sym (row_from range text root 1 a w.around i ts (λ some. omega (arith, bytes, low some)) few) ∙ ap (touching range) (sym all)))

pub begun : (range : Range ℕ) (text : List ℕ) (root : Tree) (s : Spot) (w v : Row) (old found : List Token) (were rows : List Row) → IsTop root s → Opens text s old found w → touching range (left_of text root v) ≡ touching range (left_of text root w) → old ≡ [] → rows ≡ were ++ v ∷ [] → were ≡ []
    → touching range (found ++ left_of_all text root rows) ≡ touching range (all_tokens text root)
begun range text root s w v old found were rows top k near none put empty =
    let one : rows ≡ v ∷ [] = put ∙ ap (λ ws. ws ++ v ∷ []) empty in
    let whole : found ++ left_of text root w ≡ all_tokens text root = opened text root s w old found (top_is root s top) k ∙ (ap (λ ts. ts ++ of_spot text root s) none ∙ top_tokens text root s top) in
    grind (arith, touching_append)

pub begun_rows : (root : Tree) (v : Row) (were rows : List Row) → IsRow root v → rows ≡ were ++ v ∷ [] → were ≡ [] → AreRows root rows
begun_rows root v were rows is put empty = subst (AreRows root) (sym (put ∙ ap (λ ws. ws ++ v ∷ []) empty)) (is, tt)
