-- Each candidate that passes is worth its new nodes and entries: a block, pieces of a text's own run, and pieces of a content block.
use Rattle.typst_edits.proofs.Cited.{◌≡◌, ℕ, zero, suc, ◌+◌, ◌≤◌, List, [], ◌∷◌, ◌++◌, length, refl, ap, sym, ◌∙◌, subst, arith, Bool, true, false, IsTrue, length-append, take, Option, Tree, forest, trees, inner_of, Forest, none, more, bare, Reaches, put_at, trees_forest, CharClasses, moved, position, width, Candidate, is_among, begins, laid, first_near, run_in, candidates_at, tree, parsed, max_depth, log, block_log, with_children, exchanged, Among, alter, replaced, Passes, put, path_of, blocks_of_text, notes_in, entries_from, token_start, Spot, last_node, unit_at, is_over, Agrees, top, PassesPieces, of_block, of_pieces, text_run, root_run, StandsAt, BeginsWell, end_note, pieces_log, asks_of, piece_at, lead, Note, Trivia, gap_of, top_cuts, candidates, Every, listed, true_from_ne_false, block_run, token_after, Worth, CandidateLaw, TextReplacement, text_before, text_after, start_before, start_after, candidates_between, first_of, first_end, then_of, then_end}
use Rattle.typst_edits.specs.Frame.{inner}
use Rattle.typst_edits.specs.BlockWorth.{BlockWorthLaw}
use Rattle.typst_edits.proofs.RunSplice.{block-splice-law, run-splice-law, around-splice-law}
use Rattle.typst_edits.proofs.Replaced.{put-law}
use Rattle.typst_edits.proofs.Text.{block-law}
use Rattle.typst_edits.specs.RootWorth.{RootWorthLaw}
use Rattle.typst_edits.proofs.RunPieces.{joins-of, pieces-law, take-past}
use Rattle.typst_edits.specs.InnerWorth.{InnerWorthLaw}
use Rattle.typst_edits.proofs.CandidatePlaces.{bare-candidates-law, candidate-places-law}
use Rattle.typst_edits.proofs.CandidateEnds.{stretch, to-cut}
use Rattle.typst_edits.proofs.Children.{alter-there}
use Rattle.typst_edits.proofs.Cuts.{tokens-rise}
use Rattle.typst_edits.proofs.Edit.{among}
use Rattle.typst_edits.proofs.Every.{every-by}
use Rattle.typst_edits.proofs.RunCandidates.{begins-well-law, cuts-of-text, of-the-root}
use Rattle.typst_edits.proofs.MarkupCandidates.{Own, node-every, run-own}
use Rattle.typst_edits.proofs.NumberedNotes.{go-fewer}
use Rattle.typst_edits.proofs.RunTrees.{tree-is}
use Rattle.typst_edits.proofs.Widths.{width-append}
use Rattle.typst_kinds.specs.declared.kind.SyntaxKind.TheVariants as kind
use Rattle.typst_candidates.specs.Candidates as candidate

-- ---- a block that passes the test is worth its new node and its entries

-- one of several nodes exchanged
alter-one : (x : Tree) (i : ℕ) (ts : List Tree) → suc i ≤ length ts → alter i (put [] x) ts ≡ exchanged i (suc i) (x ∷ []) ts
alter-one x i [] e = absurd (omega (arith, e))
alter-one x zero (t ∷ ts) e = refl
alter-one x (suc i) (t ∷ ts) e = ap (λ us. t ∷ us) (alter-one x i ts (omega (arith, e)))

-- the node at the end of a path is one child exchanged
put-one : (path : List ℕ) (from : ℕ) (x t : Tree) → Reaches path from (suc from) t → put (path ++ from ∷ []) x t ≡ with_children path from (suc from) (x ∷ []) t
put-one [] from x t e = ap (λ ts. record { head = t.head; kids = forest ts }) (alter-one x from (trees t.kids) e.2)
put-one (n ∷ path) from x t e =
    ap (λ ts. record { head = t.head; kids = forest ts })
    (alter-there (Reaches path from (suc from)) (put (path ++ from ∷ []) x) (with_children path from (suc from) (x ∷ [])) n (trees t.kids) (put-one path from x) e)

-- in the node of a whole text
replaced-one : (path : List ℕ) (from : ℕ) (x : Tree) (ts : List Tree) → inner_of kind.Markup (forest (replaced (path ++ from ∷ []) x ts)) ≡ put (path ++ from ∷ []) x (inner_of kind.Markup (forest ts))
replaced-one [] from x ts = ap (λ us. inner_of kind.Markup (forest (alter from (put [] x) us))) (sym (trees_forest ts))
replaced-one (n ∷ path) from x ts = ap (λ us. inner_of kind.Markup (forest (alter n (put (path ++ from ∷ []) x) us))) (sym (trees_forest ts))

-- The tree of the new text, whatever its length.
pub block-tree : (k : CharClasses) (edit : TextReplacement) (c : Candidate) (s : Spot (Unit {0})) (past : ℕ) → Among s (blocks_of_text k (text_before edit))
    → path_of s.hole ≡ c.path ++ c.from ∷ [] → c.to ≡ suc c.from → Reaches c.path c.from c.to (tree k (text_before edit)) → Passes edit s past
    → tree k (text_after edit) ≡ put_at c.path c.from c.to (last_node (unit_at s (start_after edit)).nodes ∷ []) (tree k (text_before edit))
unfolding tree
block-tree k edit c s past among at one reaches passes =
    let kept = block-law k edit s past among passes in
    let x = last_node (unit_at s (start_after edit)).nodes in
    let nodes = (parsed k max_depth (text_before edit)).nodes in
    let there : Reaches c.path c.from (suc c.from) (tree k (text_before edit)) = subst (λ j. Reaches c.path c.from j (tree k (text_before edit))) one reaches in
    kept.tree ∙ ap (λ p. inner_of kind.Markup (forest (replaced p x nodes))) at ∙ replaced-one c.path c.from x nodes ∙ put-one c.path c.from x (tree k (text_before edit)) there
    ∙ ap (λ j. with_children c.path c.from j (x ∷ []) (tree k (text_before edit))) (sym one) ∙ sym (put-law c.path c.from c.to (x ∷ []) (tree k (text_before edit)))

pub block-worth-law : BlockWorthLaw
block-worth-law k edit c s past among at one reaches passes short short-now =
    let spliced = block-splice-law k edit s past among passes short short-now in
    record {
      is_tree = block-tree k edit c s past among at one reaches passes;
      from = spliced.opens;
      to = suc (spliced.opens + notes_in (unit_at s (start_before edit)).asks);
      part = entries_from (position (moved s.at (start_after edit))) (block_log (text_after edit) s (unit_at s (start_after edit))).notes;
      units = spliced.units;
    }

-- ---- pieces of a run are worth reading: at the root and in a content block

-- If no piece is read in their place, the run ends after the old pieces.
over-by : (k : CharClasses) (text : List ℕ) (b : Bool) (i m : ℕ) (x y : Bool × ℕ) → Agrees (root_run k text) b m x y → i + m ≡ 0 → b ≡ true
over-by k text true i m x y a e = refl
over-by k text false i m x y a e = absurd (omega (arith, a.0, e))

pub root-worth-law : RootWorthLaw
root-worth-law k edit c i n m past t u path start led end h well over big big_new =
    let own = root_run k (text_before edit) in
    let z = start_before edit in
    let w = start_after edit in
    let from = notes_in (asks_of (first_of i (text_run k z))) in
    record {
      is_tree = pieces-law k edit top c i n m past t u tt path start led end h well;
      from = from;
      to = from + notes_in (asks_of (then_of i n (text_run k z)));
      part = entries_from (token_start w (end_note own i w)) (pieces_log own i m w).notes;
      units = run-splice-law k edit own i n m past t u (joins-of k edit top i n m past t u tt h well.goes_on) over
          (over-by k (text_before edit) (is_over i n (text_run k z)) i m (then_end i n (text_run k z)).value (then_end i m (text_run k w)).value h.agrees) big big_new;
    }

pub inner-worth-law : InnerWorthLaw
inner-worth-law k levels edit s among name level c i n m past t u around path start led end h well big big_new =
    let w = start_after edit in
    let own = block_run s levels among name level in
    let joint = joins-of k edit own i n m past t u around h well.goes_on in
    let whole = around-splice-law k levels edit s among name level i n m past t u joint big big_new in
    record {
      is_tree = pieces-law k edit own c i n m past t u around path start led end h well;
      from = whole.opens;
      to = suc (whole.opens + notes_in (unit_at s (start_before edit)).asks);
      part = entries_from (position (moved s.at w)) (block_log (text_after edit) s (unit_at s w)).notes;
      units = whole.units;
    }

-- ---- a block

-- A candidate that is a block is one child.
abbrev One : Candidate → Type 0
One c = c.is_block ≡ true → c.to ≡ suc c.from

module _ (ns : List Note) (rs re : ℕ) where
  all-one : (path : List ℕ) (run : Option (List ℕ)) (index at : ℕ) (f : Forest) → Every One (candidates_at ns rs re path run index at f)
  unfolding candidates_at
  all-one path run index at none = tt
  all-one path run (suc index) at (more h ks r) = all-one path run index _ r
  all-one path run zero at (more h ks r) =
      node-every ns rs re One path run at h ks r
      (λ c e on. (let i = first_near rs (laid (at + length h.text) (trees ks)) in all-one (path ++ i ∷ []) (run_in ns at h.kind c.node.head.kind) i (at + length h.text) ks))
      (λ c e on one is. refl)
      (every-by {Q = One} (λ c (o : Own path c) is. absurd (let no = sym is ∙ o.pieces in cc)) _ (run-own rs re path (at + length h.text) (trees ks) run))

pub one-child : (k : CharClasses) (text : List ℕ) (rs re : ℕ) (root : Tree) (c : Candidate) → Among c (candidates_between k text rs re root) → One c
one-child k text rs re root c chosen = among One c _ chosen (all-one (listed (log k text).notes) rs re [] (top_cuts (listed (log k text).notes)) 0 0 (forest (root ∷ [])))

-- a text's tree is an inner node
pub tree-inner : (k : CharClasses) (text : List ℕ) → IsTrue (tree k text).head.is_inner
tree-inner k text = subst (λ (t : Tree). IsTrue t.head.is_inner) (sym (tree-is k text 0 0 tt tt)) refl

pub reached : (k : CharClasses) (text : List ℕ) (rs re : ℕ) (root : Tree) (c : Candidate) → rs ≤ re → bare root ≡ bare (tree k text) → Among c (candidates_between k text rs re root) → Reaches c.path c.from c.to (tree k text)
reached k text rs re root c order same chosen =
    let was = tree k text in
    let ns = listed (log k text).notes in
    let there : Among c (candidate.candidates ns rs re was) = subst (λ cs. Among c cs) (bare-candidates-law ns rs re root was same) chosen in
    (among _ c _ there (candidate-places-law ns rs re was (tree-inner k text) order)).reaches

-- The replaced bytes end where they begin, or later.
pub in-order : (front old : List ℕ) → width front ≤ width (front ++ old)
in-order front old = let w = width-append front old in omega (arith, w)

-- ---- pieces of a text's own run

-- Where none are read at the start of a text, no child stands after them; the child where a candidate ends begins after a piece.
no-piece : (k : CharClasses) (edit : TextReplacement) (root : Tree) (c : Candidate) (m past : ℕ) (t u : Trivia) → bare root ≡ bare (tree k (text_before edit))
    → Among c (candidates k edit root) → c.is_block ≡ false → c.path ≡ [] → c.end ≡ width (edit.front ++ (edit.old ++ take past edit.rest))
    → PassesPieces k edit (root_run k (text_before edit)) 0 0 m past t u → StandsAt 0 (trees (tree k (text_before edit)).kids) c.to c.end → ⊥
no-piece k edit root c m past t u same chosen pieces path end h there =
    let text = text_before edit in
    let z = start_before edit in
    let kids = trees (tree k text).kids in
    let cuts = cuts-of-text k text in
    let o = of-the-root k text (width edit.front) (width (edit.front ++ edit.old)) root c cuts same chosen pieces path in
    let order = in-order edit.front edit.old in
    let own = cuts.own in
    let s = stretch own.cuts 0 kids (width edit.front) (width (edit.front ++ edit.old)) o.more order in
    let to : c.to ≡ s.to = ap (λ (d : Candidate). d.to) o.is in
    let ends_is : c.end ≡ begins 0 kids s.to = ap (λ (d : Candidate). d.end) o.is in
    let cut = to-cut own.cuts 0 kids (width edit.front) (width (edit.front ++ edit.old)) o.more order (omega (arith, to, ap length there.is, length-append there.left (there.node ∷ there.right), there.here)) in
    let b = own.each c.end (subst (λ b. is_among b own.cuts ≡ true) (sym ends_is) cut) in
    let go = go-fewer (piece_at k) b.index own.count (true, 0) z (lead k z).state b.few own.go in
    let e = first_end 0 (text_run k z) in
    let byte : c.end ≡ token_after (root_run k text) 0 = end ∙ sym (ap width (take-past edit.front edit.old edit.rest past (0 + (e.taken + gap_of e.state.known)) (omega (arith, ap gap_of h.known, h.ends)))) in
    absurd (omega (arith, byte, b.is, tokens-rise k text (root_run k text) 0 b.index b.some go))

-- so their run ends there
none-over : (k : CharClasses) (edit : TextReplacement) (root : Tree) (c : Candidate) (i n m past : ℕ) (t u : Trivia) → bare root ≡ bare (tree k (text_before edit))
    → Among c (candidates k edit root) → c.is_block ≡ false → c.path ≡ [] → c.end ≡ width (edit.front ++ (edit.old ++ take past edit.rest))
    → PassesPieces k edit (root_run k (text_before edit)) i n m past t u → BeginsWell k (text_before edit) (root_run k (text_before edit)) c i n
    → i + n ≡ 0 → is_over i n (text_run k (start_before edit)) ≡ true
none-over k edit root c (suc i) n m past t u same chosen pieces path end h well nothing = absurd (omega (arith, nothing))
none-over k edit root c zero (suc n) m past t u same chosen pieces path end h well nothing = absurd (omega (arith, nothing))
none-over k edit root c zero zero m past t u same chosen pieces path end h well nothing =
    true_from_ne_false (is_over 0 0 (text_run k (start_before edit))) (λ over. no-piece k edit root c m past t u same chosen pieces path end h (well.next over))

-- ---- each case of the test

pub candidate-law : CandidateLaw
candidate-law k edit root c ts same big big_new chosen (of_block s past block there path passes is) =
    let text = text_before edit in
    let one = one-child k text (width edit.front) (width (edit.front ++ edit.old)) root c chosen block in
    let reaches = reached k text (width edit.front) (width (edit.front ++ edit.old)) root c (in-order edit.front edit.old) same chosen in
    subst (Worth k edit c) (sym is) (block-worth-law k edit c s past there path one reaches passes big big_new)
candidate-law k edit root c ts same big big_new chosen (of_pieces top i n m past t u pieces path start led end h is) =
    let well = (begins-well-law k edit root top c i n m past t u same chosen pieces (sym path) start led end h).1 in
    let over = none-over k edit root c i n m past t u same chosen pieces (sym path) end h well in
    subst (Worth k edit c) (sym is) (root-worth-law k edit c i n m past t u (sym path) start led end h well over big big_new)
candidate-law k edit root c ts same big big_new chosen (of_pieces (inner s levels there name level) i n m past t u pieces path start led end h is) =
    let well = begins-well-law k edit root (inner s levels there name level) c i n m past t u same chosen pieces (sym path) start led end h in
    subst (Worth k edit c) (sym is) (inner-worth-law k levels edit s there name level c i n m past t u well.0 (sym path) start led end h well.1 big big_new)
