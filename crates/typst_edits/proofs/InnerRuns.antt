-- A candidate that isn't at the root is pieces of a content block's run.
use Rattle.typst_edits.proofs.Cited.{◌≡◌, ℕ, ◌<◌, ◌==◌, Bool, true, false, ◌&&◌, if◌then◌else◌, List, [], ◌∷◌, ◌++◌, length, Some, refl, ap, sym, subst, arith, zero, suc, ◌+◌, ◌-◌, length-append, take, ◌∙◌, eqb-true, CharClasses, Tree, text_of, forest, trees, bare, inner_of, width, Mark, Note, opens_content, starts, up_to_end, after_first, cuts_in, top_cuts, log, max_depth, parsed, tree, Among, Hole, Deep, fill, path_in, plug, path_of, listed, Spot, kind_of, block_head, seconds_of_text, IsOf, Stems, from_unit, from_second, take-append_seam, is_block, Head, start_at, Block, texts, Child, laid, child_at, Candidate, candidates, inner, InnerPiecesOfLaw, Every, under, block_run, blocks_of_text, opening_child, TextReplacement, text_before, candidates_between}
use Rattle.typst_edits.specs.CandidateRuns.{InnerPiecesOf}
use Rattle.typst_edits.specs.Hole.Deep.{bare as alone}
use Rattle.typst_edits.proofs.BlockPlaces.{hole-same, second-place}
use Rattle.typst_edits.proofs.BlockTest.{never-second}
use Rattle.typst_edits.proofs.Walk.{left_text, deep_text}
use Rattle.typst_edits.proofs.CandidatePlaces.{bare-candidates-law}
use Rattle.typst_edits.proofs.MarkupCandidates.{block-head, Covers}
use Rattle.typst_edits.proofs.RootRuns.{has-pieces}
use Rattle.typst_edits.proofs.Deepest.{some-level}
use Rattle.typst_edits.proofs.Edit.{among, trees-of}
use Rattle.typst_edits.proofs.RunCandidates.{run-of, joined-trees, lies, seat-of}
use Rattle.typst_edits.proofs.Leading.{Plain, plain-block}
use Rattle.typst_edits.proofs.MarkupPlaces.{InContent, in-tree, of-content}
use Rattle.typst_edits.proofs.RunTrees.{tree-is}
use Rattle.typst_edits.proofs.Standing.{standing-law}
use Rattle.typst_edits.proofs.StartBytes.{start-plug, start-same}
use Rattle.typst_edits.proofs.Positions.{NoMarkup, no-wrong}
use Rattle.typst_edits.proofs.Children.{tree-by-block}
use Rattle.typst_edits.proofs.Widths.{width-append}
use Rattle.typst_language.specs.declared.calls.Block.TheVariants as block
use Rattle.typst_language.specs.declared.calls.Mark.TheVariants as mark
use Rattle.typst_kinds.specs.declared.kind.SyntaxKind.TheVariants as kind
use Rattle.typst_candidates.specs.Candidates as candidate

-- ---- where a block within a reading that was given up begins, no run of a content block is noted

-- ---- the note of a run

-- A content block begins at a byte at one of several notes.
record Begins (at : ℕ) (ns : List Note) : Type 0 where
  earlier : List Note
  note : Note
  later : List Note
  is : ns ≡ earlier ++ note ∷ later
  mark : note.mark ≡ mark.Opens block.Content
  start : note.start ≡ at

content-is : (m : Mark) → opens_content m ≡ true → m ≡ mark.Opens block.Content
content-is m e = grind arith

begins-at : (at : ℕ) (ns : List Note) (cuts : List ℕ) → cuts_in at ns ≡ Some cuts → Begins at ns
begins-at at [] cuts e = absurd (cc)
begins-at at (n ∷ ns) cuts e = by-tests (opens_content n.mark) (n.start == at) refl refl (λ f. begins-at at ns cuts f) e
  where
    next : Begins at ns → Begins at (n ∷ ns)
    next b = record { earlier = n ∷ b.earlier; note = b.note; later = b.later; is = ap (λ us. n ∷ us) b.is; mark = b.mark; start = b.start }

    by-tests : (a b : Bool) → opens_content n.mark ≡ a → (n.start == at) ≡ b → (cuts_in at ns ≡ Some cuts → Begins at ns) → (if a && b then after_first (starts n.levels (up_to_end n.levels ns)) else cuts_in at ns) ≡ Some cuts → Begins at (n ∷ ns)
    by-tests true true f g more e = record { earlier = []; note = n; later = ns; is = refl; mark = content-is n.mark f; start = eqb-true n.start at g }
    by-tests true false f g more e = next (more e)
    by-tests false b f g more e = next (more e)

-- ---- none is there

pub none-there : (k : CharClasses) (front more : List ℕ) (hole : Hole) (node : Tree) (s : Spot (Unit {0})) (cuts : List ℕ) → Among s (seconds_of_text k (front ++ more)) → IsOf hole node s → 0 < length (text_of node) → length (left_text hole) < width front
    → cuts_in (length (left_text hole)) (listed (log k (front ++ more)).notes) ≡ Some cuts → ⊥
none-there k front more hole node s cuts there of full starts noted = grind (arith, hole-same, full, begins-at, never-second, second-place)

-- ---- the markup of a block

kid-plain : (at : ℕ) (ts : List Tree) (i : ℕ) (c : Child) → Every NoMarkup ts → child_at (laid at ts) i ≡ Some c → NoMarkup c.node
kid-plain at [] i c h e = absurd (cc)
kid-plain at (t ∷ ts) zero c h e = grind arith
kid-plain at (t ∷ ts) (suc i) c h e = kid-plain (at + length (text_of t)) ts i c h.1 e

-- Of a content block's children only the second is markup.
second-alone : (x : Tree) → Plain x → (at i : ℕ) (c : Child) → child_at (laid at (trees x.kids)) i ≡ Some c → c.node.head.is_inner ≡ true → c.node.head.kind ≡ kind.Markup → i ≡ 1
second-alone x p at i c e inner markup =
    let all = opening_child p.closed p.bracket ∷ (inner_of kind.Markup (forest p.kids) ∷ p.closing) in
    let kids : trees x.kids ≡ all = ap (λ (t : Tree). trees t.kids) p.node ∙ trees-of all in
    by-index at i c (subst (λ ts. child_at (laid at ts) i ≡ Some c) kids e) inner markup
  where
    opening : (closed : Bool) → NoMarkup (opening_child closed p.bracket)
    opening true = p.first
    opening false = no-wrong _ p.bracket p.first

    by-index : (at i : ℕ) (c : Child) → child_at (laid at (opening_child p.closed p.bracket ∷ (inner_of kind.Markup (forest p.kids) ∷ p.closing))) i ≡ Some c → c.node.head.is_inner ≡ true → c.node.head.kind ≡ kind.Markup → i ≡ 1
    by-index at zero c e inner markup = grind arith
    by-index at (suc zero) c e inner markup = refl
    by-index at (suc (suc i)) c e inner markup = absurd (kid-plain _ p.closing i c p.last e inner markup)

-- ---- its node in the tree

-- The candidate is of the markup of a content block's node, which stands in a hole.
record InBlock (k : CharClasses) (text : List ℕ) (rs re : ℕ) (c : Candidate) : Type 0 where
  hole : Hole
  node : Tree
  is : (parsed k max_depth text).nodes ≡ plug hole node
  inner : node.head.is_inner ≡ true
  step : ℕ
  path_is : c.path ≡ path_of hole ++ step ∷ []
  child : Child
  there : child_at (laid (length (left_text hole) + length node.head.text) (trees node.kids)) step ≡ Some child
  covers : Covers rs re child
  content : InContent (listed (log k text).notes) (length (left_text hole)) node.head.kind child.node.head.kind

in-block : (k : CharClasses) (text : List ℕ) (rs re : ℕ) (c : Candidate) (d : Deep) (x : Tree) → tree k text ≡ fill d x → x.head.is_inner ≡ true → (step : ℕ) → c.path ≡ path_in d ++ step ∷ [] → (child : Child)
    → child_at (laid ((0 + length (deep_text d)) + length x.head.text) (trees x.kids)) step ≡ Some child → Covers rs re child → InContent (listed (log k text).notes) (0 + length (deep_text d)) x.head.kind child.node.head.kind → InBlock k text rs re c
unfolding tree
in-block k text rs re c alone x is inner step path child there on content = absurd (let no : kind.Markup ≡ kind.ContentBlock = ap (λ (t : Tree). t.head.kind) is ∙ content.content in cc)
in-block k text rs re c (under head left d right) x is inner step path child there on content =
    let hole : Hole = record { left = left; deep = d; right = right } in
    let none_more : length head.text ≡ 0 = sym (ap (λ (t : Tree). length t.head.text) is) in
    let at : 0 + length (deep_text (under head left d right)) ≡ length (left_text hole) = omega (arith, none_more, length-append head.text (left_text hole)) in
    record {
      hole = hole;
      node = x;
      is = sym (trees-of (parsed k max_depth text).nodes) ∙ ap (λ (t : Tree). trees t.kids) is ∙ trees-of (left ++ fill d x ∷ right);
      inner = inner;
      step = step;
      path_is = path;
      child = child;
      there = subst (λ a. child_at (laid (a + length x.head.text) (trees x.kids)) step ≡ Some child) at there;
      covers = on;
      content = subst (λ a. InContent (listed (log k text).notes) a x.head.kind child.node.head.kind) at content;
    }

candidate-in : (k : CharClasses) (text : List ℕ) (rs re : ℕ) (root : Tree) (c : Candidate) → bare root ≡ bare (tree k text) → Among c (candidates_between k text rs re root) → c.is_block ≡ false → (c.path ≡ [] → ⊥) → InBlock k text rs re c
candidate-in k text rs re root c same chosen pieces other =
    let was = tree k text in
    let ns = listed (log k text).notes in
    let there : Among c (candidate.candidates ns rs re was) = subst (λ cs. Among c cs) (bare-candidates-law ns rs re root was same) chosen in
    let inner : was.head.is_inner ≡ true = ap (λ (t : Tree). t.head.is_inner) (tree-is k text 0 0 tt tt) in
    let p = among _ c _ there (in-tree ns rs re [] (top_cuts ns) 0 was inner) pieces other in
    let content = of-content ns rs re c.path (p.child.start + length p.child.node.head.text) (trees p.child.node.kids) c (0 + length (deep_text p.deep)) p.node.head.kind p.child.node.head.kind p.own in
    in-block k text rs re c p.deep p.node p.is p.inner p.step p.path_is p.child p.there p.covers content

-- ---- the law

name-is : (b : Block) → kind_of b ≡ kind.ContentBlock → b ≡ block.Content
name-is b e = grind arith

-- the path without its last step
but-last : (path : List ℕ) (i : ℕ) (whole : List ℕ) → whole ≡ path ++ i ∷ [] → take (length whole - 1) whole ≡ path
but-last path i whole e = let short : length whole - 1 ≡ length path = omega (arith, length-append path (i ∷ []), ap length e) in grind (arith, take-append_seam)

-- where the children of a unit's node begin
unit-byte : (k : CharClasses) (edit : TextReplacement) (root : Tree) (s : Spot (Unit {0})) → Among s (blocks_of_text k (text_before edit)) → bare root ≡ bare (tree k (text_before edit)) → s.node.head ≡ block_head s.name
    → start_at (path_of s.hole) 0 root ≡ length (left_text s.hole)
unit-byte k edit root s there same head =
    let path = path_of s.hole in
    let none_more : length s.node.head.text ≡ 0 = ap (λ (h : Head). length h.text) head in
    let is = start-same path 0 root (tree k (text_before edit)) same ∙ ap (start_at path 0) (tree-by-block k edit s there s.node refl) ∙ start-plug s.hole s.node in
    omega (arith, is, none_more)

module _ (k : CharClasses) (edit : TextReplacement) (root : Tree) (c : Candidate) (same : bare root ≡ bare (tree k (text_before edit)))
    (chosen : Among c (candidates k edit root)) (pieces : c.is_block ≡ false) (b : InBlock k (text_before edit) (width edit.front) (width (edit.front ++ edit.old)) c) where
  abbrev whole_text : List ℕ
  whole_text = text_before edit

  -- Its node isn't empty, and begins before the stretch.
  record Covered : Type 0 where
    full : 0 < length (text_of b.node)
    early : length (left_text b.hole) < width edit.front

  covered : Covered
  covered =
      let x = b.node in
      let l = lies (length (left_text b.hole) + length x.head.text) (trees x.kids) b.step b.child b.there in
      let held : length (text_of x) ≡ length x.head.text + length (texts (trees x.kids)) = length-append x.head.text _ ∙ ap (λ n. length x.head.text + n) (ap length (joined-trees x.kids)) in
      record { full = omega (arith, l.from, l.to, b.covers.starts, b.covers.ends, width-append edit.front edit.old, held); early = omega (arith, l.from, b.covers.starts) }

  -- the block of its node, if that is a unit
  module _ (s : Spot (Unit {0})) (there : Among s (blocks_of_text k (text_before edit))) (of : IsOf b.hole b.node s) where
    name : s.name ≡ block.Content
    name = name-is s.name (ap (λ (h : Head). h.kind) (sym of.head) ∙ b.content.content)

    full : 0 < length (text_of s.node)
    full = subst (λ (t : Tree). 0 < length (text_of t)) (sym of.node) covered.full

    place : length (left_text s.hole) ≡ width (take s.at (text_before edit))
    place = (seat-of k whole_text s there full).left_is

    noted : cuts_in (width (take s.at (text_before edit))) (listed (log k (text_before edit)).notes) ≡ Some b.content.cuts
    noted =
        subst (λ a. cuts_in a (listed (log k whole_text).notes) ≡ Some b.content.cuts) (sym (ap length (hole-same s.hole b.hole s.node b.node of.path of.nodes).0) ∙ place) b.content.noted

    by-level : (levels : ℕ) → max_depth - s.fewer ≡ suc levels → InnerPiecesOf k edit root c
    by-level levels level =
        let some = (seat-of k whole_text s there full).some in
        let first = length (left_text b.hole) + length b.node.head.text in
        let step : b.step ≡ 1 = second-alone b.node (subst Plain of.node (plain-block k levels whole_text s there name level some)) first b.step b.child b.there b.covers.inner b.content.markup in
        let path : c.path ≡ path_of s.hole ++ 1 ∷ [] = b.path_is ∙ ap (λ p. p ++ b.step ∷ []) (sym of.path) ∙ ap (λ i. path_of s.hole ++ i ∷ []) step in
        let own = block_run s levels there name level in
        let o = run-of k edit root own c same chosen pieces path in
        let p = has-pieces k edit own c o in
        let head : s.node.head ≡ block_head s.name = ap (λ (t : Tree). t.head) of.node ∙ of.head in
        record {
          s = s;
          levels = levels;
          among = there;
          name = name;
          level = level;
          path = path;
          around = o.encloses;
          byte = ap (λ q. start_at q 0 root) (but-last (path_of s.hole) 1 c.path path) ∙ unit-byte k edit root s there same head ∙ place;
          i = p.i;
          n = p.n;
          past = p.past;
          t = p.t;
          is = p.is;
        }

    of-unit : (left : ℕ) → max_depth - s.fewer ≡ left → InnerPiecesOf k edit root c
    of-unit zero e = absurd (some-level k whole_text s b.content.cuts there name noted e)
    of-unit (suc levels) e = by-level levels e

  by-stems : Stems k (text_before edit) b.hole b.node → InnerPiecesOf k edit root c
  by-stems (from_unit s there of) = of-unit s there of (max_depth - s.fewer) refl
  by-stems (from_second s there of) = absurd (none-there k edit.front (edit.old ++ edit.rest) b.hole b.node s b.content.cuts there of covered.full covered.early b.content.noted)

pub inner-pieces-of-law : InnerPiecesOfLaw
inner-pieces-of-law k edit root c same chosen pieces other =
    let text = text_before edit in
    let b = candidate-in k text (width edit.front) (width (edit.front ++ edit.old)) root c same chosen pieces other in
    let is_one : is_block b.node.head.kind ≡ true = ap is_block b.content.content in
    by-stems k edit root c same chosen pieces b (standing-law k text b.hole b.node b.is (block-head b.node b.inner is_one))
