-- The tree of an edit's answer.
use Rattle.typst_edits.proofs.Cited.{◌≡◌, ℕ, ◌^◌, Bool, true, false, IsTrue, List, ◌++◌, Option, Some, None, refl, ap, sym, ◌∙◌, subst, arith, nat_le, if◌then◌else◌, CharClasses, Tree, Forest, none, more, bare, bare_forest, put_at, width, Candidate, tree, log, of_block, of_pieces, listed, SpanValue, bare_head, part, with_each, synthesized, nodes, numbered_bare, numbered_in, file_of, ◌-◌, TextReplacement, text_before, text_after}
use Rattle.typst_kinds.specs.Head.{spanned}
use Rattle.typst_edits.specs.Answer.IsAnswer.{whole}
use Rattle.typst_tree.specs.Numbers.{numbered}
use Rattle.typst_edits.specs.AnswerTree.{GivesTreeLaw, AnswerTreeLaw}
use Rattle.typst_edits.proofs.CandidateWorth.{block-tree, in-order, one-child, reached, tree-inner}
use Rattle.typst_edits.proofs.CandidatePlaces.{candidate-tree-law}
use Rattle.typst_edits.proofs.RunCandidates.{begins-well-law}
use Rattle.typst_edits.proofs.RunPieces.{pieces-law}
use Rattle.typst_edits.proofs.Replaced.{put-law}
pub use Rattle.typst_edits.proofs.Edit.{chosen-of}
pub use Rattle.std.proofs.lemmas.Option.{same_Some as some-is}

-- ---- a candidate's tree

module _ (k : CharClasses) (edit : TextReplacement) (c : Candidate) where
  -- The new text's tree is the old one with these nodes in the candidate's place.
  abbrev Fits : List Tree → Type 0
  Fits ts = tree k (text_after edit) ≡ put_at c.path c.from c.to ts (tree k (text_before edit))

pub gives-tree-law : GivesTreeLaw
gives-tree-law k edit root c ts same chosen (of_block s past block there path passes is) =
    let text = text_before edit in
    let one = one-child k text (width edit.front) (width (edit.front ++ edit.old)) root c chosen block in
    let reaches = reached k text (width edit.front) (width (edit.front ++ edit.old)) root c (in-order edit.front edit.old) same chosen in
    subst (Fits k edit c) (sym is) (block-tree k edit c s past there path one reaches passes)
gives-tree-law k edit root c ts same chosen (of_pieces r i n m past t u pieces path start led end h is) =
    grind (arith, begins-well-law k edit root r c i n m past t u same chosen pieces (sym path) start led end h, pieces-law)

-- ---- a tree with new numbers

each-bare : (sp : SpanValue) (f : Forest) → bare_forest (with_each (spanned sp) f) ≡ bare_forest f
each-bare sp none = refl
each-bare sp (more h ks r) = λ i. more (bare_head h) (each-bare sp ks i) (each-bare sp r i)

numbered-bare : (file : Option ℕ) (t now : Tree) → numbered_in file t ≡ Some now → bare now ≡ bare t
numbered-bare None t now e = ap bare (sym (some-is (synthesized None t) now e)) ∙ (λ i. record { head = bare_head t.head; kids = each-bare None t.kids i })
numbered-bare (Some file) t now e = by-room (nat_le (nodes t) (2 ^ 47 - 2)) e
  where
    by-room : (b : Bool) → (if b then Some (numbered file 2 (2 ^ 47 - 2) t) else None) ≡ Some now → bare now ≡ bare t
    by-room true e = ap bare (sym (some-is (numbered file 2 (2 ^ 47 - 2) t) now e)) ∙ numbered_bare file 2 (2 ^ 47 - 2) t
    by-room false e = absurd (cc)

-- ---- an answer

pub answer-tree-law : AnswerTreeLaw
answer-tree-law k edit root now range same (part earlier c later ts split refused gives is start end) =
    let text = text_before edit in
    let chosen = chosen-of _ earlier c later split in
    candidate-tree-law (listed (log k text).notes) (width edit.front) (width (edit.front ++ edit.old)) c ts root (tree k text) now (subst (λ (b : Bool). IsTrue b) (sym (ap (λ (t : Tree). t.head.is_inner) same)) (tree-inner k text)) (in-order edit.front edit.old) chosen same is
    ∙ ap bare (sym (gives-tree-law k edit root c ts same chosen gives ∙ put-law c.path c.from c.to ts (tree k text)))
answer-tree-law k edit root now range same (whole refused is bytes) = numbered-bare (file_of root) (tree k (text_after edit)) now is
