-- What an edit's answer is: the new text's tree.
use Rattle.std.specs.Prelude.{◌≡◌, ℕ, List, ◌++◌}
use Rattle.std.specs.declared.ops.Range.{Range}
use Rattle.typst_lines.specs.Classes.{CharClasses}
use Rattle.typst_tree.specs.Tree.{Tree, bare}
use Rattle.typst_tree.specs.Laws.{put_at}
use Rattle.typst_tokens.specs.Sight.{width}
use Rattle.typst_candidates.specs.Candidates.{Candidate}
use Rattle.typst_grammar.specs.Grammar.{tree}
use Rattle.typst_edits.specs.Answer.{candidates, IsAnswer}
use Rattle.typst_edits.specs.Edit.{Among}
use Rattle.typst_edits.specs.Frame.{Gives}
use Rattle.typst_edits.specs.TextReplacement.{TextReplacement, text_before, text_after}

-- The law of a candidate's tree, in texts of any length: where a candidate passes, the tree of the new text is the old one with its nodes in its place.
abbrev pub GivesTreeLaw : Type 0
GivesTreeLaw = (k : CharClasses) (edit : TextReplacement) (root : Tree) (c : Candidate) (ts : List Tree) → bare root ≡ bare (tree k (text_before edit))
    → Among c (candidates k edit root) → Gives k edit c ts
    → tree k (text_after edit) ≡ put_at c.path c.from c.to ts (tree k (text_before edit))

-- The law of an answer: where the tree at hand is, spans aside, that of the old text, what answers an edit is, spans aside, that of the new text.
abbrev pub AnswerTreeLaw : Type 0
AnswerTreeLaw = (k : CharClasses) (edit : TextReplacement) (root now : Tree) (range : Range ℕ) → bare root ≡ bare (tree k (text_before edit))
    → IsAnswer k edit (candidates k edit root) root now range → bare now ≡ bare (tree k (text_after edit))
