-- What a candidate gives, and what answers an edit, is one thing.
use Rattle.std.specs.Prelude.{◌≡◌, ℕ, List, ◌++◌}
use Rattle.std.specs.declared.ops.Range.{Range}
use Rattle.typst_lines.specs.Classes.{CharClasses}
use Rattle.typst_tree.specs.Tree.{Tree, bare}
use Rattle.typst_tokens.specs.Sight.{width}
use Rattle.typst_candidates.specs.Candidates.{Candidate}
use Rattle.typst_grammar.specs.Grammar.{tree}
use Rattle.typst_edits.specs.Answer.{candidates, IsAnswer}
use Rattle.typst_edits.specs.Edit.{Among}
use Rattle.typst_edits.specs.Frame.{Gives}
use Rattle.typst_edits.specs.TextReplacement.{TextReplacement, text_before}

-- The law of a candidate's nodes: however it passes, the same nodes take its place.
abbrev pub UniqueLaw : Type 0
UniqueLaw = (k : CharClasses) (edit : TextReplacement) (root : Tree) (c : Candidate) (ts us : List Tree) → bare root ≡ bare (tree k (text_before edit))
    → Among c (candidates k edit root) → Gives k edit c ts → Gives k edit c us → ts ≡ us

-- The law of one answer: an edit has one tree and one range for its answer.
abbrev pub OneAnswerLaw : Type 0
OneAnswerLaw = (k : CharClasses) (edit : TextReplacement) (root now other : Tree) (range another : Range ℕ) → bare root ≡ bare (tree k (text_before edit))
    → (let cs = candidates k edit root in
    IsAnswer k edit cs root now range → IsAnswer k edit cs root other another → (now ≡ other) × (range ≡ another))
