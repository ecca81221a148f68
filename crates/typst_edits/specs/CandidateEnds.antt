-- A candidate among the nodes of a run begins well.
use Rattle.std.specs.Prelude.{◌≡◌, ◌↔◌, ℕ, ◌<◌, false, List, ◌++◌, take}
use Rattle.typst_lines.specs.Classes.{CharClasses}
use Rattle.typst_tree.specs.Tree.{Tree, bare}
use Rattle.typst_tokens.specs.Sight.{width}
use Rattle.typst_language.specs.Point.{Trivia}
use Rattle.typst_candidates.specs.Candidates.{Candidate}
use Rattle.typst_grammar.specs.Grammar.{tree}
use Rattle.typst_edits.specs.Answer.{candidates}
use Rattle.typst_edits.specs.Edit.{Among}
use Rattle.typst_edits.specs.Frame.{Run, path_to, cut_at, PassesPieces}
use Rattle.typst_edits.specs.Joins.{Encloses}
use Rattle.typst_edits.specs.RunPieces.{BeginsWell}
use Rattle.typst_edits.specs.TextReplacement.{TextReplacement, text_before, start_before}

-- The law of candidates among a run's nodes: where pieces of the run that pass the test begin and end as a candidate of an edit does that stands among these, the run's block is around the stretch, and the candidate begins well.
abbrev pub BeginsWellLaw : Type 0
BeginsWellLaw = (k : CharClasses) (edit : TextReplacement) (root : Tree) (r : Run k (text_before edit)) (c : Candidate) (i n m past : ℕ) (t u : Trivia) → bare root ≡ bare (tree k (text_before edit))
    → Among c (candidates k edit root) → c.is_block ≡ false → c.path ≡ path_to r
    → c.start ≡ width (take (cut_at r i (start_before edit)) (text_before edit)) → (0 < i ↔ 0 < c.from) → c.end ≡ width (edit.front ++ (edit.old ++ take past edit.rest))
    → PassesPieces k edit r i n m past t u → Encloses k edit r × BeginsWell k (text_before edit) r c i n
