-- What a candidate is worth that is pieces at the top of a text's tree.
use Rattle.std.specs.Prelude.{◌≡◌, ◌↔◌, ℕ, ◌+◌, ◌-◌, ◌<◌, ◌^◌, true, List, [], ◌++◌, take}
use Rattle.typst_lines.specs.Classes.{CharClasses}
use Rattle.typst_tokens.specs.Sight.{width}
use Rattle.typst_language.specs.Point.{Trivia}
use Rattle.typst_candidates.specs.Candidates.{Candidate}
use Rattle.typst_edits.specs.Answer.{Worth}
use Rattle.typst_edits.specs.Frame.{cut_at, nodes_now, is_over, PassesPieces}
use Rattle.typst_edits.specs.RunPieces.{root_run, BeginsWell}
use Rattle.typst_edits.specs.Runs.{text_run}
use Rattle.typst_edits.specs.TextReplacement.{TextReplacement, text_before, text_after, start_before, start_after}

-- In texts that a machine word counts, pieces at the root that pass the test are worth their new nodes, where a candidate begins well and, if no piece stands up to its end, the run ends there.
abbrev pub RootWorthLaw : Type 0
RootWorthLaw = (k : CharClasses) (edit : TextReplacement) (c : Candidate) (i n m past : ℕ) (t u : Trivia) → c.path ≡ []
    → c.start ≡ width (take (cut_at (root_run k (text_before edit)) i (start_before edit)) (text_before edit)) → (0 < i ↔ 0 < c.from) → c.end ≡ width (edit.front ++ (edit.old ++ take past edit.rest))
    → PassesPieces k edit (root_run k (text_before edit)) i n m past t u → BeginsWell k (text_before edit) (root_run k (text_before edit)) c i n
    → (i + n ≡ 0 → is_over i n (text_run k (start_before edit)) ≡ true)
    → width (text_before edit) < 2 ^ 64 - 1 → width (text_after edit) < 2 ^ 64 - 1
    → Worth k edit c (nodes_now (root_run k (text_before edit)) i m u (start_after edit))
