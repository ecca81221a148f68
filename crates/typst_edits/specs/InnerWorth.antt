-- What a candidate is worth that is pieces in a content block.
use Rattle.std.specs.Prelude.{◌≡◌, ◌↔◌, ℕ, suc, ◌-◌, ◌<◌, ◌^◌, List, [], ◌∷◌, ◌++◌, take}
use Rattle.typst_lines.specs.Classes.{CharClasses}
use Rattle.typst_tokens.specs.Sight.{width}
use Rattle.typst_language.specs.declared.calls.Block.TheVariants as block
use Rattle.typst_language.specs.Point.{Trivia}
use Rattle.typst_candidates.specs.Candidates.{Candidate}
use Rattle.typst_grammar.specs.Grammar.{max_depth}
use Rattle.typst_edits.specs.Answer.{Worth}
use Rattle.typst_edits.specs.Edit.{Among}
use Rattle.typst_edits.specs.Frame.{cut_at, nodes_now, PassesPieces}
use Rattle.typst_edits.specs.Hole.{path_of}
use Rattle.typst_edits.specs.RunPieces.{block_run, BeginsWell}
use Rattle.typst_edits.specs.Joins.{Around}
use Rattle.typst_edits.specs.Laws.{blocks_of_text}
use Rattle.typst_edits.specs.Spot.{Spot}
use Rattle.typst_edits.specs.TextReplacement.{TextReplacement, text_before, text_after, start_before, start_after}

-- In texts that a machine word counts, pieces in a content block around the stretch that pass the test are worth their new nodes, where a candidate begins well.
abbrev pub InnerWorthLaw : Type 0
InnerWorthLaw = (k : CharClasses) (levels : ℕ) (edit : TextReplacement) (s : Spot (Unit {0})) (among : Among s (blocks_of_text k (text_before edit))) (name : s.name ≡ block.Content) (level : max_depth - s.fewer ≡ suc levels)
    (c : Candidate) (i n m past : ℕ) (t u : Trivia) → Around edit s → c.path ≡ path_of s.hole ++ 1 ∷ []
    → c.start ≡ width (take (cut_at (block_run s levels among name level) i (start_before edit)) (text_before edit)) → (0 < i ↔ 0 < c.from) → c.end ≡ width (edit.front ++ (edit.old ++ take past edit.rest))
    → PassesPieces k edit (block_run s levels among name level) i n m past t u → BeginsWell k (text_before edit) (block_run s levels among name level) c i n
    → width (text_before edit) < 2 ^ 64 - 1 → width (text_after edit) < 2 ^ 64 - 1
    → Worth k edit c (nodes_now (block_run s levels among name level) i m u (start_after edit))
