-- What a candidate is worth that is a block.
use Rattle.std.specs.Prelude.{◌≡◌, ℕ, suc, ◌-◌, ◌<◌, ◌^◌, List, [], ◌∷◌, ◌++◌}
use Rattle.typst_lines.specs.Classes.{CharClasses}
use Rattle.typst_tree.specs.Replace.{Reaches}
use Rattle.typst_tokens.specs.Sight.{width}
use Rattle.typst_candidates.specs.Candidates.{Candidate}
use Rattle.typst_grammar.specs.Grammar.{tree}
use Rattle.typst_edits.specs.Answer.{Worth}
use Rattle.typst_edits.specs.Edit.{Among, Passes}
use Rattle.typst_edits.specs.Hole.{path_of}
use Rattle.typst_edits.specs.Laws.{blocks_of_text}
use Rattle.typst_edits.specs.Spot.{Spot, last_node, unit_at}
use Rattle.typst_edits.specs.TextReplacement.{TextReplacement, text_before, text_after, start_after}

-- In texts that a machine word counts, a block that passes the test is worth its one new node at its place, where a candidate leads to the old one.
abbrev pub BlockWorthLaw : Type 0
BlockWorthLaw = (k : CharClasses) (edit : TextReplacement) (c : Candidate) (s : Spot (Unit {0})) (past : ℕ) → Among s (blocks_of_text k (text_before edit))
    → path_of s.hole ≡ c.path ++ c.from ∷ [] → c.to ≡ suc c.from → Reaches c.path c.from c.to (tree k (text_before edit)) → Passes edit s past
    → width (text_before edit) < 2 ^ 64 - 1 → width (text_after edit) < 2 ^ 64 - 1 → Worth k edit c (last_node (unit_at s (start_after edit)).nodes ∷ [])
