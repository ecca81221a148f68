-- What an edit inside a block leaves of a text's units.
use Rattle.std.specs.Prelude.{◌≡◌, ℕ, suc, ◌+◌, ◌-◌, ◌<◌, ◌^◌, List, [], ◌∷◌, ◌++◌}
use Rattle.typst_candidates.specs.Entries.{units_of, spliced}
use Rattle.typst_lines.specs.Classes.{CharClasses}
use Rattle.typst_lines.specs.Place.{moved}
use Rattle.typst_tokens.specs.Sight.{width, position}
use Rattle.typst_language.specs.declared.calls.Mark.TheVariants as mark
use Rattle.typst_language.specs.Ask.{shift}
use Rattle.typst_language.specs.Log.{Log, no_log, logged}
use Rattle.typst_language.specs.Meaning.{Outcome}
use Rattle.typst_language.specs.Point.{state_of}
use Rattle.typst_grammar.specs.Grammar.{max_depth, log}
use Rattle.typst_edits.specs.Edit.{Among, Passes}
use Rattle.typst_edits.specs.Laws.{blocks_of_text}
use Rattle.typst_edits.specs.Splice.{Noting, noting, notes_in, entries_from}
use Rattle.typst_edits.specs.Spot.{Spot, unit_at, lowered}
use Rattle.typst_edits.specs.TextReplacement.{TextReplacement, text_before, text_after, start_before, start_after}

-- the note where a block ends that takes a given number of characters
abbrev pub closing : {A : Type 0} → Spot A → ℕ → Noting
closing c taken = record { at = c.at + taken; gap = 0; fewer = c.fewer; mark = mark.Closes; state = state_of c.reached }

-- what is logged of a block that gives this outcome, after the note where it begins
abbrev pub block_log : {A : Type 0} → List ℕ → Spot A → Outcome (Unit {0}) → Log
block_log text c u = logged max_depth (record { before = []; ahead = text }) no_log (shift c.at (lowered c.fewer u.asks) ++ noting (closing c u.taken) ∷ [])

-- The entries between a block's two notes, with the second, are exchanged for those of the block on the new text; the first is that with this number.
pub record SplicedBlock (k : CharClasses) (edit : TextReplacement) (c : Spot (Unit {0})) : Type 0 where
  pub opens : ℕ
  pub number : notes_in c.before ≡ suc opens
  pub units : (let w = start_after edit in
      units_of (log k (text_after edit)) ≡ spliced opens (suc (opens + notes_in (unit_at c (start_before edit)).asks))
      (entries_from (position (moved c.at w)) (block_log (text_after edit) c (unit_at c w)).notes) (units_of (log k (text_before edit))))

-- The law of a block's splice: where an edit inside a block passes the test, in texts that a machine word counts, the units of the new text are the old ones with the block's exchanged.
abbrev pub BlockSpliceLaw : Type 0
BlockSpliceLaw = (k : CharClasses) (edit : TextReplacement) (c : Spot (Unit {0})) (past : ℕ) → Among c (blocks_of_text k (text_before edit)) → Passes edit c past
    → width (text_before edit) < 2 ^ 64 - 1 → width (text_after edit) < 2 ^ 64 - 1 → SplicedBlock k edit c
