-- Runs without an expression: their one note, and the token at their end.
use Rattle.std.specs.Prelude.{◌≡◌, ℕ, suc, ◌+◌, ◌-◌, ◌≤◌, true, List, [], ◌∷◌, ◌++◌, length, take, Some}
use Rattle.typst_kinds.specs.declared.mode.SyntaxMode.TheVariants as mode
use Rattle.typst_lines.specs.Place.{Place, moved}
use Rattle.typst_lines.specs.Classes.{CharClasses}
use Rattle.typst_tokens.specs.Reader.{look}
use Rattle.typst_tokens.specs.Sight.{width}
use Rattle.typst_language.specs.Tokens.{token}
use Rattle.typst_language.specs.declared.calls.Block.TheVariants as block
use Rattle.typst_language.specs.declared.calls.Mark.TheVariants as mark
use Rattle.typst_language.specs.declared.calls.Note.{Note}
use Rattle.typst_language.specs.Ask.{Ask}
use Rattle.typst_language.specs.Ask.Ask.{looked}
use Rattle.typst_language.specs.Meaning.{hand_of}
use Rattle.typst_language.specs.Point.{Trivia}
use Rattle.typst_grammar.specs.Grammar.{max_depth, log}
use Rattle.typst_grammar.specs.Markup.{ends}
use Rattle.typst_edits.specs.BlockRuns.{run_at}
use Rattle.typst_edits.specs.Edit.{Among, AllBeginIn}
use Rattle.typst_edits.specs.InnerJoint.{left_past, BeginsPast}
use Rattle.typst_edits.specs.JointBytes.{asked_past}
use Rattle.typst_edits.specs.Laws.{blocks_of_text}
use Rattle.typst_edits.specs.Runs.{text_run}
use Rattle.typst_edits.specs.Sequence.{Sequence}
use Rattle.typst_edits.specs.Spot.{Spot}
use Rattle.typst_edits.specs.TextReplacement.{TextReplacement, text_before, start_before}

-- it ends at its first token
abbrev pub IsEmpty : Sequence → Type 0
IsEmpty r = ends r.stops 0 (hand_of r.level r.place r.point).kind ≡ true

-- what the token after its trivia looks at, asked again
abbrev pub end_asks : CharClasses → Trivia → Place → List Ask
end_asks k t z = looked 0 (look (token k mode.Markup) (moved t.gap z)) ∷ []

-- A text without an expression has one note, and the token at its end, asked again, says whether what is looked at after the trivia begins at a stretch's end or after it; that is so at each stretch of the text.
pub record EmptyText (k : CharClasses) (edit : TextReplacement) (past : ℕ) (t : Trivia) : Type 0 where
  pub note : Note
  pub notes : (log k (text_before edit)).notes ≡ Some (note ∷ [])
  pub says : note.mark ≡ mark.Piece true 0
  pub levels : note.levels ≡ max_depth
  pub after : AllBeginIn past edit.rest (end_asks k t (start_before edit)) → AllBeginIn past edit.rest (asked_past k 0 0 t (start_before edit))
  pub after_too : AllBeginIn past edit.rest (asked_past k 0 0 t (start_before edit)) → AllBeginIn past edit.rest (end_asks k t (start_before edit))
  pub always : past ≤ length edit.rest → AllBeginIn past edit.rest (asked_past k 0 0 t (start_before edit))

-- The law of a text without an expression.
abbrev pub EmptyTextLaw : Type 0
EmptyTextLaw = (k : CharClasses) (edit : TextReplacement) (past : ℕ) (t : Trivia) → IsEmpty (text_run k (start_before edit)) → (text_run k (start_before edit)).point.known ≡ Some t
    → EmptyText k edit past t

-- A content block without an expression has one note between its two, and the token after its trivia, asked again, says with what is looked at after the block whether what is looked at after the trivia begins at a stretch's end or after it.
pub record EmptyBlock (k : CharClasses) (levels : ℕ) (edit : TextReplacement) (c : Spot (Unit {0})) (past : ℕ) (t : Trivia) : Type 0 where
  pub earlier : List Note
  pub opens : Note
  pub note : Note
  pub closes : Note
  pub later : List Note
  pub notes : (log k (text_before edit)).notes ≡ Some (earlier ++ opens ∷ (note ∷ (closes ∷ later)))
  pub name : opens.mark ≡ mark.Opens c.name
  pub start : opens.start ≡ width (take c.at (text_before edit))
  pub says : note.mark ≡ mark.Piece true 0
  pub levels_there : note.levels ≡ suc levels
  pub name_end : closes.mark ≡ mark.Closes
  pub after : (let z = start_before edit in
      AllBeginIn past edit.rest (end_asks k t (run_at k levels c z).place) → AllBeginIn (past + left_past k levels 0 0 t c z) edit.rest c.after → BeginsPast k levels edit c 0 0 past t)
  pub after_too : (let z = start_before edit in BeginsPast k levels edit c 0 0 past t → AllBeginIn past edit.rest (end_asks k t (run_at k levels c z).place))

-- The law of a content block without an expression.
abbrev pub EmptyBlockLaw : Type 0
EmptyBlockLaw = (k : CharClasses) (levels : ℕ) (edit : TextReplacement) (c : Spot (Unit {0})) (past : ℕ) (t : Trivia) → Among c (blocks_of_text k (text_before edit))
    → c.name ≡ block.Content → max_depth - c.fewer ≡ suc levels → IsEmpty (run_at k levels c (start_before edit)) → (run_at k levels c (start_before edit)).point.known ≡ Some t
    → EmptyBlock k levels edit c past t
