-- The test of a candidate of an edit, and what takes its place if it passes. (The frame law is `Framed` of Sound.antt of `typst_language`.)
use Rattle.std.specs.Prelude.{◌≡◌, ◌↔◌, ℕ, suc, ◌+◌, ◌-◌, ◌<◌, ◌==◌, Bool, true, false, if◌then◌else◌, List, [], ◌∷◌, ◌++◌, length, take, drop, Some}
use Rattle.typst_lines.specs.Place.{Place}
use Rattle.typst_lines.specs.Classes.{CharClasses}
use Rattle.typst_tree.specs.Tree.{Tree}
use Rattle.typst_tokens.specs.Sight.{width}
use Rattle.typst_language.specs.declared.calls.Block.TheVariants as block
use Rattle.typst_language.specs.Meaning.{hand_of}
use Rattle.typst_language.specs.Point.{Trivia, gap_of, pending}
use Rattle.typst_candidates.specs.Candidates.{Candidate}
use Rattle.typst_grammar.specs.Grammar.{max_depth}
use Rattle.typst_grammar.specs.Markup.{ends}
use Rattle.typst_edits.specs.BlockRuns.{run_at, opened_at, EndsBefore}
use Rattle.typst_edits.specs.Edit.{Among, AllEndBy, AllBeginIn, Passes}
use Rattle.typst_edits.specs.Hole.{path_of}
use Rattle.typst_edits.specs.InnerJoint.{BeginsPast}
use Rattle.typst_edits.specs.JointBytes.{asked_past}
use Rattle.typst_edits.specs.Laws.{blocks_of_text}
use Rattle.typst_edits.specs.Runs.{lead, text_run}
use Rattle.typst_edits.specs.Sequence.{Sequence, first_of, first_end, then_of, then_end, then_place, together, AllGo, asks_of}
use Rattle.typst_edits.specs.Spot.{Spot, last_node, unit_at}
use Rattle.typst_edits.specs.TextReplacement.{TextReplacement, text_before, start_before, start_after}

-- A run of a text is its own, or that of a content block which isn't the deepest and is in no reading that was given up.
pub data Run (k : CharClasses) (text : List ℕ) : Type 0 where
  top : Run k text
  inner : (c : Spot (Unit {0})) (levels : ℕ) → Among c (blocks_of_text k text) → c.name ≡ block.Content → max_depth - c.fewer ≡ suc levels → Run k text

-- The pieces of a run, as they are read from a place on in the run's own state.
abbrev pub read_as : {k : CharClasses} {text : List ℕ} → Run k text → Place → Sequence
read_as {k} {text} top z = text_run k z
read_as {k} {text} (inner c levels a n l) z = run_at k levels c z

-- How many characters come before a run.
abbrev pub opened_by : {k : CharClasses} {text : List ℕ} → Run k text → Place → ℕ
opened_by {k} {text} top z = 0
opened_by {k} {text} (inner c levels a n l) z = opened_at k levels c z

-- The path to the node whose children a run's nodes are: the root, or the second child of the run's
-- block, its markup.
abbrev pub path_to : {k : CharClasses} {text : List ℕ} → Run k text → List ℕ
path_to {k} {text} top = []
path_to {k} {text} (inner c levels a n l) = path_of c.hole ++ 1 ∷ []

-- What is looked at for the first i pieces of a run ends at the stretch's start or before it.
abbrev pub Before : (k : CharClasses) (edit : TextReplacement) → Run k (text_before edit) → ℕ → Type 0
Before k edit top i = 0 < i → AllEndBy (length edit.front) ((lead k (start_before edit)).asks ++ asks_of (first_of i (text_run k (start_before edit))))
Before k edit (inner c levels a b l) i = EndsBefore k levels edit c i

-- What is looked at after the n pieces that follow the first i, and their trivia, begins at the
-- stretch's end or after it.
abbrev pub After : (k : CharClasses) (edit : TextReplacement) → Run k (text_before edit) → ℕ → ℕ → ℕ → Trivia → Type 0
After k edit top i n past t = AllBeginIn past edit.rest (asked_past k i n t (start_before edit))
After k edit (inner c levels a b l) i n past t = BeginsPast k levels edit c i n past t

-- Where the n pieces that follow the first i end, with the trivia after them.
abbrev pub end_by : {k : CharClasses} {text : List ℕ} → Run k text → ℕ → ℕ → Trivia → Place → ℕ
end_by r i n t z = (opened_by r z + ((first_end i (read_as r z)).taken + (then_end i n (read_as r z)).taken)) + t.gap

-- The run ends after these pieces: the current token there ends it.
abbrev pub is_over : ℕ → ℕ → Sequence → Bool
is_over i n q = ends q.stops (then_end i n q).value.1 (hand_of q.level (then_place i n q) (then_end i n q).state).kind

-- What new pieces carry at their end agrees with what the old ones did: if pieces follow, there are
-- new ones, with the same line start and open brackets; at a block's end the open brackets are the
-- same; at the text's end anything agrees.
abbrev pub Agrees : {k : CharClasses} {text : List ℕ} → Run k text → Bool → ℕ → Bool × ℕ → Bool × ℕ → Type 0
Agrees {k} {text} r false m x y = (0 < m) × (y ≡ x)
Agrees {k} {text} top true m x y = Unit {0}
Agrees {k} {text} (inner c levels a n l) true m x y = y.1 ≡ x.1

-- THE TEST OF PIECES: n pieces follow the first i of a run and end, with their trivia, so many
-- characters past a stretch `old`, which becomes `new`, and m are read in their place. All other
-- pieces were read without a look into the stretch, and the new pieces end where the old ones did,
-- with what is carried there agreeing. Otherwise what stays could be read otherwise in the new text:
-- where `[` replaces the `~` of `a~b]`, the kept `]` was an error and would be text. For each
-- condition `conditions_of_texts` or `rare_conditions_of_texts` computes a text at which it alone
-- fails and the nodes differ.
pub record PassesPieces (k : CharClasses) (edit : TextReplacement) (r : Run k (text_before edit)) (i n m past : ℕ) (t u : Trivia) : Type 0 where
  pub first_go : AllGo (first_of i (read_as r (start_before edit)))
  pub old_go : AllGo (then_of i n (read_as r (start_before edit)))
  pub new_go : AllGo (then_of i m (read_as r (start_after edit)))
  pub before : Before k edit r i
  pub after : After k edit r i n past t
  pub known : (then_end i n (read_as r (start_before edit))).state.known ≡ Some t
  pub known_now : (then_end i m (read_as r (start_after edit))).state.known ≡ Some u
  pub ends : end_by r i n t (start_before edit) ≡ (length edit.front + length edit.old) + past
  pub shifted : end_by r i m u (start_after edit) ≡ (length edit.front + length edit.new) + past
  pub agrees : Agrees r (is_over i n (read_as r (start_before edit))) m (then_end i n (read_as r (start_before edit))).value (then_end i m (read_as r (start_after edit))).value

-- Where the piece after the first i begins: at its first token, or the first piece where the run
-- does.
abbrev pub cut_at : {k : CharClasses} {text : List ℕ} → Run k text → ℕ → Place → ℕ
cut_at r i z = let e = first_end i (read_as r z) in opened_by r z + (if i == 0 then 0 else e.taken + gap_of e.state.known)

-- The nodes of the new pieces, with the trivia after them. The trivia before the first of them
-- belong to the piece before, if there is one: in `*a* *b*`, where `*b*` is read again, the space
-- stays with `*a*`, otherwise it would be there twice.
abbrev pub nodes_now : {k : CharClasses} {text : List ℕ} → Run k text → ℕ → ℕ → Trivia → Place → List Tree
nodes_now r i m u w =
    let q = read_as r w in
    drop (if i == 0 then 0 else length (pending (first_end i q).state.known)) ((together (then_end i m q).state (then_of i m q)).nodes ++ u.nodes)

-- A CANDIDATE PASSES, and the nodes `ts` take its children's place: a block by the test of blocks,
-- read again as a block of its kind, or pieces by the test of pieces, with the nodes of the new
-- ones. In `@a[b]`, where `]` replaces `b`, the block doesn't pass: read again it is `[]` and ends too
-- early, and the last `]` would be in no node.
pub data Gives (k : CharClasses) (edit : TextReplacement) (c : Candidate) (ts : List Tree) : Type 0 where
  of_block : (s : Spot (Unit {0})) (past : ℕ) → c.is_block ≡ true → Among s (blocks_of_text k (text_before edit)) → path_of s.hole ≡ c.path ++ c.from ∷ []
      → Passes edit s past → ts ≡ last_node (unit_at s (start_after edit)).nodes ∷ [] → Gives k edit c ts
  of_pieces : (r : Run k (text_before edit)) (i n m past : ℕ) (t u : Trivia) → c.is_block ≡ false → path_to r ≡ c.path
      → c.start ≡ width (take (cut_at r i (start_before edit)) (text_before edit)) → (0 < i ↔ 0 < c.from) → c.end ≡ width (edit.front ++ (edit.old ++ take past edit.rest))
      → PassesPieces k edit r i n m past t u → ts ≡ nodes_now r i m u (start_after edit) → Gives k edit c ts
