-- Pieces of a run that are read again, and what is after them, where other trivia or other errors stand between them than before: the law of the joint.
use Rattle.std.specs.Prelude.{◌≡◌, ℕ, suc, ◌+◌, ◌-◌, ◌<◌, List, ◌++◌, length}
use Rattle.typst_lines.specs.Place.{moved}
use Rattle.typst_lines.specs.Classes.{CharClasses}
use Rattle.typst_language.specs.declared.calls.Block.TheVariants as block
use Rattle.typst_language.specs.Point.{Trivia, point_of}
use Rattle.typst_grammar.specs.Grammar.{max_depth, parsed}
use Rattle.typst_edits.specs.BlockRuns.{content_with, run_at, tail_at, close_at}
use Rattle.typst_edits.specs.Edit.{Among, Passes}
use Rattle.typst_edits.specs.Frame.{Run, top, inner, read_as, end_by, Before, After}
use Rattle.typst_edits.specs.InnerJoint.{left_past}
use Rattle.typst_edits.specs.Joint.{Exchanged, Meets}
use Rattle.typst_edits.specs.Laws.{blocks_of_text, Kept}
use Rattle.typst_edits.specs.Runs.{lead, tail, whole_of, text_run}
use Rattle.typst_edits.specs.Sequence.{first_of, then_of, then_end, then_place, rest_of, onwards_at, AllGo, chain}
use Rattle.typst_edits.specs.Spot.{Spot, last_node, unit_at}
use Rattle.typst_edits.specs.TextReplacement.{TextReplacement, text_before, text_after, start_before, start_after}

-- The block begins before a stretch and ends after it.
pub record Around (edit : TextReplacement) (s : Spot (Unit {0})) : Type 0 where
  pub starts : s.at < length edit.front
  pub ends : length edit.front + length edit.old < s.at + (unit_at s (start_before edit)).taken

-- A run's block is around the stretch. A text's own run has none.
abbrev pub Encloses : (k : CharClasses) (edit : TextReplacement) → Run k (text_before edit) → Type 0
Encloses k edit top = Unit {0}
Encloses k edit (inner s levels a n l) = Around edit s

-- THE TEST OF THE JOINT: n pieces follow the first i of a run and end, with the trivia after them, so many characters past a stretch `old`, which becomes `new`, and m pieces are to take their place.
pub record PassesJoint (k : CharClasses) (edit : TextReplacement) (r : Run k (text_before edit)) (i n m past : ℕ) (t u : Trivia) : Type 0 where
  pub encloses : Encloses k edit r
  -- these are pieces of the run, in both texts
  pub first_go : AllGo (first_of i (read_as r (start_before edit)))
  pub old_go : AllGo (then_of i n (read_as r (start_before edit)))
  pub new_go : AllGo (then_of i m (read_as r (start_after edit)))
  -- what was looked at before them ends at the stretch or before it, and what is looked at after the trivia begins at its end or after it
  pub before : Before k edit r i
  pub after : After k edit r i n past t
  -- the new ones end at the shifted end, with their trivia, and meet what is after them
  pub ends : end_by r i n t (start_before edit) ≡ (length edit.front + length edit.old) + past
  pub shifted : end_by r i m u (start_after edit) ≡ (length edit.front + length edit.new) + past
  pub meets : (let q = read_as r (start_before edit) in Meets q (then_place i n q) (then_end i n q) (then_end i m (read_as r (start_after edit))) t u)

-- What the readings of both texts are then.
pub record KeptJoint (k : CharClasses) (edit : TextReplacement) (i n m past : ℕ) (t u : Trivia) : Type 0 where
  -- the pieces before them are the same, and so is the look at the first token where there are some
  pub first : first_of i (text_run k (start_after edit)) ≡ first_of i (text_run k (start_before edit))
  pub lead_same : 0 < i → lead k (start_after edit) ≡ lead k (start_before edit)
  -- each text is read as its pieces and everything after them
  pub was : (let z = start_before edit in
      let r = chain (first_of i (text_run k z)) (chain (then_of i n (text_run k z)) (rest_of i n (text_run k z))) in
      parsed k max_depth (text_before edit) ≡ whole_of (lead k z) r (tail k r.taken r.state z))
  pub now : (let z = start_before edit in
      let w = start_after edit in
      let r = chain (first_of i (text_run k z)) (chain (then_of i m (text_run k w)) (rest_of i m (text_run k w))) in
      parsed k max_depth (text_after edit) ≡ whole_of (lead k w) r (tail k r.taken r.state w))
  -- and everything after them is the same except for the trivia before it
  pub behind : Exchanged t u (onwards_at i n (text_run k (start_before edit))) (onwards_at i m (text_run k (start_after edit)))

-- The law of the joint: where the new pieces end before other trivia or after other errors, everything after the trivia is as it was.
abbrev pub JointLaw : Type 0
JointLaw = (k : CharClasses) (edit : TextReplacement) (i n m past : ℕ) (t u : Trivia) → PassesJoint k edit top i n m past t u → KeptJoint k edit i n m past t u

-- What the readings of the block are then, and of both texts.
pub record KeptInnerJoint (k : CharClasses) (levels : ℕ) (edit : TextReplacement) (c : Spot (Unit {0})) (i n m past : ℕ) (t u : Trivia) : Type 0 where
  -- each text's block is read as its pieces and everything after them, with the same pieces before them and the same bracket at its end
  pub was : (let z = start_before edit in
      let r = run_at k levels c z in
      unit_at c z ≡ content_with k levels (moved c.at z) (point_of c.start) (chain (first_of i r) (chain (then_of i n r) (rest_of i n r))) (tail_at k levels i n c z) (close_at k levels i n c z))
  pub now : (let z = start_before edit in
      let w = start_after edit in
      let q = run_at k levels c w in
      unit_at c w ≡ content_with k levels (moved c.at w) (point_of c.start) (chain (first_of i (run_at k levels c z)) (chain (then_of i m q) (rest_of i m q))) (tail_at k levels i m c w) (close_at k levels i n c z))
  -- everything after them in the run is the same except for the trivia before it
  pub behind : Exchanged t u (onwards_at i n (run_at k levels c (start_before edit))) (onwards_at i m (run_at k levels c (start_after edit)))
  -- and the edit passes the test of the block, so all around it is kept
  pub passes : Passes edit c (past + left_past k levels i n t c (start_before edit))
  pub kept : Kept k edit c (last_node (unit_at c (start_after edit)).nodes)

-- In a content block everything after the trivia in it is as it was, and so is everything around the block.
abbrev pub InnerJointLaw : Type 0
InnerJointLaw = (k : CharClasses) (levels : ℕ) (edit : TextReplacement) (c : Spot (Unit {0})) (among : Among c (blocks_of_text k (text_before edit))) (name : c.name ≡ block.Content) (level : max_depth - c.fewer ≡ suc levels) (i n m past : ℕ) (t u : Trivia)
    → PassesJoint k edit (inner c levels among name level) i n m past t u → KeptInnerJoint k levels edit c i n m past t u
