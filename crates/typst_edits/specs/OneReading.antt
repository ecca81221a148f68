-- One reading of a new text serves every candidate of a run.
use Rattle.std.specs.Prelude.{◌≡◌, ◌↔◌, ℕ, ◌+◌, ◌<◌, ◌≤◌, Bool, true, List, ◌++◌, length, Some}
use Rattle.typst_lines.specs.Place.{Place, moved}
use Rattle.typst_lines.specs.Classes.{CharClasses}
use Rattle.typst_language.specs.Point.{Trivia}
use Rattle.typst_language.specs.Meaning.{Outcome}
use Rattle.typst_edits.specs.Frame.{Run, read_as, opened_by, end_by, is_over, nodes_now, Before, After, Agrees, PassesPieces}
use Rattle.typst_edits.specs.Heads.{first_place, minds_at}
use Rattle.typst_edits.specs.Resumed.{fresh, read_again}
use Rattle.typst_edits.specs.Sequence.{Sequence, first_of, first_end, then_of, then_end, together, AllGo, End, end_of}
use Rattle.typst_edits.specs.TextReplacement.{TextReplacement, text_before, start_before, start_after}

-- The piece after the first i takes no errors back, or there are none before it.
abbrev pub TakesNone : ℕ → Sequence → Type 0
TakesNone i q = minds_at q (first_place i q) (first_end i q) ≡ true → (first_end i q).state.empties ≡ 0

-- What the test says of the old text after the first a pieces: n more end, with their trivia, so many characters past the stretch, and what is looked at after them begins at its end or after it.
pub record EndsOld (k : CharClasses) (edit : TextReplacement) (r : Run k (text_before edit)) (a n past : ℕ) (t : Trivia) : Type 0 where
  pub old_go : AllGo (then_of a n (read_as r (start_before edit)))
  pub after : After k edit r a n past t
  pub known : (then_end a n (read_as r (start_before edit))).state.known ≡ Some t
  pub ends : end_by r a n t (start_before edit) ≡ (length edit.front + length edit.old) + past

-- What it says of the new text, by a reading that begins d pieces later: m pieces of it end, with their trivia, a given number of characters past the new stretch, and carry there what n old pieces do.
pub record EndsNew (k : CharClasses) (edit : TextReplacement) (r : Run k (text_before edit)) (a n d m past : ℕ) (u : Trivia) : Type 0 where
  pub new_go : AllGo (then_of (a + d) m (read_as r (start_after edit)))
  pub known_now : (then_end (a + d) m (read_as r (start_after edit))).state.known ≡ Some u
  pub shifted : end_by r (a + d) m u (start_after edit) ≡ (length edit.front + length edit.new) + past
  pub agrees : Agrees r (is_over a n (read_as r (start_before edit))) (d + m) (then_end a n (read_as r (start_before edit))).value (then_end (a + d) m (read_as r (start_after edit))).value

-- What a reading of the new text that begins after the first a + d pieces says of pieces that begin after the first a.
pub record ServesMore (k : CharClasses) (edit : TextReplacement) (r : Run k (text_before edit)) (a d : ℕ) : Type 0 where
  -- the looks before these pieces end before the stretch, too
  pub fewer : Before k edit r a
  -- the reading begins at the same place and point as in the old text, and takes no errors back if the old piece there didn't
  pub opens : opened_by r (start_after edit) ≡ opened_by r (start_before edit)
  pub begins : 0 < a + d → first_end (a + d) (read_as r (start_after edit)) ≡ first_end (a + d) (read_as r (start_before edit))
  pub clear : 0 < a + d → TakesNone (a + d) (read_as r (start_before edit)) → TakesNone (a + d) (read_as r (start_after edit))
  -- the pieces that begin after the first a are d old ones, and those of the reading
  pub pieces : (m : ℕ) → then_of a (d + m) (read_as r (start_after edit)) ≡ then_of a d (read_as r (start_before edit)) ++ then_of (a + d) m (read_as r (start_after edit))
  -- they pass the test exactly if the old text is as it says and the reading ends there
  pub passes : (n m past : ℕ) (t u : Trivia) → PassesPieces k edit r a n (d + m) past t u ↔ (EndsOld k edit r a n past t × EndsNew k edit r a n d m past u)
  -- and none pass that end before the reading begins
  pub least : (n m past : ℕ) (t u : Trivia) → PassesPieces k edit r a n m past t u → d ≤ m
  -- their nodes are those of the old pieces, up to where the reading begins, and those of the reading
  pub nodes : (m : ℕ) (t u : Trivia) → 0 < a + d → TakesNone (a + d) (read_as r (start_before edit))
      → (first_end (a + d) (read_as r (start_before edit))).state.known ≡ Some t
      → AllGo (then_of (a + d) m (read_as r (start_after edit))) → (then_end (a + d) m (read_as r (start_after edit))).state.known ≡ Some u
      → nodes_now r a (d + m) u (start_after edit) ≡ nodes_now r a d t (start_before edit) ++ nodes_now r (a + d) m u (start_after edit)

-- The law of one reading: where the looks before some pieces of a run end before the stretch, a reading of the new text that begins after them serves all pieces of the run that begin there or earlier.
abbrev pub OneReadingLaw : Type 0
OneReadingLaw = (k : CharClasses) (edit : TextReplacement) (r : Run k (text_before edit)) (a d : ℕ)
    → AllGo (first_of (a + d) (read_as r (start_before edit))) → Before k edit r (a + d) → ServesMore k edit r a d

-- where pieces end that are read again from the token after the first i
abbrev pub again_end : ℕ → ℕ → Trivia → Sequence → End (Bool × ℕ)
again_end i m t q = let e = first_end i q in end_of e.value (fresh q.level (moved t.gap (first_place i q))) (read_again i m t q)

-- these pieces as one outcome
abbrev pub again_by : ℕ → ℕ → Trivia → Sequence → Outcome (Unit {0})
again_by i m t q = together (again_end i m t q).state (read_again i m t q)

-- What pieces give that are read again from their first token on, after these trivia.
pub record GivesAgain (k : CharClasses) (text : List ℕ) (r : Run k text) (z : Place) (i m : ℕ) (t u : Trivia) : Type 0 where
  -- they go on, too
  pub go : AllGo (read_again i m t (read_as r z))
  -- they end at the same place, with the same carried and in the same state
  pub value : (then_end i m (read_as r z)).value ≡ (again_end i m t (read_as r z)).value
  pub state : (then_end i m (read_as r z)).state ≡ (again_end i m t (read_as r z)).state
  pub taken : (then_end i m (read_as r z)).taken ≡ t.gap + (again_end i m t (read_as r z)).taken
  -- and they give a candidate's nodes, with the trivia after them
  pub nodes : nodes_now r i m u z ≡ (again_by i m t (read_as r z)).nodes ++ u.nodes

-- The law of a candidate's nodes: those of pieces of a run after others are read again from their first token on, where that takes no errors back.
abbrev pub GivesAgainLaw : Type 0
GivesAgainLaw = (k : CharClasses) (text : List ℕ) (r : Run k text) (z : Place) (i m : ℕ) (t u : Trivia) → 0 < i → 0 < m
    → AllGo (first_of i (read_as r z)) → AllGo (then_of i m (read_as r z)) → (first_end i (read_as r z)).state.known ≡ Some t → TakesNone i (read_as r z) → GivesAgain k text r z i m t u
