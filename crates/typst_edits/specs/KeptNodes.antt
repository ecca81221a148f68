-- The old nodes that a larger candidate gives before those of a reading stand where it begins.
use Rattle.std.specs.Prelude.{◌≡◌, ℕ, suc, ◌+◌, ◌<◌, ◌≤◌, List, ◌++◌, length, take, Some}
use Rattle.typst_lines.specs.Classes.{CharClasses}
use Rattle.typst_tree.specs.Tree.{Tree, bare}
use Rattle.typst_tree.specs.Replace.{replaced_at}
use Rattle.typst_tokens.specs.Sight.{width}
use Rattle.typst_language.specs.Point.{Trivia}
use Rattle.typst_grammar.specs.Grammar.{start_of, tree}
use Rattle.typst_edits.specs.Frame.{Run, read_as, path_to, cut_at, nodes_now, Before}
use Rattle.typst_edits.specs.Children.{kids_of_run}
use Rattle.typst_edits.specs.Leading.{run_from}
use Rattle.typst_edits.specs.OneReading.{TakesNone}
use Rattle.typst_edits.specs.RunPieces.{StandsAt}
use Rattle.typst_edits.specs.Sequence.{first_of, first_end, then_of, then_end, AllGo}
use Rattle.typst_edits.specs.TextReplacement.{TextReplacement, text_before, start_before, start_after}

-- Among the nodes of a run the child `from` begins with the piece after the first a, or is the first of all before the first piece, and the child `mid` with the one d pieces later.
pub record StandsBetween (k : CharClasses) (text : List ℕ) (r : Run k text) (a d from mid : ℕ) : Type 0 where
  pub first : a ≡ 0 → from ≡ 0
  pub starts : 0 < a → StandsAt (run_from r) (kids_of_run r) from (width (take (cut_at r a (start_of text)) text))
  pub ends : StandsAt (run_from r) (kids_of_run r) mid (width (take (cut_at r (a + d) (start_of text)) text))

-- The nodes of these pieces stand between the two children, and a numbered tree where they and others take the place of what stands from the one on is that where the others do from the other on.
pub record KeptNodes (k : CharClasses) (text : List ℕ) (r : Run k text) (a d : ℕ) (t : Trivia) (from mid : ℕ) (root : Tree) : Type 0 where
  pub left : List Tree
  pub right : List Tree
  pub children : kids_of_run r ≡ left ++ (nodes_now r a d t (start_of text) ++ right)
  pub here : length left ≡ from
  pub there : from + length (nodes_now r a d t (start_of text)) ≡ mid
  pub replaced : (to : ℕ) (others : List Tree) → mid ≤ to → replaced_at (path_to r) from to (nodes_now r a d t (start_of text) ++ others) root ≡ replaced_at (path_to r) mid to others root

-- The law of kept nodes: where a piece stands after some pieces of a run, and takes no errors back, their nodes stand in the old tree between the children where they begin and where it does, so a candidate that begins with them need not replace them.
abbrev pub KeptNodesLaw : Type 0
KeptNodesLaw = (k : CharClasses) (text : List ℕ) (r : Run k text) (a d : ℕ) (t : Trivia) (from mid : ℕ) (root : Tree) → bare root ≡ bare (tree k text) → 0 < d
    → AllGo (first_of (suc (a + d)) (read_as r (start_of text))) → (first_end (a + d) (read_as r (start_of text))).state.known ≡ Some t → TakesNone (a + d) (read_as r (start_of text))
    → StandsBetween k text r a d from mid → KeptNodes k text r a d t from mid root

-- The law of a larger candidate's answer: its nodes put in its place are those of the reading put where this begins.
abbrev pub PutAfterLaw : Type 0
PutAfterLaw = (k : CharClasses) (edit : TextReplacement) (r : Run k (text_before edit)) (a d m : ℕ) (t u : Trivia) (from mid to : ℕ) (root : Tree) → bare root ≡ bare (tree k (text_before edit)) → 0 < d
    → AllGo (first_of (suc (a + d)) (read_as r (start_before edit))) → Before k edit r (a + d) → (first_end (a + d) (read_as r (start_before edit))).state.known ≡ Some t
    → TakesNone (a + d) (read_as r (start_before edit)) → StandsBetween k (text_before edit) r a d from mid → mid ≤ to
    → AllGo (then_of (a + d) m (read_as r (start_after edit))) → (then_end (a + d) m (read_as r (start_after edit))).state.known ≡ Some u
    → replaced_at (path_to r) from to (nodes_now r a (d + m) u (start_after edit)) root ≡ replaced_at (path_to r) mid to (nodes_now r (a + d) m u (start_after edit)) root
