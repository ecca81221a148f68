-- Edits inside pieces of short texts, as they follow from the definitions.
use Rattle.std.specs.Prelude.{◌≡◌, ℕ, Bool, true, false, List, [], ◌∷◌, take, drop, codes, map}
use Rattle.typst_kinds.specs.declared.kind.SyntaxKind.TheVariants as kind
use Rattle.typst_tree.specs.Tree.{Tree, leaf_of}
use Rattle.typst_lines.specs.Classes.{CharClasses, by_law}
use Rattle.typst_language.specs.declared.calls.Note.{Note}
use Rattle.typst_language.specs.Meaning.{Outcome}
use Rattle.typst_language.specs.Point.{gap_of}
use Rattle.typst_grammar.specs.Grammar.{start_of, tree, log}
use Rattle.typst_grammar.specs.Examples.{markup, branch, text, unclosed}
use Rattle.typst_edits.specs.Bytes.{lowest}
use Rattle.typst_edits.specs.Examples.{most, least}
use Rattle.typst_edits.specs.PieceNotes.{listed}
use Rattle.typst_edits.specs.Runs.{lead, text_run}
use Rattle.typst_edits.specs.Sequence.{onwards_at, asks_of, first_of, then_of, then_end, rest_of}

-- how much the turns that go on take, one by one
abbrev pub lengths : List (Outcome (Bool × (Bool × ℕ))) → List ℕ
lengths os = map (λ o. o.taken) os

abbrev pub space : List ℕ → Tree
space s = leaf_of kind.Space s

abbrev pub comment : List ℕ → Tree
comment s = leaf_of kind.LineComment s

-- what is computed
pub record Runs (beyond : CharClasses) : Type 0 where
  -- `a~b`, and two hyphens in place of the tilde: the second piece is read again, and ends one further on
  pub old_lengths : lengths (then_of 1 1 (text_run (by_law beyond) (start_of (codes "a~b")))) ≡ 1 ∷ []
  pub new_lengths : lengths (then_of 1 1 (text_run (by_law beyond) (start_of (codes "a--b")))) ≡ 2 ∷ []
  pub same_value : (then_end 1 1 (text_run (by_law beyond) (start_of (codes "a--b")))).value ≡ (then_end 1 1 (text_run (by_law beyond) (start_of (codes "a~b")))).value
  pub same_state : (then_end 1 1 (text_run (by_law beyond) (start_of (codes "a--b")))).state ≡ (then_end 1 1 (text_run (by_law beyond) (start_of (codes "a~b")))).state
  -- what follows it begins after it
  pub none_after : least (rest_of 1 1 (text_run (by_law beyond) (start_of (codes "a~b")))).asks ≡ 0
  -- `~*b*`, and an escape in place of the tilde: it ends where it should and leaves what was left, but a star looks back
  pub star_value : (then_end 0 1 (text_run (by_law beyond) (start_of (codes "\\a*b*")))).value ≡ (then_end 0 1 (text_run (by_law beyond) (start_of (codes "~*b*")))).value
  pub star_state : (then_end 0 1 (text_run (by_law beyond) (start_of (codes "\\a*b*")))).state ≡ (then_end 0 1 (text_run (by_law beyond) (start_of (codes "~*b*")))).state
  pub star_behind : least (rest_of 0 1 (text_run (by_law beyond) (start_of (codes "~*b*")))).asks ≡ 1
  -- and there the trees differ
  pub star_before : tree (by_law beyond) (codes "~*b*") ≡ markup (leaf_of kind.Shorthand (codes "~") ∷ branch kind.Strong (leaf_of kind.Star (codes "*") ∷ markup (text (codes "b") ∷ []) ∷ leaf_of kind.Star (codes "*") ∷ []) ∷ [])
  pub star_after : tree (by_law beyond) (codes "\\a*b*") ≡ markup (leaf_of kind.Escape (codes "\\a") ∷ text (codes "*b") ∷ branch kind.Strong (unclosed (codes "*") ∷ markup [] ∷ []) ∷ [])
  -- a bracket more, and another state: `a~]` with a bracket in place of the tilde leaves another nesting
  pub nesting_old : (then_end 1 1 (text_run (by_law beyond) (start_of (codes "a~b]")))).value ≡ (false, 0)
  pub nesting_new : (then_end 1 1 (text_run (by_law beyond) (start_of (codes "a[b]")))).value ≡ (false, 1)
  -- a newline more: what comes after stands at the start of a line
  pub line_old : (then_end 0 1 (text_run (by_law beyond) (start_of (codes "a ~")))).value ≡ (false, 0)
  pub line_new : (then_end 0 1 (text_run (by_law beyond) (start_of (codes "a\n~")))).value ≡ (true, 0)
  -- the look at the first token sees the character after it
  pub seen_before : most (lead (by_law beyond) (start_of (codes "a~b"))).asks ≡ 2
  -- `a //cc`, a newline and `b`, with a `d` in the comment: the first piece leaves other trivia, and with the second one all is as it was
  pub comment_lengths : lengths (then_of 0 2 (text_run (by_law beyond) (start_of (codes "a //dc\nb")))) ≡ 1 ∷ 7 ∷ []
  pub comment_value : (then_end 0 2 (text_run (by_law beyond) (start_of (codes "a //dc\nb")))).value ≡ (then_end 0 2 (text_run (by_law beyond) (start_of (codes "a //cc\nb")))).value
  pub comment_state : (then_end 0 2 (text_run (by_law beyond) (start_of (codes "a //dc\nb")))).state ≡ (then_end 0 2 (text_run (by_law beyond) (start_of (codes "a //cc\nb")))).state
  -- after the first piece alone everything is the same except for the comment
  pub joint_old : (onwards_at 0 1 (text_run (by_law beyond) (start_of (codes "a //cc\nb")))).nodes ≡ space (codes " ") ∷ comment (codes "//cc") ∷ space (codes "\n") ∷ text (codes "b") ∷ []
  pub joint_new : (onwards_at 0 1 (text_run (by_law beyond) (start_of (codes "a //dc\nb")))).nodes ≡ space (codes " ") ∷ comment (codes "//dc") ∷ space (codes "\n") ∷ text (codes "b") ∷ []
  pub joint_gaps : map (λ t. gap_of (then_end 0 1 (text_run (by_law beyond) (start_of t))).state.known) (codes "a //cc\nb" ∷ codes "a //dc\nb" ∷ []) ≡ 6 ∷ 6 ∷ []
  -- four lines, and a letter after the last newline: what the first two, three and four pieces look at ends so far on
  pub lines : map (λ n. most (asks_of (first_of n (text_run (by_law beyond) (start_of (codes "a\nb\nc\nd\n")))))) (2 ∷ 3 ∷ 4 ∷ []) ≡ 6 ∷ 8 ∷ 9 ∷ []
  -- the notes of the comment's text: the first has no look before it, the second says where the trivia end, and no look after that one begins before there
  pub joint_starts : map (λ (n : Note). n.start) (listed (log (by_law beyond) (codes "a //cc\nb")).notes) ≡ 0 ∷ 7 ∷ 8 ∷ []
  pub joint_reach : map (λ (n : Note). n.reach) (take 1 (listed (log (by_law beyond) (codes "a //cc\nb")).notes)) ≡ 0 ∷ []
  pub joint_least : lowest (drop 2 (listed (log (by_law beyond) (codes "a //cc\nb")).notes)) (log (by_law beyond) (codes "a //cc\nb")).least ≡ 8
