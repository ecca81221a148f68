-- An edit of a short text and what answers it, as it follows from the definitions.
use Rattle.std.specs.Prelude.{◌≡◌, ℕ, ◌+◌, ◌-◌, false, List, [], ◌∷◌, ◌++◌, codes, map, Some}
use Rattle.std.specs.declared.ops.Range.{Range}
use Rattle.typst_kinds.specs.declared.kind.SyntaxKind.TheVariants as kind
use Rattle.typst_tree.specs.Tree.{Tree, leaf_of}
use Rattle.typst_tree.specs.Replace.{replaced_at}
use Rattle.typst_lines.specs.Classes.{CharClasses, by_law}
use Rattle.typst_candidates.specs.Candidates.{Candidate}
use Rattle.typst_grammar.specs.Examples.{text}
use Rattle.typst_grammar.specs.Grammar.{max_depth, start_of, tree}
use Rattle.typst_edits.specs.Answer.{candidates, IsAnswer}
use Rattle.typst_edits.specs.BlockRuns.{run_at}
use Rattle.typst_edits.specs.Examples.{most}
use Rattle.typst_edits.specs.Frame.{Gives}
use Rattle.typst_edits.specs.Laws.{blocks_of_text}
use Rattle.typst_edits.specs.Runs.{lead, text_run}
use Rattle.typst_edits.specs.Sequence.{then_end, asks_of, first_of}
use Rattle.typst_edits.specs.Spot.{unit_at}
use Rattle.typst_edits.specs.TextReplacement.{TextReplacement, text_before, replacing}

abbrev pub bytes : ℕ → ℕ → Range ℕ
bytes a b = record { start = a; end = b }

-- the bytes of each candidate
abbrev pub ranges : List Candidate → List (Range ℕ)
ranges cs = map (λ (c : Candidate). bytes c.start c.end) cs

abbrev pub tilde : Tree
tilde = leaf_of kind.Shorthand (codes "~")

-- of `abc~def~gh~` the `e` becomes a plus: the first four children are replaced
abbrev pub plus : TextReplacement
plus = replacing (codes "abc~d") (codes "e") (codes "+") (codes "f~gh~")

abbrev pub first_four : Candidate
first_four = record { is_block = false; path = []; from = 0; to = 4; start = 0; end = 8 }

abbrev pub new_four : List Tree
new_four = text (codes "abc") ∷ tilde ∷ text (codes "d+f") ∷ tilde ∷ []

-- what is computed
pub record Answered (beyond : CharClasses) : Type 0 where
  -- `abc~def~gh~`, 5..6 by a plus: the candidates, and the first of them passes
  pub words : ranges (candidates (by_law beyond) plus (tree (by_law beyond) (text_before plus))) ≡ bytes 0 8 ∷ bytes 0 10 ∷ bytes 0 11 ∷ []
  pub passes : Gives (by_law beyond) plus first_four new_four
  -- so that is the answer where its nodes find numbers
  pub answer : (was now : Tree) → replaced_at [] 0 4 new_four was ≡ Some now
      → IsAnswer (by_law beyond) plus (candidates (by_law beyond) plus (tree (by_law beyond) (text_before plus))) was now (bytes 0 8)

-- where the blocks of one text end, read of another
abbrev pub ends_in : CharClasses → List ℕ → List ℕ → List ℕ
ends_in k old new = map (λ c. c.at + (unit_at c (start_of new)).taken) (blocks_of_text k old)

-- how many brackets stand open after two pieces of a content block, and how much they take, read of another text
abbrev pub open_in : CharClasses → List ℕ → List ℕ → List (ℕ × ℕ)
open_in k old new = map (λ c. (let e = then_end 0 2 (run_at k (max_depth - c.fewer - 1) c (start_of new)) in (e.value.1, e.taken))) (blocks_of_text k old)

-- conditions that alone refuse a candidate; RareConditions.antt has a reading that was given up, and a look back from after a block
pub record RefusedAlone (beyond : CharClasses) : Type 0 where
  -- looks: after a link with six quotes four pieces stand before 14, and what was looked at in them ends at 18, after 17
  pub looks_before : most ((lead (by_law beyond) (start_of (codes "https://a.b''''''"))).asks ++ asks_of (first_of 4 (text_run (by_law beyond) (start_of (codes "https://a.b''''''"))))) ≡ 18
  -- the end: with a comment in place of the `b` the block of `@a[b] c` goes on to the text's end, and not to 6
  pub end_old : ends_in (by_law beyond) (codes "@a[b] c") (codes "@a[b] c") ≡ 5 ∷ []
  pub end_new : ends_in (by_law beyond) (codes "@a[b] c") (codes "@a[//] c") ≡ 8 ∷ []
  -- what is carried: with a bracket for the first tilde of `a~b~c~d]` the first four pieces end where they did, with a bracket more
  pub carried_old : (then_end 0 4 (text_run (by_law beyond) (start_of (codes "a~b~c~d]")))).value ≡ (false, 0)
  pub carried_new : (then_end 0 4 (text_run (by_law beyond) (start_of (codes "a[b~c~d]")))).value ≡ (false, 1)
  pub carried_ends : map (λ s. (then_end 0 4 (text_run (by_law beyond) (start_of s))).taken) (codes "a~b~c~d]" ∷ codes "a[b~c~d]" ∷ []) ≡ 4 ∷ 4 ∷ []
  -- brackets at a block's end: with a backslash at 3 the two pieces in `#[[]]` end at the shifted end, and leave a bracket open; the block itself ends there
  pub open_old : open_in (by_law beyond) (codes "#[[]]") (codes "#[[]]") ≡ (0, 2) ∷ []
  pub open_new : open_in (by_law beyond) (codes "#[[]]") (codes "#[[\\]]") ≡ (1, 3) ∷ []
  pub block_ends : ends_in (by_law beyond) (codes "#[[]]") (codes "#[[\\]]") ≡ 6 ∷ []
