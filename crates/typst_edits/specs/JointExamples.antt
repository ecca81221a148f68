-- Edits that leave other trivia after the pieces that are read again, or end a run otherwise, and pass the test, as it follows from the definitions.
use Rattle.std.specs.Prelude.{◌≡◌, ℕ, Bool, true, false, List, [], ◌∷◌, codes, map}
use Rattle.typst_kinds.specs.declared.kind.SyntaxKind.TheVariants as kind
use Rattle.typst_tree.specs.Tree.{leaf_of}
use Rattle.typst_lines.specs.Classes.{CharClasses, by_law}
use Rattle.typst_language.specs.Point.{Trivia, no_newlines}
use Rattle.typst_grammar.specs.Grammar.{start_of}
use Rattle.typst_edits.specs.BlockRuns.{run_at}
use Rattle.typst_edits.specs.Frame.{top, nodes_now}
use Rattle.typst_edits.specs.Joins.{PassesJoint}
use Rattle.typst_edits.specs.Joint.{is_over_at}
use Rattle.typst_edits.specs.Laws.{blocks_of_text}
use Rattle.typst_edits.specs.RunPieces.{root_run}
use Rattle.typst_edits.specs.RunExamples.{space, comment, lengths}
use Rattle.typst_edits.specs.Runs.{text_run}
use Rattle.typst_edits.specs.Sequence.{then_end, then_place, first_of}
use Rattle.typst_edits.specs.TextReplacement.{replacing}

-- no trivia
abbrev pub no_trivia : Trivia
no_trivia = record { nodes = []; gap = 0; newlines = no_newlines }

-- a newline, a comment of a line, another newline, and a comment between two signs
abbrev pub two_comments : Trivia
two_comments = record {
  nodes = space (codes "\n") ∷ comment (codes "//c") ∷ space (codes "\n") ∷ leaf_of kind.BlockComment (codes "/*d*/") ∷ [];
  gap = 10;
  newlines = record { any = true; parbreak = false };
}

-- the same without the first comment: both newlines are a parbreak
abbrev pub one_comment : Trivia
one_comment = record {
  nodes = leaf_of kind.Parbreak (codes "\n\n") ∷ leaf_of kind.BlockComment (codes "/*d*/") ∷ [];
  gap = 7;
  newlines = record { any = true; parbreak = true };
}

-- a comment between two signs, by itself
abbrev pub a_comment : Trivia
a_comment = record { nodes = leaf_of kind.BlockComment (codes "/*d*/") ∷ []; gap = 5; newlines = no_newlines }

-- in the content blocks of a text of one level: what is carried after the first piece
abbrev pub block_ends : CharClasses → List ℕ → List (Bool × ℕ)
block_ends beyond s = map (λ c. (then_end 0 1 (run_at (by_law beyond) 254 c (start_of s))).value) (blocks_of_text (by_law beyond) s)

-- and whether the expressions end there
abbrev pub block_overs : CharClasses → List ℕ → List Bool
block_overs beyond s = map (λ c. (let r = run_at (by_law beyond) 254 c (start_of s) in is_over_at r (then_place 0 1 r) (then_end 0 1 r))) (blocks_of_text (by_law beyond) s)

-- what is computed
pub record Joints (beyond : CharClasses) : Type 0 where
  -- a comment goes from between two newlines, which become a parbreak: the `b` after them stays
  pub newlines_pass : PassesJoint (by_law beyond) (replacing (codes "a\n") (codes "//c") [] (codes "\n/*d*/b~e")) top 0 1 1 6 two_comments one_comment
  -- two slashes make a link of all before a brace, and of the comment before it
  pub link_lengths : lengths (first_of 5 (text_run (by_law beyond) (start_of (codes "https:~b/*d*/{c")))) ≡ 5 ∷ 1 ∷ 1 ∷ 1 ∷ 7 ∷ []
  pub link_now : lengths (first_of 2 (text_run (by_law beyond) (start_of (codes "https://b/*d*/{c")))) ≡ 14 ∷ 2 ∷ []
  pub link_passes : PassesJoint (by_law beyond) (replacing (codes "https:") (codes "~") (codes "//") (codes "b/*d*/{c")) top 0 4 1 6 a_comment no_trivia
  -- a bracket in place of a tilde leaves another nesting, and a space at the text's end other trivia: nothing after them sees it
  pub nesting_old : (then_end 0 3 (text_run (by_law beyond) (start_of (codes "a~b")))).value ≡ (false, 0)
  pub nesting_now : (then_end 0 3 (text_run (by_law beyond) (start_of (codes "a[b")))).value ≡ (false, 1)
  pub nesting_passes : PassesJoint (by_law beyond) (replacing (codes "a") (codes "~") (codes "[") (codes "b")) top 0 3 3 1 no_trivia no_trivia
  -- The nodes of the second piece of `a ~b` are the tilde alone: the space before it belongs to the first, and would stand twice in the new tree if they kept it.
  pub own_nodes : nodes_now (root_run (by_law beyond) (codes "a ~b")) 1 1 no_trivia (start_of (codes "a ~b")) ≡ leaf_of kind.Shorthand (codes "~") ∷ []
  -- a comment of a line goes before a block's closing bracket, and its newline with it: a line begins there no more, but the expressions end there
  pub line_values : map (λ s. block_ends beyond s) (codes "@a[b //c\n]" ∷ codes "@a[b ]" ∷ []) ≡ ((true, 0) ∷ []) ∷ ((false, 0) ∷ []) ∷ []
  pub line_over : block_overs beyond (codes "@a[b //c\n]") ≡ true ∷ []
