-- Where one condition of a law alone fails, and the trees differ; and what code blocks and the steps down a tree are, as it follows from the definitions.
use Rattle.std.specs.Prelude.{◌≡◌, ℕ, List, [], ◌∷◌, ◌++◌, codes, map}
use Rattle.typst_kinds.specs.declared.kind.SyntaxKind.{SyntaxKind}
use Rattle.typst_kinds.specs.declared.kind.SyntaxKind.TheVariants as kind
use Rattle.typst_tree.specs.Tree.{Tree, trees}
use Rattle.typst_lines.specs.Classes.{CharClasses, by_law}
use Rattle.typst_grammar.specs.Grammar.{start_of, tree}
use Rattle.typst_grammar.specs.Examples.{text}
use Rattle.typst_edits.specs.Examples.{most, least}
use Rattle.typst_edits.specs.Hole.{path_of}
use Rattle.typst_edits.specs.Laws.{blocks_of_text}
use Rattle.typst_edits.specs.Lost.{lost_of_text}
use Rattle.typst_edits.specs.RunExamples.{lengths}
use Rattle.typst_edits.specs.RunTrees.{given}
use Rattle.typst_edits.specs.Runs.{lead, text_run}
use Rattle.typst_edits.specs.Spot.{unit_at}
use Rattle.typst_edits.specs.TextReplacement.{replacing}
use Rattle.typst_edits.specs.Walk.{Step, walk_to}
use Rattle.typst_edits.specs.Sequence.{onwards_at, asks_of, first_of, first_end, then_of, then_end}

-- the kinds of the nodes at the top of a text's tree
abbrev pub kinds : CharClasses → List ℕ → List SyntaxKind
kinds k s = map (λ (t : Tree). t.head.kind) (trees (tree k s).kids)

-- what is computed
pub record Conditions (beyond : CharClasses) : Type 0 where
  -- a content block within a code block: where they begin, their paths, and the levels fewer
  pub code_places : map (λ c. c.at) (blocks_of_text (by_law beyond) (codes "#{[a]}")) ≡ 1 ∷ 2 ∷ []
  pub code_paths : map (λ c. path_of c.hole) (blocks_of_text (by_law beyond) (codes "#{[a]}")) ≡ (1 ∷ []) ∷ (1 ∷ 1 ∷ 0 ∷ []) ∷ []
  pub code_levels : map (λ c. c.fewer) (blocks_of_text (by_law beyond) (codes "#{[a]}")) ≡ 2 ∷ 3 ∷ []
  -- neither of their notes is lost
  pub none_lost : lost_of_text (by_law beyond) (codes "#{[a]}") ≡ []
  -- the steps to the block of `@a[b] c` that covers its `b`
  pub step_indices : map (λ (s : Step). s.index) (walk_to 2 (by_law beyond) (replacing (codes "@a[") (codes "b") [] (codes "] c"))) ≡ 0 ∷ 1 ∷ []
  pub step_starts : map (λ (s : Step). s.start) (walk_to 2 (by_law beyond) (replacing (codes "@a[") (codes "b") [] (codes "] c"))) ≡ 0 ∷ 2 ∷ []
  -- a look before: `a~b`, and an `x` put in after the first piece, which looked at the tilde; nothing is read in its place
  pub ahead_seen : most ((lead (by_law beyond) (start_of (codes "a~b"))).asks ++ asks_of (first_of 1 (text_run (by_law beyond) (start_of (codes "a~b"))))) ≡ 2
  pub ahead_after : least (onwards_at 1 0 (text_run (by_law beyond) (start_of (codes "a~b")))).asks ≡ 0
  pub ahead_ends : map (λ s. (first_end 1 (text_run (by_law beyond) (start_of s))).taken) (codes "a~b" ∷ codes "ax~b" ∷ []) ≡ 1 ∷ 2 ∷ []
  pub ahead_value : (first_end 1 (text_run (by_law beyond) (start_of (codes "ax~b")))).value ≡ (first_end 1 (text_run (by_law beyond) (start_of (codes "a~b")))).value
  pub ahead_state : (first_end 1 (text_run (by_law beyond) (start_of (codes "ax~b")))).state ≡ (first_end 1 (text_run (by_law beyond) (start_of (codes "a~b")))).state
  -- and the first piece is another
  pub ahead_old : given (first_of 1 (text_run (by_law beyond) (start_of (codes "a~b")))) [] ≡ text (codes "a") ∷ []
  pub ahead_new : given (first_of 1 (text_run (by_law beyond) (start_of (codes "ax~b")))) [] ≡ text (codes "ax") ∷ []
  -- the end: `a~b`, and two tildes in place of the one, of which one is read as a piece
  pub end_lengths : lengths (then_of 1 1 (text_run (by_law beyond) (start_of (codes "a~~b")))) ≡ 1 ∷ []
  pub end_value : (then_end 1 1 (text_run (by_law beyond) (start_of (codes "a~~b")))).value ≡ (then_end 1 1 (text_run (by_law beyond) (start_of (codes "a~b")))).value
  pub end_state : (then_end 1 1 (text_run (by_law beyond) (start_of (codes "a~~b")))).state ≡ (then_end 1 1 (text_run (by_law beyond) (start_of (codes "a~b")))).state
  pub end_old : kinds (by_law beyond) (codes "a~b") ≡ kind.Text ∷ kind.Shorthand ∷ kind.Text ∷ []
  pub end_new : kinds (by_law beyond) (codes "a~~b") ≡ kind.Text ∷ kind.Shorthand ∷ kind.Shorthand ∷ kind.Text ∷ []
  -- the brackets that are open: `a~b]`, and a bracket in place of the tilde
  pub nesting_state : (then_end 1 1 (text_run (by_law beyond) (start_of (codes "a[b]")))).state ≡ (then_end 1 1 (text_run (by_law beyond) (start_of (codes "a~b]")))).state
  pub nesting_old : kinds (by_law beyond) (codes "a~b]") ≡ kind.Text ∷ kind.Shorthand ∷ kind.Text ∷ kind.Error ∷ []
  pub nesting_new : kinds (by_law beyond) (codes "a[b]") ≡ kind.Text ∷ kind.Text ∷ kind.Text ∷ kind.Text ∷ []
  -- the state: `x# ]`, and a `y` in place of the hash, which leaves an empty error that the bracket takes back
  pub error_ends : (then_end 0 2 (text_run (by_law beyond) (start_of (codes "x# ]")))).taken ≡ (then_end 0 1 (text_run (by_law beyond) (start_of (codes "xy ]")))).taken
  pub error_value : (then_end 0 1 (text_run (by_law beyond) (start_of (codes "xy ]")))).value ≡ (then_end 0 2 (text_run (by_law beyond) (start_of (codes "x# ]")))).value
  pub error_old : (then_end 0 2 (text_run (by_law beyond) (start_of (codes "x# ]")))).state.empties ≡ 1
  pub error_new : (then_end 0 1 (text_run (by_law beyond) (start_of (codes "xy ]")))).state.empties ≡ 0
  pub error_back : (onwards_at 0 2 (text_run (by_law beyond) (start_of (codes "x# ]")))).back ≡ 1
  pub error_none : (onwards_at 0 1 (text_run (by_law beyond) (start_of (codes "xy ]")))).back ≡ 0
  -- a block's end: `@a[b]`, and a bracket in place of the `b`
  pub block_ends : map (λ c. (unit_at c (start_of (codes "@a[]]"))).taken) (blocks_of_text (by_law beyond) (codes "@a[b]")) ≡ 2 ∷ []
  pub block_old : kinds (by_law beyond) (codes "@a[b]") ≡ kind.Ref ∷ []
  pub block_new : kinds (by_law beyond) (codes "@a[]]") ≡ kind.Ref ∷ kind.Error ∷ []
