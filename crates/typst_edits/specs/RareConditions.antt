-- Where a column, a depth, a reading that was given up or a look around a block alone makes an edit fail the test, and the trees differ; and where a block stands in a node that is given another kind.
use Rattle.std.specs.Prelude.{◌≡◌, ℕ, Bool, true, false, ◌==◌, List, [], ◌∷◌, Option, Some, None, codes, map}
use Rattle.typst_kinds.specs.declared.kind.SyntaxKind.{SyntaxKind}
use Rattle.typst_kinds.specs.declared.kind.SyntaxKind.TheVariants as kind
use Rattle.typst_tree.specs.Tree.{Tree, leaf_of, error_of}
use Rattle.typst_lines.specs.Classes.{CharClasses, by_law}
use Rattle.typst_language.specs.declared.calls.Block.TheVariants as block
use Rattle.typst_language.specs.declared.reading.Newlines.{Newlines}
use Rattle.typst_language.specs.Ask.{Ask}
use Rattle.typst_language.specs.Point.{Trivia, no_newlines, gap_of, state_of}
use Rattle.typst_language.specs.Shape.{becomes}
use Rattle.typst_language.specs.Shape.NodeChange.{renamed, unparened}
use Rattle.typst_language.specs.Shape.Shape.{keeps}
use Rattle.typst_language.specs.Steps.{eat, node}
use Rattle.typst_language.specs.Syntax.{Parser, ◌>>◌, ◌>>=◌}
use Rattle.typst_language.specs.Syntax.Op.{further, column, complains}
use Rattle.typst_language.specs.Syntax.Parser.{gives, does, pick, either, block as reads}
use Rattle.typst_language.specs.Meaning.{Outcome, start_point, run}
use Rattle.typst_grammar.specs.Markup.{markup_reading}
use Rattle.typst_grammar.specs.Grammar.{rules, max_depth, level_at, start_of}
use Rattle.typst_grammar.specs.Examples.{markup, branch, text}
use Rattle.typst_edits.specs.Conditions.{kinds}
use Rattle.typst_edits.specs.Examples.{least, most}
use Rattle.typst_edits.specs.Hole.{path_of}
use Rattle.typst_edits.specs.JointBytes.{asked_past}
use Rattle.typst_edits.specs.Laws.{block_at}
use Rattle.typst_edits.specs.Occurrences.{level_spots}
use Rattle.typst_edits.specs.Runs.{text_run}
use Rattle.typst_edits.specs.Sequence.{then_end}
use Rattle.typst_edits.specs.Spot.{Spot, unit_at}

-- the newlines of the trivia at hand, where they are known
abbrev pub newlines_in : Option Trivia → Newlines
newlines_in None = no_newlines
newlines_in (Some t) = t.newlines

-- what is asked after the trivia that follow the first piece of a text
abbrev pub asked_after : CharClasses → List ℕ → List Ask
asked_after k s = elim (then_end 0 1 (text_run k (start_of s))).state.known [ None ↦ [] | Some t ↦ asked_past k 0 1 t (start_of s) ]

-- a content block in brackets, with these nodes in it
abbrev pub in_brackets : List Tree → Tree
in_brackets ts = branch kind.ContentBlock (leaf_of kind.LeftBracket (codes "[") ∷ markup ts ∷ leaf_of kind.RightBracket (codes "]") ∷ [])

-- a content block, where a given number of levels are left
abbrev pub block_of : CharClasses → List ℕ → ℕ → Outcome (Unit {0})
block_of k s levels = block_at k levels block.Content (start_of s) (start_point markup_reading)

-- a content block
abbrev pub first_reading : Parser Bool
first_reading = reads block.Content >> gives true

-- a content block whose reading is given up; then its bracket is read as a token
abbrev pub both_readings : Parser Bool
both_readings = either first_reading (λ is_wrong. is_wrong) (eat >> gives true)

-- the blocks that stand in what is read so
abbrev pub spots_in : CharClasses → Parser Bool → List ℕ → List (Spot Bool)
spots_in k p s = level_spots (rules k) k max_depth p (start_of s) (start_point markup_reading)

-- the kinds of the nodes of what is read so
abbrev pub kinds_in : CharClasses → Parser Bool → List ℕ → List SyntaxKind
kinds_in k p s = map (λ (t : Tree). t.head.kind) (run (level_at k max_depth) p (start_of s) (start_point markup_reading)).nodes

-- says so where a test fails: an empty error
abbrev pub unless : Bool → Parser Bool
unless holds = pick holds (gives true) (does (complains (codes "no")) >> gives true)

-- a token is text, as a letter is
abbrev pub is_letter : SyntaxKind → Bool
is_letter kind.Text = true
is_letter _ = false

-- a content block, before which the token after its bracket is asked for
abbrev pub peeking : Parser Bool
peeking = does further >>= (λ k. reads block.Content >> unless (is_letter k))

-- a content block, after which the column is asked for
abbrev pub measuring : Parser Bool
measuring = reads block.Content >> (does column >>= (λ n. unless (n == 3)))

-- a content block between two tokens, in a node that loses its parens in math
abbrev pub unparening : Parser Bool
unparening = node (λ _. keeps unparened) (node (λ _. becomes kind.MathDelimited) (eat >> (reads block.Content >> (eat >> gives true))))

-- a content block in a node that is given another kind
abbrev pub renaming_around : Parser Bool
renaming_around = node (λ _. keeps (renamed kind.Strong)) (node (λ _. becomes kind.Emph) first_reading)

-- a content block that is given another kind itself
abbrev pub renaming : Parser Bool
renaming = node (λ _. keeps (renamed kind.Strong)) first_reading

-- an item in column 2, after a comment, and one in column 3, which is in it
abbrev pub indented : List ℕ
indented = codes "a\n/*\n*/- b\n   - c"

-- with two letters more in the comment the first item is in column 4, and the second one is no longer in it
abbrev pub less_indented : List ℕ
less_indented = codes "a\n/*\nxx*/- b\n   - c"

-- what is computed
pub record RareConditions (beyond : CharClasses) : Type 0 where
  -- a column: `xx` put in after the second newline, within the comment after the first piece, which is read again
  pub column_ends : map (λ s. (then_end 0 1 (text_run (by_law beyond) (start_of s))).taken) (indented ∷ less_indented ∷ []) ≡ 1 ∷ 1 ∷ []
  pub column_gaps : map (λ s. gap_of (then_end 0 1 (text_run (by_law beyond) (start_of s))).state.known) (indented ∷ less_indented ∷ []) ≡ 6 ∷ 8 ∷ []
  pub column_newlines : newlines_in (then_end 0 1 (text_run (by_law beyond) (start_of less_indented))).state.known ≡ newlines_in (then_end 0 1 (text_run (by_law beyond) (start_of indented))).state.known
  pub column_value : (then_end 0 1 (text_run (by_law beyond) (start_of less_indented))).value ≡ (then_end 0 1 (text_run (by_law beyond) (start_of indented))).value
  pub column_state : state_of (then_end 0 1 (text_run (by_law beyond) (start_of less_indented))).state ≡ state_of (then_end 0 1 (text_run (by_law beyond) (start_of indented))).state
  -- but the item after the comment, two characters past the stretch, looks three back for its column
  pub column_after : least (asked_after (by_law beyond) indented) ≡ 3
  -- and the second item is no longer in the first
  pub column_old : kinds (by_law beyond) indented ≡ kind.Text ∷ kind.Space ∷ kind.BlockComment ∷ kind.ListItem ∷ []
  pub column_new : kinds (by_law beyond) less_indented ≡ kind.Text ∷ kind.Space ∷ kind.BlockComment ∷ kind.ListItem ∷ kind.Space ∷ kind.ListItem ∷ []
  -- a depth: with another number of levels left a block ends at the same place in the same state, as one node of its kind
  pub depth_ends : map (λ levels. (block_of (by_law beyond) (codes "[a]") levels).taken) (1 ∷ 0 ∷ []) ≡ 3 ∷ 3 ∷ []
  pub depth_state : (block_of (by_law beyond) (codes "[a]") 0).state ≡ (block_of (by_law beyond) (codes "[a]") 1).state
  -- but another one
  pub depth_old : (block_of (by_law beyond) (codes "[a]") 1).nodes ≡ in_brackets (text (codes "a") ∷ []) ∷ []
  pub depth_new : (block_of (by_law beyond) (codes "[a]") 0).nodes ≡ in_brackets (error_of (codes "maximum parsing depth exceeded") (codes "a") ∷ []) ∷ []
  -- a reading that was given up: the block in it, read again with another letter, ends where it should
  pub given_up_at : map (λ c. c.at) (spots_in (by_law beyond) first_reading (codes "[a]")) ≡ 0 ∷ []
  pub given_up_ends : map (λ c. (unit_at c (start_of (codes "[b]"))).taken) (spots_in (by_law beyond) first_reading (codes "[a]")) ≡ 3 ∷ []
  pub given_up_nodes : kinds_in (by_law beyond) first_reading (codes "[a]") ≡ kind.ContentBlock ∷ []
  -- but it has no spot, and its node doesn't stand in the tree
  pub given_up_none : map (λ c. c.at) (spots_in (by_law beyond) both_readings (codes "[a]")) ≡ []
  pub given_up_tree : kinds_in (by_law beyond) both_readings (codes "[a]") ≡ kind.LeftBracket ∷ []
  -- a look from before the block into it: what stands after its bracket is asked for before, and is no longer a letter
  pub ahead_before : map (λ c. most c.before) (spots_in (by_law beyond) peeking (codes "[a]")) ≡ 3 ∷ []
  pub ahead_after : map (λ c. least c.after) (spots_in (by_law beyond) peeking (codes "[a]")) ≡ 0 ∷ []
  pub ahead_ends : map (λ c. (unit_at c (start_of (codes "[~]"))).taken) (spots_in (by_law beyond) peeking (codes "[a]")) ≡ 3 ∷ []
  pub ahead_old : kinds_in (by_law beyond) peeking (codes "[a]") ≡ kind.ContentBlock ∷ []
  pub ahead_new : kinds_in (by_law beyond) peeking (codes "[~]") ≡ kind.ContentBlock ∷ kind.Error ∷ []
  -- a look from after the block into it: the column of what stands after it is asked for, and is greater now
  pub back_before : map (λ c. most c.before) (spots_in (by_law beyond) measuring (codes "[a]b")) ≡ 1 ∷ []
  pub back_after : map (λ c. least c.after) (spots_in (by_law beyond) measuring (codes "[a]b")) ≡ 4 ∷ []
  pub back_ends : map (λ c. (unit_at c (start_of (codes "[aa]b"))).taken) (spots_in (by_law beyond) measuring (codes "[a]b")) ≡ 4 ∷ []
  pub back_old : kinds_in (by_law beyond) measuring (codes "[a]b") ≡ kind.ContentBlock ∷ []
  pub back_new : kinds_in (by_law beyond) measuring (codes "[aa]b") ≡ kind.ContentBlock ∷ kind.Error ∷ []
  -- a block in what becomes math without delimiters keeps its spot, at its path
  pub unparened_paths : map (λ c. path_of c.hole) (spots_in (by_law beyond) unparening (codes "([a])")) ≡ (0 ∷ 1 ∷ []) ∷ []
  pub unparened_kinds : kinds_in (by_law beyond) unparening (codes "([a])") ≡ kind.Math ∷ []
  -- and so does one in a node of another kind, but not one whose own node is given another kind
  pub renamed_paths : map (λ c. path_of c.hole) (spots_in (by_law beyond) renaming_around (codes "[a]")) ≡ (0 ∷ 0 ∷ []) ∷ []
  pub renamed_kinds : kinds_in (by_law beyond) renaming_around (codes "[a]") ≡ kind.Strong ∷ []
  pub renamed_none : map (λ c. path_of c.hole) (spots_in (by_law beyond) renaming (codes "[a]")) ≡ []
