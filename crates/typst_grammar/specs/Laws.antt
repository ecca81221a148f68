-- Laws of the grammar.
use Rattle.std.specs.Prelude.{◌≡◌, ℕ, Bool, List, encode_utf8_all}
use Rattle.typst_kinds.specs.declared.kind.SyntaxKind.{SyntaxKind}
use Rattle.typst_tree.specs.Tree.{text_of}
use Rattle.typst_lines.specs.Classes.{CharClasses}
use Rattle.typst_language.specs.declared.calls.AfterName.{AfterName}
use Rattle.typst_language.specs.declared.calls.Block.{Block}
use Rattle.typst_language.specs.declared.calls.Role.{Role}
use Rattle.typst_language.specs.Calls.{Call}
use Rattle.typst_language.specs.Knot.{blocks_of}
use Rattle.typst_language.specs.Meaning.{Meaning, run}
use Rattle.typst_language.specs.Sound.{Lawful}
use Rattle.typst_code.specs.Markup.{markup_turn, markup_exprs, markup_run}
use Rattle.typst_code.specs.Params.{params}
use Rattle.typst_code.specs.Parens.{after_paren, as_group, readings}
use Rattle.typst_code.specs.Patterns.{destructuring}
use Rattle.typst_grammar.specs.declared.part.RunKind.{RunKind}
use Rattle.typst_grammar.specs.Grammar.{rules, level_at, meaning, tree, tree_code, tree_math}
use Rattle.typst_grammar.specs.Pieces.{run_level}

-- A piece of a text's own run, of a content block's or of another sequence, with whether a line
-- begins there and in how many brackets it is: an expression with what follows up to the next
-- token.
abbrev pub piece : CharClasses → RunKind → Bool → (SyntaxKind → Bool) → Bool → ℕ → ℕ → Meaning (Bool × (Bool × ℕ))
piece k which is_run stops at_start nesting levels = run (run_level k levels which) (markup_turn is_run stops (at_start, nesting))

-- The expressions of a sequence.
abbrev pub sequence : CharClasses → Bool → (SyntaxKind → Bool) → ℕ → Meaning (Unit {0})
sequence k at_start stops levels = run (level_at k levels) (markup_exprs at_start stops)

-- The expressions of a text or a content block.
abbrev pub whole_run : CharClasses → RunKind → (SyntaxKind → Bool) → ℕ → Meaning (Unit {0})
whole_run k which stops levels = run (run_level k levels which) (markup_run stops)

-- A block, from its first token on.
abbrev pub whole_block : CharClasses → Block → ℕ → Meaning (Unit {0})
whole_block k b levels = blocks_of (rules k) k levels (meaning k levels) b

-- The laws of pieces, in every sequence.
abbrev pub PieceLaws : Type 0
PieceLaws = (k : CharClasses) (which : RunKind) (is_run : Bool) (stops : SyntaxKind → Bool) (at_start : Bool) (nesting : ℕ) → Lawful (piece k which is_run stops at_start nesting)

-- The laws of sequences.
abbrev pub SequenceLaws : Type 0
SequenceLaws = (k : CharClasses) (at_start : Bool) (stops : SyntaxKind → Bool) → Lawful (sequence k at_start stops)

-- The laws of runs.
abbrev pub RunLaws : Type 0
RunLaws = (k : CharClasses) (which : RunKind) (stops : SyntaxKind → Bool) → Lawful (whole_run k which stops)

-- The laws of blocks.
abbrev pub BlockLaws : Type 0
BlockLaws = (k : CharClasses) (b : Block) → Lawful (whole_block k b)

-- The laws of what is read one level deeper.
abbrev pub CallLaws : Type 0
CallLaws = (k : CharClasses) (call : Call) → Lawful (λ levels. meaning k levels call)

-- ---- readings of what begins with a paren

-- Parens as a group, an array or a dictionary, with the look at the token after them.
abbrev pub group_reading : CharClasses → ℕ → Meaning AfterName
group_reading k levels = run (level_at k levels) as_group

-- Parens as a group, an array or a dictionary, from after the first one on: what is remembered of a
-- first reading is what this gives.
abbrev pub rest_reading : CharClasses → ℕ → Meaning AfterName
rest_reading k levels = run (level_at k levels) after_paren

-- Parens as the parameters of a closure.
abbrev pub params_reading : CharClasses → ℕ → Meaning (Unit {0})
params_reading k levels = run (level_at k levels) params

-- Parens as a destructuring, where these names were seen before it.
abbrev pub destructuring_reading : CharClasses → Role → List (List ℕ) → ℕ → Meaning (List (List ℕ))
destructuring_reading k role names levels = run (level_at k levels) (destructuring role names)

-- Parens by the first reading, or by the second one if what comes after them asks for it.
abbrev pub counted_reading : CharClasses → ℕ → Meaning AfterName
counted_reading k levels = run (level_at k levels) readings

-- The laws of the first reading.
abbrev pub GroupLaws : Type 0
GroupLaws = (k : CharClasses) → Lawful (group_reading k)

-- The laws of the first reading after its paren.
abbrev pub RestLaws : Type 0
RestLaws = (k : CharClasses) → Lawful (rest_reading k)

-- The laws of the second reading, as parameters.
abbrev pub ParamsLaws : Type 0
ParamsLaws = (k : CharClasses) → Lawful (params_reading k)

-- The laws of the second reading, as a destructuring.
abbrev pub DestructuringLaws : Type 0
DestructuringLaws = (k : CharClasses) (role : Role) (names : List (List ℕ)) → Lawful (destructuring_reading k role names)

-- The laws of the reading that counts.
abbrev pub CountedLaws : Type 0
CountedLaws = (k : CharClasses) → Lawful (counted_reading k)

-- ---- whole texts

-- The law of the leaves: the leaves of the tree of a text, joined, are the text.
abbrev pub LeavesLaw : Type 0
LeavesLaw = (k : CharClasses) (text : List ℕ) → text_of (tree k text) ≡ encode_utf8_all text

-- The leaves of the tree of a text of code, joined, are the text.
abbrev pub CodeLeavesLaw : Type 0
CodeLeavesLaw = (k : CharClasses) (text : List ℕ) → text_of (tree_code k text) ≡ encode_utf8_all text

-- The leaves of the tree of the text of a formula, joined, are the text.
abbrev pub MathLeavesLaw : Type 0
MathLeavesLaw = (k : CharClasses) (text : List ℕ) → text_of (tree_math k text) ≡ encode_utf8_all text
