-- A text's tree and log, where pieces of its run are exchanged.
use Rattle.std.specs.Prelude.{◌≡◌, ℕ, Bool, true, List, [], ◌∷◌, ◌++◌}
use Rattle.typst_kinds.specs.declared.kind.SyntaxKind.TheVariants as kind
use Rattle.typst_tree.specs.Tree.{Tree, forest, inner_of}
use Rattle.typst_lines.specs.Place.{Place}
use Rattle.typst_lines.specs.Classes.{CharClasses}
use Rattle.typst_language.specs.declared.calls.Mark.TheVariants as mark
use Rattle.typst_language.specs.Ask.{Ask, shift}
use Rattle.typst_language.specs.Ask.Ask.{marked}
use Rattle.typst_language.specs.Log.{no_log, logged}
use Rattle.typst_language.specs.Meaning.{Outcome, standing}
use Rattle.typst_language.specs.Point.{gap_of, state_of}
use Rattle.typst_grammar.specs.Grammar.{max_depth, tree, log}
pub use Rattle.typst_grammar.specs.Pieces.{given}
use Rattle.typst_edits.specs.Runs.{start, lead, PassesRun, text_run}
use Rattle.typst_edits.specs.Sequence.{onwards_at, asks_of, first_of, first_end, then_of, then_end}
use Rattle.typst_edits.specs.TextReplacement.{TextReplacement, text_before, text_after, start_before, start_after}

-- a text's tree, by the nodes of its first pieces, the pieces after them, and all after these
abbrev pub tree_by : List (Outcome (Bool × (Bool × ℕ))) → List (Outcome (Bool × (Bool × ℕ))) → Outcome (Unit {0}) → Tree
tree_by first second behind = inner_of kind.Markup (forest (standing behind (given second (given first []))))

-- the note where a text's run begins
abbrev pub run_mark : Ask
run_mark = marked 0 (gap_of start.known) 0 (mark.Piece true 0) (state_of start)

-- what is asked in reading a text, by the look at its first token, its first pieces, and what is asked after them
abbrev pub asks_by : CharClasses → ℕ → Place → List (Outcome (Bool × (Bool × ℕ))) → List Ask → List Ask
asks_by k i z first behind = run_mark ∷ (((lead k z).asks ++ asks_of first) ++ shift (first_end i (text_run k z)).taken behind)

-- What the trees and the logs of both texts are, where an edit inside some pieces passes the test.
pub record KeptTree (k : CharClasses) (edit : TextReplacement) (i n m : ℕ) : Type 0 where
  -- the same nodes stand before the pieces, and the same is read after them
  pub tree_was : (let z = start_before edit in tree k (text_before edit) ≡ tree_by (first_of i (text_run k z)) (then_of i n (text_run k z)) (onwards_at i n (text_run k z)))
  pub tree_now : (let z = start_before edit in tree k (text_after edit) ≡ tree_by (first_of i (text_run k z)) (then_of i m (text_run k (start_after edit))) (onwards_at i n (text_run k z)))
  -- in the log the old pieces' part is exchanged for the new ones', and what is after it is moved
  pub log_was : (let z = start_before edit in
      log k (text_before edit) ≡ logged max_depth z no_log (asks_by k i z (first_of i (text_run k z)) (asks_of (then_of i n (text_run k z)) ++ shift (then_end i n (text_run k z)).taken (onwards_at i n (text_run k z)).asks)))
  pub log_now : (let z = start_before edit in
      let w = start_after edit in
      log k (text_after edit) ≡ logged max_depth w no_log (asks_by k i w (first_of i (text_run k z)) (asks_of (then_of i m (text_run k w)) ++ shift (then_end i m (text_run k w)).taken (onwards_at i n (text_run k z)).asks)))

-- The law of a run's tree and log: where an edit inside some pieces of a text's run passes the test, both have the new pieces' part in place of the old ones'.
abbrev pub RunTreeLaw : Type 0
RunTreeLaw = (k : CharClasses) (edit : TextReplacement) (i n m past : ℕ) → PassesRun k edit i n m past → KeptTree k edit i n m
