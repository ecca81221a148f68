-- What pieces of a run are worth that pass the test.
use Rattle.std.specs.Prelude.{◌≡◌, ◌↔◌, ℕ, suc, ◌+◌, ◌-◌, ◌<◌, true, false, List, [], ◌∷◌, ◌++◌, length, take}
use Rattle.typst_lines.specs.Classes.{CharClasses}
use Rattle.typst_tree.specs.Tree.{Tree, text_of}
use Rattle.typst_tree.specs.Laws.{put_at}
use Rattle.typst_tokens.specs.Sight.{width}
use Rattle.typst_language.specs.declared.calls.Block.TheVariants as block
use Rattle.typst_language.specs.Point.{Trivia}
use Rattle.typst_candidates.specs.Candidates.{Candidate}
use Rattle.typst_grammar.specs.Grammar.{max_depth, start_of, tree}
use Rattle.typst_edits.specs.Children.{kids_of_run}
use Rattle.typst_edits.specs.Edit.{Among}
use Rattle.typst_edits.specs.Frame.{Run, top, inner, read_as, path_to, cut_at, nodes_now, is_over, PassesPieces}
use Rattle.typst_edits.specs.Joins.{Encloses}
use Rattle.typst_edits.specs.Heads.{StartsWell, GoesOnWell}
use Rattle.typst_edits.specs.Laws.{blocks_of_text}
use Rattle.typst_edits.specs.Leading.{bytes_of, run_from}
use Rattle.typst_edits.specs.Spot.{Spot}
use Rattle.typst_edits.specs.TextReplacement.{TextReplacement, text_before, text_after, start_before, start_after}

-- the run of a whole text
abbrev pub root_run : (k : CharClasses) (text : List ℕ) → Run k text
root_run k text = top

-- the run of a content block that is a unit and isn't the deepest
abbrev pub block_run : {k : CharClasses} {text : List ℕ} (s : Spot (Unit {0})) (levels : ℕ) → Among s (blocks_of_text k text) → s.name ≡ block.Content → max_depth - s.fewer ≡ suc levels → Run k text
block_run s levels among name level = inner s levels among name level

-- Of several nodes, the first of which begins at a byte, the one of an index begins at another byte and isn't empty.
pub record StandsAt (from : ℕ) (ts : List Tree) (index at : ℕ) : Type 0 where
  pub left : List Tree
  pub node : Tree
  pub right : List Tree
  pub is : ts ≡ left ++ node ∷ right
  pub here : length left ≡ index
  pub begins : from + bytes_of left ≡ at
  pub full : 0 < length (text_of node)

-- What a candidate's ends say of a run's pieces: where pieces stand before them, or after them, the child there isn't empty and takes no errors back, and else they end with the last child.
pub record BeginsWell (k : CharClasses) (text : List ℕ) (r : Run k text) (c : Candidate) (i n : ℕ) : Type 0 where
  pub starts : StartsWell i n (read_as r (start_of text))
  pub goes_on : GoesOnWell i n (read_as r (start_of text))
  pub first : 0 < i → StandsAt (run_from r) (kids_of_run r) c.from c.start
  pub next : is_over i n (read_as r (start_of text)) ≡ false → StandsAt (run_from r) (kids_of_run r) c.to c.end
  pub last : is_over i n (read_as r (start_of text)) ≡ true → c.to ≡ length (kids_of_run r)

-- The law of pieces: where they pass the test and begin and end as a candidate says that begins well, in a run whose block is around the stretch, the tree of the new text is the old one with their nodes in the candidate's place.
abbrev pub PiecesLaw : Type 0
PiecesLaw = (k : CharClasses) (edit : TextReplacement) (r : Run k (text_before edit)) (c : Candidate) (i n m past : ℕ) (t u : Trivia) → Encloses k edit r → c.path ≡ path_to r
    → c.start ≡ width (take (cut_at r i (start_before edit)) (text_before edit)) → (0 < i ↔ 0 < c.from) → c.end ≡ width (edit.front ++ (edit.old ++ take past edit.rest))
    → PassesPieces k edit r i n m past t u → BeginsWell k (text_before edit) r c i n
    → tree k (text_after edit) ≡ put_at c.path c.from c.to (nodes_now r i m u (start_after edit)) (tree k (text_before edit))
