-- Which pieces of a run a candidate is.
use Rattle.std.specs.Prelude.{◌≡◌, ◌↔◌, ℕ, suc, ◌+◌, ◌-◌, ◌<◌, ◌≤◌, true, false, List, [], ◌∷◌, ◌++◌, length, take, Some}
use Rattle.typst_lines.specs.Classes.{CharClasses}
use Rattle.typst_tree.specs.Tree.{Tree, bare}
use Rattle.typst_tree.specs.Laws.{start_at}
use Rattle.typst_tokens.specs.Sight.{width}
use Rattle.typst_language.specs.declared.calls.Block.TheVariants as block
use Rattle.typst_language.specs.Point.{Trivia}
use Rattle.typst_candidates.specs.Candidates.{Candidate}
use Rattle.typst_grammar.specs.Grammar.{max_depth, tree}
use Rattle.typst_edits.specs.Answer.{candidates}
use Rattle.typst_edits.specs.Edit.{Among}
use Rattle.typst_edits.specs.Frame.{Run, read_as, cut_at, is_over, end_by}
use Rattle.typst_edits.specs.Hole.{path_of}
use Rattle.typst_edits.specs.Laws.{blocks_of_text}
use Rattle.typst_edits.specs.OneReading.{TakesNone}
use Rattle.typst_edits.specs.Joins.{Around}
use Rattle.typst_edits.specs.RunPieces.{root_run, block_run}
use Rattle.typst_edits.specs.Sequence.{first_of, then_of, then_end, AllGo}
use Rattle.typst_edits.specs.Spot.{Spot}
use Rattle.typst_edits.specs.TextReplacement.{TextReplacement, text_before, start_before}

-- A candidate is the n pieces after the first i of a run, with the trivia after them: it begins and ends where they do, so many characters past the stretch. The first of them takes back no errors, and only in a run without an expression there is none.
pub record IsPieces (k : CharClasses) (edit : TextReplacement) (r : Run k (text_before edit)) (c : Candidate) (i n past : ℕ) (t : Trivia) : Type 0 where
  pub go : AllGo (first_of i (read_as r (start_before edit)))
  pub go_on : AllGo (then_of i n (read_as r (start_before edit)))
  pub known : (then_end i n (read_as r (start_before edit))).state.known ≡ Some t
  pub ends : end_by r i n t (start_before edit) ≡ (length edit.front + length edit.old) + past
  pub start : c.start ≡ width (take (cut_at r i (start_before edit)) (text_before edit))
  pub led : 0 < i ↔ 0 < c.from
  pub end : c.end ≡ width (edit.front ++ (edit.old ++ take past edit.rest))
  pub none : 0 < i → TakesNone i (read_as r (start_before edit))
  pub empty : n ≡ 0 → (i ≡ 0) × (is_over 0 0 (read_as r (start_before edit)) ≡ true)
  -- it begins at the stretch or before it
  pub early : cut_at r i (start_before edit) ≤ length edit.front

-- Some pieces of a text's own run are the candidate.
pub record RootPiecesOf (k : CharClasses) (edit : TextReplacement) (c : Candidate) : Type 0 where
  pub i : ℕ
  pub n : ℕ
  pub past : ℕ
  pub t : Trivia
  pub is : IsPieces k edit (root_run k (text_before edit)) c i n past t

-- The law of candidates at the root: each that isn't a block is pieces of the text's run.
abbrev pub RootPiecesOfLaw : Type 0
RootPiecesOfLaw = (k : CharClasses) (edit : TextReplacement) (root : Tree) (c : Candidate) → bare root ≡ bare (tree k (text_before edit))
    → Among c (candidates k edit root) → c.is_block ≡ false → c.path ≡ [] → RootPiecesOf k edit c

-- Some pieces of a content block's run are the candidate; the block stands around the stretch, and its node is the one above the candidate's.
pub record InnerPiecesOf (k : CharClasses) (edit : TextReplacement) (root : Tree) (c : Candidate) : Type 0 where
  pub s : Spot (Unit {0})
  pub levels : ℕ
  pub among : Among s (blocks_of_text k (text_before edit))
  pub name : s.name ≡ block.Content
  pub level : max_depth - s.fewer ≡ suc levels
  pub path : c.path ≡ path_of s.hole ++ 1 ∷ []
  pub around : Around edit s
  pub byte : start_at (take (length c.path - 1) c.path) 0 root ≡ width (take s.at (text_before edit))
  pub i : ℕ
  pub n : ℕ
  pub past : ℕ
  pub t : Trivia
  pub is : IsPieces k edit (block_run s levels among name level) c i n past t

-- The law of candidates in content blocks: each that isn't a block, and not at the root, is pieces of a content block's run.
abbrev pub InnerPiecesOfLaw : Type 0
InnerPiecesOfLaw = (k : CharClasses) (edit : TextReplacement) (root : Tree) (c : Candidate) → bare root ≡ bare (tree k (text_before edit))
    → Among c (candidates k edit root) → c.is_block ≡ false → (c.path ≡ [] → ⊥) → InnerPiecesOf k edit root c
