-- Candidates of edits of short texts.
use Rattle.std.specs.Prelude.{◌≡◌, ℕ, false, true, List, [], ◌∷◌, codes, map}
use Rattle.typst_kinds.specs.declared.kind.SyntaxKind.TheVariants as kind
use Rattle.typst_kinds.specs.declared.mode.SyntaxMode.TheVariants as mode
use Rattle.typst_language.specs.declared.calls.Block.TheVariants as block
use Rattle.typst_language.specs.declared.calls.Mark.{Mark}
use Rattle.typst_language.specs.declared.calls.Mark.TheVariants as mark
use Rattle.typst_language.specs.declared.calls.Note.{Note}
use Rattle.typst_language.specs.declared.reading.Reading.{Reading}
use Rattle.typst_language.specs.declared.reading.AtNewline.TheVariants as at_newline
use Rattle.typst_tree.specs.Tree.{Tree, forest, leaf_of, inner_of, error_of}
use Rattle.typst_candidates.specs.Candidates.{Candidate, candidates}

-- a note of what begins or ends at byte b, with this number of levels left
abbrev pub noted : Mark → ℕ → ℕ → Note
noted m levels b = let reading : Reading = record { mode = mode.Markup; at_newline = at_newline.Continue } in record {
  mark = m;
  before = b;
  start = b;
  levels = levels;
  state = record { reading = reading; held = reading; empties = 0; is_after_error = false };
  reach = b;
  least = b;
}

-- the notes of pieces that begin at some bytes
abbrev pub pieces : ℕ → List ℕ → List Note
pieces levels bytes = map (λ b. noted (mark.Piece false 0) levels b) bytes

-- the bytes from one to another
pub record Range : Type 0 where
  pub start : ℕ
  pub end : ℕ

-- the bytes a..b
abbrev pub bytes : ℕ → ℕ → Range
bytes a b = record { start = a; end = b }

-- the bytes of each candidate of replacing rs..re, in a text of these nodes
abbrev pub ranges : List Note → ℕ → ℕ → List Tree → List Range
ranges ns rs re ts = map (λ (c : Candidate). bytes c.start c.end) (candidates ns rs re (inner_of kind.Markup (forest ts)))

-- the node of `~`
abbrev pub tilde : Tree
tilde = leaf_of kind.Shorthand (codes "~")

-- the node of a text
abbrev pub text : List ℕ → Tree
text s = leaf_of kind.Text s

-- the node of `[BC]`
abbrev pub content : Tree
content = inner_of kind.ContentBlock (forest (leaf_of kind.LeftBracket (codes "[") ∷ inner_of kind.Markup (forest (text (codes "BC") ∷ [])) ∷ leaf_of kind.RightBracket (codes "]") ∷ []))

-- the candidates of some edits, each of a text and the replaced bytes
pub record Examples : Type 0 where
  -- `abc~def~gh~`, 5..6
  pub words : ranges (pieces 256 (0 ∷ 3 ∷ 4 ∷ 7 ∷ 8 ∷ 10 ∷ 11 ∷ [])) 5 6 (text (codes "abc") ∷ tilde ∷ text (codes "def") ∷ tilde ∷ text (codes "gh") ∷ tilde ∷ []) ≡ bytes 0 8 ∷ bytes 0 10 ∷ bytes 0 11 ∷ []
  -- `a~b~c~d~`, 8..8
  pub at_end : ranges (pieces 256 (0 ∷ 1 ∷ 2 ∷ 3 ∷ 4 ∷ 5 ∷ 6 ∷ 7 ∷ 8 ∷ [])) 8 8 (text (codes "a") ∷ tilde ∷ text (codes "b") ∷ tilde ∷ text (codes "c") ∷ tilde ∷ text (codes "d") ∷ tilde ∷ []) ≡ bytes 5 8 ∷ bytes 5 8 ∷ bytes 3 8 ∷ bytes 0 8 ∷ []
  -- nothing, 0..0
  pub nothing : ranges (pieces 256 (0 ∷ [])) 0 0 [] ≡ bytes 0 0 ∷ []
  -- `A: #[BC]`, 6..6: the block's run, the block, and the text's run
  pub nested : ranges (noted (mark.Piece true 0) 256 0 ∷ noted (mark.Piece false 0) 256 1 ∷ noted (mark.Piece false 0) 256 3 ∷ noted (mark.Opens block.Content) 254 4
      ∷ noted (mark.Piece true 0) 254 5 ∷ noted (mark.Piece false 0) 254 7 ∷ noted mark.Closes 254 8 ∷ noted (mark.Piece false 0) 256 8 ∷ [])
      6 6 (text (codes "A") ∷ text (codes ":") ∷ leaf_of kind.Space (codes " ") ∷ leaf_of kind.Hash (codes "#") ∷ content ∷ []) ≡ bytes 5 7 ∷ bytes 4 8 ∷ bytes 0 8 ∷ []
  -- a hash isn't separated from what it embeds: `https:/a#{x}`, 7..7
  pub embedded : ranges (pieces 256 (0 ∷ 5 ∷ 6 ∷ 8 ∷ 12 ∷ [])) 7 7 (text (codes "https") ∷ text (codes ":") ∷ text (codes "/a") ∷ leaf_of kind.Hash (codes "#") ∷ inner_of kind.CodeBlock (forest (text (codes "{x}") ∷ [])) ∷ []) ≡ bytes 0 12 ∷ []
  -- an empty error belongs to the piece before: `~~#x` with an error and ` els`, 8..8
  pub errors : ranges (pieces 256 (0 ∷ 1 ∷ 2 ∷ 5 ∷ 8 ∷ [])) 8 8 (tilde ∷ tilde ∷ leaf_of kind.Hash (codes "#") ∷ text (codes "x") ∷ error_of [] [] ∷ leaf_of kind.Space (codes " ") ∷ text (codes "els") ∷ []) ≡ bytes 2 8 ∷ bytes 2 8 ∷ bytes 2 8 ∷ bytes 0 8 ∷ []
