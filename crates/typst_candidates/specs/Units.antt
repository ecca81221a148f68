-- Where the pieces of a text's runs begin, by the notes of its reading.
use Rattle.std.specs.Prelude.{ℕ, Bool, true, false, ◌&&◌, ◌==◌, if◌then◌else◌, List, [], ◌∷◌, Option, Some, None}
use Rattle.typst_language.specs.declared.calls.Block.{Block}
use Rattle.typst_language.specs.declared.calls.Block.TheVariants as block
use Rattle.typst_language.specs.declared.calls.Mark.{Mark}
use Rattle.typst_language.specs.declared.calls.Mark.TheVariants as mark
use Rattle.typst_language.specs.declared.calls.Note.{Note}

-- a piece begins at a note, or its run ends
abbrev pub is_piece : Mark → Bool
is_piece (mark.Piece line brackets) = true
is_piece (mark.Opens b) = false
is_piece mark.Closes = false

-- a block is one of content
abbrev pub is_content : Block → Bool
is_content block.Code = false
is_content block.Content = true

-- a content block begins
abbrev pub opens_content : Mark → Bool
opens_content (mark.Piece line brackets) = false
opens_content (mark.Opens b) = is_content b
opens_content mark.Closes = false

-- a block ends
abbrev pub is_closing : Mark → Bool
is_closing (mark.Piece line brackets) = false
is_closing (mark.Opens b) = false
is_closing mark.Closes = true

-- where the pieces begin that are read with this number of levels left, and where the last of them ends
abbrev pub starts : ℕ → List Note → List ℕ
starts levels [] = []
starts levels (n ∷ ns) = if is_piece n.mark && n.levels == levels then n.start ∷ starts levels ns else starts levels ns

-- the notes up to the end of a block that is read with this number of levels left
abbrev pub up_to_end : ℕ → List Note → List Note
up_to_end levels [] = []
up_to_end levels (n ∷ ns) = if is_closing n.mark && n.levels == levels then [] else n ∷ up_to_end levels ns

-- where the pieces of a run begin, except its first; a markup without any isn't a run
abbrev pub after_first : List ℕ → Option (List ℕ)
after_first [] = None
after_first (s ∷ ss) = Some ss

-- where the pieces of the text's own run begin, which are read with all levels left, except its
-- first
abbrev pub top_cuts : List Note → Option (List ℕ)
top_cuts ns = after_first (starts 256 ns)

-- where the pieces begin of the run of the content block at byte `at`, except its first
abbrev pub cuts_in : ℕ → List Note → Option (List ℕ)
cuts_in at [] = None
cuts_in at (n ∷ ns) = if opens_content n.mark && n.start == at then after_first (starts n.levels (up_to_end n.levels ns)) else cuts_in at ns
