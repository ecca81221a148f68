-- Records of a short text.
use Rattle.std.specs.Prelude.{◌≡◌, ℕ, suc, ◌^◌, ◌-◌, false, true, List, [], ◌∷◌, drop, Some, None}
use Rattle.typst_kinds.specs.declared.mode.SyntaxMode.TheVariants as mode
use Rattle.typst_language.specs.declared.calls.Block.TheVariants as block
use Rattle.typst_language.specs.declared.calls.Mark.{Mark}
use Rattle.typst_language.specs.declared.calls.Mark.TheVariants as mark
use Rattle.typst_language.specs.declared.calls.Note.{Note}
use Rattle.typst_language.specs.declared.reading.Reading.{Reading}
use Rattle.typst_language.specs.declared.reading.AtNewline.TheVariants as at_newline
use Rattle.typst_candidates.specs.declared.entry.Entry.{Entry}
use Rattle.typst_candidates.specs.declared.entry.EntryKind.{EntryKind}
use Rattle.typst_candidates.specs.declared.entry.EntryKind.TheVariants as entry_kind
use Rattle.typst_candidates.specs.Entries.{Units, units_by, front_of, rear_of, spliced}
use Rattle.typst_candidates.specs.Records.{opening_of}
use Rattle.typst_candidates.specs.Cursors.{first_piece, last_piece}

-- a note of what begins or ends: its place and its token, after trivia, the levels left, and the
-- bounds of the looks since the note before
abbrev pub noted : Mark → ℕ → ℕ → ℕ → ℕ → ℕ → Note
noted m before start levels reach least = let reading : Reading = record { mode = mode.Markup; at_newline = at_newline.Continue } in record {
  mark = m;
  before = before;
  start = start;
  levels = levels;
  state = record { reading = reading; held = reading; empties = 0; is_after_error = false };
  reach = reach;
  least = least;
}

-- an entry with these parts
abbrev pub entry : EntryKind → ℕ → ℕ → ℕ → ℕ → ℕ → Entry
entry t step gap forth back count = record { kind = t; step = step; gap = gap; forth = forth; back = back; count = count }

-- the notes of `@x[ab  ]`, where the word in the block ends at byte `word`, and the text at byte
-- `end`
abbrev pub notes : ℕ → ℕ → List Note
notes word end = noted (mark.Piece true 0) 0 0 256 0 (2 ^ 64 - 1) ∷ noted (mark.Opens block.Content) 2 2 255 3 1 ∷ noted (mark.Piece true 0) 3 3 255 3 3
    ∷ noted (mark.Piece false 0) word (end - 1) 255 end 4 ∷ noted mark.Closes end end 255 end end ∷ noted (mark.Piece false 0) end end 256 (suc end) (suc end) ∷ []

-- the units of `@x[ab  ]`
abbrev pub units : Units
units = units_by (notes 5 8) 9

-- what these units are, what decides an edit of that text, and the pieces of its runs
pub record RecordExamples : Type 0 where
  pub entries : units ≡ record {
    entries = entry (entry_kind.Piece true) 0 0 0 0 0 ∷ entry (entry_kind.Opens block.Content mode.Markup) 2 0 1 0 255 ∷ entry (entry_kind.Piece true) 1 0 0 0 0
        ∷ entry (entry_kind.Piece false) 2 2 1 0 0 ∷ entry entry_kind.Closes 1 0 0 0 0 ∷ entry (entry_kind.Piece false) 0 0 1 0 0 ∷ [];
    back = 0;
  }
  -- with one more letter, `@x[abc  ]`, only one entry differs
  pub letter : units_by (notes 6 9) 10 ≡ spliced 2 3 (entry (entry_kind.Piece false) 3 2 1 0 0 ∷ []) units
  -- where bytes 4 to 5 are replaced, the word's piece is read again, from its own note to the next
  pub front : front_of 4 0 units.entries ≡ 3
  pub rear : rear_of 5 0 0 units.entries units.back ≡ 3
  -- after the text's first piece comes its second, in the block's run another, after which the block ends
  pub outer : first_piece 0 1 (drop 1 units.entries) ≡ Some 5
  pub inner : first_piece 0 3 (drop 3 units.entries) ≡ Some 3
  pub last : first_piece 0 4 (drop 4 units.entries) ≡ None
  pub outer_before : last_piece 0 units.entries 5 ≡ Some 0
  pub inner_before : last_piece 0 units.entries 3 ≡ Some 2
  pub none_before : last_piece 0 units.entries 2 ≡ None
  pub opening : opening_of 2 0 0 units.entries ≡ Some 1
