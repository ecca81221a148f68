-- The notes of a reading by what is between each and the one before it: the units by which an edit is decided.
use Rattle.std.specs.Prelude.{ℕ, suc, ◌+◌, ◌-◌, nat_le, nat_lt, max, Bool, if◌then◌else◌, List, [], ◌∷◌, ◌++◌, take, drop, Some, None}
use Rattle.typst_language.specs.declared.calls.Mark.{Mark}
use Rattle.typst_language.specs.declared.calls.Mark.TheVariants as mark
use Rattle.typst_language.specs.declared.calls.Note.{Note}
use Rattle.typst_language.specs.declared.reading.State.{State}
use Rattle.typst_language.specs.Log.{Log}
use Rattle.typst_candidates.specs.declared.entry.Entry.{Entry}
use Rattle.typst_candidates.specs.declared.entry.EntryKind.{EntryKind}
use Rattle.typst_candidates.specs.declared.entry.EntryKind.TheVariants as entry_kind

-- what begins or ends at a note, and of a block the mode in which its first token is read
abbrev pub entry_kind_of : Mark → State → EntryKind
entry_kind_of (mark.Piece at_start brackets) s = entry_kind.Piece at_start
entry_kind_of (mark.Opens block) s = entry_kind.Opens block s.held.mode
entry_kind_of mark.Closes s = entry_kind.Closes

-- the brackets that are open after a piece, or the levels that are left in a block
abbrev pub count_of : Mark → ℕ → ℕ
count_of (mark.Piece at_start brackets) levels = brackets
count_of (mark.Opens block) levels = levels
count_of mark.Closes levels = 0

-- how far before the token at byte `start` looks begin whose least is `least`, which counts the
-- mark before the text
abbrev pub back_of : ℕ → ℕ → ℕ
back_of start least = suc start - least

-- the entry of a note, after a note whose token begins at a byte
abbrev pub entry_of : ℕ → Note → Entry
entry_of start n = record {
  kind = entry_kind_of n.mark n.state;
  step = n.before - start;
  gap = n.start - n.before;
  forth = n.reach - n.start;
  back = back_of start n.least;
  count = count_of n.mark n.levels;
}

-- the entry of a block's end at byte `end`, after a token that begins at `start`, where the looks
-- since then have this reach and this least
abbrev pub block_end : ℕ → ℕ → ℕ → ℕ → Entry
block_end start end reach least = record { kind = entry_kind.Closes; step = end - start; gap = 0; forth = reach - end; back = back_of start least; count = 0 }

-- the entries of some notes, after a note whose token begins at a byte
abbrev pub entries_by : ℕ → List Note → List Entry
entries_by start [] = []
entries_by start (n ∷ ns) = entry_of start n ∷ entries_by n.start ns

-- where the token of the last of some notes begins
abbrev pub last_start : ℕ → List Note → ℕ
last_start start [] = start
last_start start (n ∷ ns) = last_start n.start ns

-- the units of a text: its entries, and where the looks after the last note begin
pub record Units : Type 0 where
  pub entries : List Entry
  -- how far before the last token the looks after the last note begin
  pub back : ℕ

-- the units of a text with these notes, where the looks after the last one have this least
abbrev pub units_by : List Note → ℕ → Units
units_by ns least = record { entries = entries_by 0 ns; back = back_of (last_start 0 ns) least }

-- THE UNITS OF A READING: all that an edit keeps of it beside the tree
abbrev pub units_of : Log → Units
units_of h = units_by (elim h.notes as (λ _. List Note) [ None ↦ [] | Some ns ↦ ns ]) h.least

-- the units with a part in place of the entries after the one numbered `from` up to the one
-- numbered `to`
abbrev pub spliced : ℕ → ℕ → List Entry → Units → Units
spliced from to part u = record u { entries = take (suc from) u.entries ++ (part ++ drop (suc to) u.entries) }

-- ---- where they are

-- where the token of the last of some entries begins, after a token that begins at a byte
abbrev pub end_of : ℕ → List Entry → ℕ
end_of start [] = start
end_of start (e ∷ es) = end_of ((start + e.step) + e.gap) es

-- ---- the test of looks

-- how many of the first entries there are whose looks all end at the byte `at` or before it
abbrev pub front_of : ℕ → ℕ → List Entry → ℕ
front_of at start [] = 0
front_of at start (e ∷ es) = let here = (start + e.step) + e.gap in if nat_le (here + e.forth) at then suc (front_of at here es) else 0

-- looks that begin `back` bytes before the token at `start` begin at the byte `at` or after it
abbrev pub is_after : ℕ → ℕ → ℕ → Bool
is_after at start back = nat_lt at (suc start - back)

-- how many of the first entries have looks after them that begin before the byte `at`: after the
-- entry with that number all looks begin there or later
abbrev pub rear_of : ℕ → ℕ → ℕ → List Entry → ℕ → ℕ
rear_of at start count [] back = if is_after at start back then 0 else count
rear_of at start count (e ∷ es) back = max (if is_after at start e.back then 0 else count) (rear_of at ((start + e.step) + e.gap) (suc count) es back)
