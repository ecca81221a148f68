-- What the log of the code does with notes.
use Rattle.std.specs.Prelude.{ℕ, zero, suc, nat_lt, max, min, if◌then◌else◌, List, [], ◌∷◌, length, take, drop, Option, Some, None, option_map}
use Rattle.typst_tokens.specs.declared.hull.Hull.{Hull}
use Rattle.typst_language.specs.declared.calls.Mark.{Mark}
use Rattle.typst_language.specs.declared.calls.Note.{Note}
use Rattle.typst_language.specs.declared.reading.State.{State}
use Rattle.typst_language.specs.Log.{Log, least_after, reach_after, with_hull, with_more}

-- the log, where something was noted too: at `before` its trivia begin, and at `start` its token
abbrev pub with_noted : Mark → ℕ → ℕ → ℕ → State → Log → Log
with_noted mark before start levels s h = record {
  reach = reach_after h.notes h.reach;
  least = least_after h.notes h.least;
  notes = with_more (record { mark = mark; before = before; start = start; levels = levels; state = s; reach = h.reach; least = h.least }) h.notes;
}

-- where the looks since the last note end, and where they begin
abbrev pub hull_in : Log → Hull
hull_in h = record { reach = h.reach; least = h.least }

-- what was noted, or no notes if none are kept
abbrev pub listed : Option (List Note) → List Note
listed None = []
listed (Some ns) = ns

-- where the looks before these notes end, and those since the last of them
abbrev pub reach_of : ℕ → List Note → ℕ
reach_of reach [] = reach
reach_of reach (note ∷ notes) = reach_of (max reach note.reach) notes

-- where the looks before these notes begin, and those since the last of them
abbrev pub least_of : ℕ → List Note → ℕ
least_of least [] = least
least_of least (note ∷ notes) = least_of (min least note.least) notes

-- only the first n notes: the looks before the others count since the last of these
abbrev pub unnoted : ℕ → Log → Log
unnoted count h = record {
  reach = reach_of h.reach (drop count (listed h.notes));
  least = least_of h.least (drop count (listed h.notes));
  notes = option_map (take count) h.notes;
}

-- all looks since the last note are set aside, except these
abbrev pub looked_alone : Hull → Log → Log
looked_alone u h = record h { reach = u.reach; least = u.least }

-- a note, with a look that was made before it
abbrev pub note_after : Hull → Note → Note
note_after u note = record note { reach = max note.reach u.reach; least = min note.least u.least }

-- notes, where the one of a number has a look that was made before it
abbrev pub notes_after : ℕ → Hull → List Note → List Note
notes_after n u [] = []
notes_after zero u (note ∷ notes) = note_after u note ∷ notes
notes_after (suc n) u (note ∷ notes) = note ∷ notes_after n u notes

-- looks that were made before the note of a number count at it, or if there is no such note, as
-- looks since the last one
abbrev pub looked_before : ℕ → Hull → Log → Log
looked_before n u h = if nat_lt n (length (listed h.notes)) then record h { notes = option_map (notes_after n u) h.notes } else with_hull u h
