-- What was looked at and noted up to a place of a text, in bytes.
use Rattle.std.specs.Prelude.{ℕ, ◌-◌, ◌^◌, max, min, Bool, true, if◌then◌else◌, List, [], ◌∷◌, ◌++◌, Option, Some, None, option_map}
use Rattle.typst_lines.specs.Place.{Place, moved}
use Rattle.typst_tokens.specs.Sight.{position, hull_of}
use Rattle.typst_tokens.specs.declared.hull.Hull.{Hull}
use Rattle.typst_language.specs.declared.calls.Mark.{Mark}
use Rattle.typst_language.specs.declared.calls.Note.{Note}
use Rattle.typst_language.specs.declared.reading.State.{State}
use Rattle.typst_language.specs.Ask.{Ask}
use Rattle.typst_language.specs.Ask.Ask.{looked, marked}

-- what was looked at and noted
pub record Log : Type 0 where
  -- where the looks since the last note end, and where they begin; those of all looks, if no notes
  -- are kept
  pub reach : ℕ
  pub least : ℕ
  -- what was noted, in order, if notes are kept
  pub notes : Option (List Note)

-- notes, if they are kept
abbrev pub kept : Bool → List Note → Option (List Note)
kept keeps notes = if keeps then Some notes else None

-- nothing was looked at or noted
abbrev pub blank_log : Bool → Log
blank_log keeps = record { reach = 0; least = 2 ^ 64 - 1; notes = kept keeps [] }

-- nothing was looked at or noted, and notes are kept
abbrev pub no_log : Log
no_log = blank_log true

-- notes, if they are kept, with one note more
abbrev pub with_more : Note → Option (List Note) → Option (List Note)
with_more note notes = option_map (λ (ns : List Note). ns ++ note ∷ []) notes

-- a list with one note more, if notes are kept
abbrev pub added : Bool → Note → List Note → List Note
added keeps note notes = if keeps then notes ++ note ∷ [] else notes

-- where the looks since the last note end, right after a note: at 0; if no notes are kept, as
-- before
abbrev pub reach_after : Option (List Note) → ℕ → ℕ
reach_after None reach = reach
reach_after (Some notes) reach = 0

-- where the looks since the last note begin, right after a note: at the largest number; if no notes
-- are kept, as before
abbrev pub least_after : Option (List Note) → ℕ → ℕ
least_after None least = least
least_after (Some notes) least = 2 ^ 64 - 1

-- the log, where these bytes were looked at too
abbrev pub with_hull : Hull → Log → Log
with_hull u h = record h { reach = max h.reach u.reach; least = min h.least u.least }

-- the log, where this was noted too, after a given number of characters of trivia and with a given number of levels
-- left
abbrev pub with_note : ℕ → ℕ → Mark → State → Place → Log → Log
with_note gap levels mark s z h = record {
  reach = reach_after h.notes h.reach;
  least = least_after h.notes h.least;
  notes = with_more (record { mark = mark; before = position z; start = position (moved gap z); levels = levels; state = s; reach = h.reach; least = h.least }) h.notes;
}

-- the log after one thing that a parser asked at a place, with a given number of levels left
abbrev pub logged_one : ℕ → Place → Log → Ask → Log
logged_one levels z h (looked at look) = with_hull (hull_of look (moved at z)) h
logged_one levels z h (marked at gap fewer mark s) = with_note gap (levels - fewer) mark s (moved at z) h

-- the log after what a parser asked at a place, with a given number of levels left
abbrev pub logged : ℕ → Place → Log → List Ask → Log
logged levels z h [] = h
logged levels z h (ask ∷ asks) = logged levels z (logged_one levels z h ask) asks
