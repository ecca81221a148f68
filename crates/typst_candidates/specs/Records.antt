-- What records hold, and what is asked of them.
use Rattle.std.specs.Prelude.{ℕ, suc, ◌+◌, ◌-◌, ◌^◌, ◌≤◌, ◌<◌, ◌==◌, ◌&&◌, ◌↔◌, Bool, true, false, if◌then◌else◌, List, [], ◌∷◌, ◌++◌, length, Option, Some, None}
use Rattle.typst_language.specs.declared.calls.Note.{Note}
use Rattle.typst_candidates.specs.declared.entry.Entry.{Entry}
use Rattle.typst_candidates.specs.declared.entry.EntryKind.{EntryKind}
use Rattle.typst_candidates.specs.declared.entry.EntryKind.TheVariants as entry_kind
use Rattle.typst_candidates.specs.Packed.{Space}
use Rattle.typst_candidates.specs.Entries.{Units, back_of, entries_by, last_start, front_of, rear_of}

-- the units that records keep, and what they take
pub record Kept : Type 0 where
  pub units : Units
  pub space : Space

-- a block begins at an entry
abbrev pub is_opening : EntryKind → Bool
is_opening (entry_kind.Piece at_start) = false
is_opening (entry_kind.Opens block m) = true
is_opening entry_kind.Closes = false

-- the number of the first entry at which a block begins whose token is at byte `at`, by entries
-- after a token that begins at `start`, of which the first has this number
abbrev pub opening_of : ℕ → ℕ → ℕ → List Entry → Option ℕ
opening_of at start number [] = None
opening_of at start number (e ∷ es) =
    let here = (start + e.step) + e.gap in
    if is_opening e.kind && here == at then Some number else opening_of at here (suc number) es

-- the token of each note begins at a byte of a text that a machine word counts
abbrev pub AllFit : List Note → Type 0
AllFit [] = Unit {0}
AllFit (n ∷ ns) = (n.start < 2 ^ 64 - 1) × AllFit ns

-- ---- what the numbers decide

-- each note's place is where the token of the note before begins, or later, and its own token is
-- there or later
abbrev pub IsRising : ℕ → List Note → Type 0
IsRising start [] = Unit {0}
IsRising start (n ∷ ns) = (start ≤ n.before) × (n.before ≤ n.start) × IsRising n.start ns

-- all looks before some notes end at a byte or before it
abbrev pub AllEnd : ℕ → List Note → Type 0
AllEnd at [] = Unit {0}
AllEnd at (n ∷ ns) = (n.reach ≤ at) × AllEnd at ns

-- all looks before some notes, and those after the last, begin at a byte or after it
abbrev pub AllBegin : ℕ → List Note → ℕ → Type 0
AllBegin at [] least = at < least
AllBegin at (n ∷ ns) least = (at < n.least) × AllBegin at ns least

-- The law of the front: where the token of a note begins at a byte or before it, the looks up to
-- that note end there or before exactly if the note is among the first that `front_of` counts.
abbrev pub FrontLaw : Type 0
FrontLaw = (ns more : List Note) (n : Note) (at : ℕ) → IsRising 0 (ns ++ n ∷ more) → n.start ≤ at
    → length ns < front_of at 0 (entries_by 0 (ns ++ n ∷ more)) ↔ AllEnd at (ns ++ n ∷ [])

-- The law of the rear: where the token of a note begins at a byte or after it, the looks after that
-- note begin there or later exactly if `rear_of` counts no more notes than those before it.
abbrev pub RearLaw : Type 0
RearLaw = (ns more : List Note) (n : Note) (at least : ℕ) → IsRising 0 (ns ++ n ∷ more) → at ≤ n.start
    → rear_of at 0 0 (entries_by 0 (ns ++ n ∷ more)) (back_of (last_start 0 (ns ++ n ∷ more)) least) ≤ length ns ↔ AllBegin at more least
