-- The entries of a part of a text that is read by itself.
use Rattle.std.specs.Prelude.{◌≡◌, ℕ, ◌+◌, ◌-◌, ◌<◌, ◌^◌, List, [], ◌∷◌, ◌++◌, Some}
use Rattle.typst_candidates.specs.Entries.{block_end, entries_by, last_start}
use Rattle.typst_candidates.specs.Records.{AllFit}
use Rattle.typst_lines.specs.Place.{Place, moved}
use Rattle.typst_tokens.specs.Sight.{position, width}
use Rattle.typst_language.specs.declared.calls.Note.{Note}
use Rattle.typst_language.specs.Ask.{Ask}
use Rattle.typst_language.specs.Log.{Log, no_log, logged}
use Rattle.typst_language.specs.Meaning.{Outcome}
use Rattle.typst_grammar.specs.Grammar.{max_depth, start_of}
use Rattle.typst_edits.specs.BlockSplice.{block_log}
use Rattle.typst_edits.specs.Splice.{entries_from}
use Rattle.typst_edits.specs.Spot.{Spot}

-- what is logged of a block's reading by itself
abbrev pub own_log : Spot (Unit {0}) → Outcome (Unit {0}) → Place → Log
own_log c u z = logged (max_depth - c.fewer) (moved c.at z) no_log u.asks

-- The law of a block's part: what takes the place of a block's entries, after the one where it begins, is the entries of what is noted in reading it by itself, and that of its end.
abbrev pub BlockPartLaw : Type 0
BlockPartLaw = (text : List ℕ) (c : Spot (Unit {0})) (u : Outcome (Unit {0})) (ns : List Note) → (own_log c u (start_of text)).notes ≡ Some ns
    → (let z = start_of text in
    let h = own_log c u z in
    let start = position (moved c.at z) in
    entries_from start (block_log text c u).notes ≡ entries_by start ns ++ block_end (last_start start ns) (position (moved u.taken (moved c.at z))) h.reach h.least ∷ [])

-- The law of a part's places: in a text that a machine word counts the token of each note that is made in reading a part of it begins at a byte of the text.
abbrev pub PartFitsLaw : Type 0
PartFitsLaw = (levels : ℕ) (z : Place) (asks : List Ask) (ns : List Note) → width z.before + width z.ahead < 2 ^ 64 - 1 → (logged levels z no_log asks).notes ≡ Some ns → AllFit ns
