-- Entries in words, and beside the words those that no word can hold.
use Rattle.std.specs.Prelude.{ℕ, ◌+◌, ◌≤◌, ◌/◌, ◌%◌, ◌^◌, Bool, true, false, List, [], ◌∷◌, map, Option, Some, None}
use Rattle.std.specs.List.{slice_get}
use Rattle.typst_kinds.specs.declared.mode.SyntaxMode.TheVariants as mode
use Rattle.typst_language.specs.declared.calls.Block.TheVariants as block
use Rattle.typst_candidates.specs.declared.entry.Entry.{Entry}
use Rattle.typst_candidates.specs.declared.entry.EntryKind.{EntryKind}
use Rattle.typst_candidates.specs.declared.entry.EntryKind.TheVariants as entry_kind
use Rattle.typst_candidates.specs.declared.packed.Packed.{Packed}
use Rattle.typst_candidates.specs.declared.packed.Widths.{Widths}
use Rattle.typst_candidates.specs.Cursors.{is_piece}

-- ---- one word

-- the kinds of entries, each at the place that is its number
abbrev pub entry_kinds : List EntryKind
entry_kinds = entry_kind.Piece false ∷ entry_kind.Piece true ∷ entry_kind.Closes
    ∷ entry_kind.Opens block.Code mode.Markup ∷ entry_kind.Opens block.Code mode.Math ∷ entry_kind.Opens block.Code mode.Code
    ∷ entry_kind.Opens block.Content mode.Markup ∷ entry_kind.Opens block.Content mode.Math ∷ entry_kind.Opens block.Content mode.Code ∷ []

-- how many bits of an entry say how far its looks go forth
abbrev pub forth_bits : EntryKind → ℕ
forth_bits (entry_kind.Piece at_start) = 10
forth_bits (entry_kind.Opens b m) = 6
forth_bits entry_kind.Closes = 10

-- how many bits of an entry say how far its looks go back
abbrev pub back_bits : EntryKind → ℕ
back_bits (entry_kind.Piece at_start) = 4
back_bits (entry_kind.Opens b m) = 2
back_bits entry_kind.Closes = 4

-- how many bits the parts of an entry take after its kind's four, from the lowest on; the others hold its count
abbrev pub widths : EntryKind → Widths
widths t = record { step = 8; gap = 4; forth = forth_bits t; back = back_bits t }

-- the entry of a kind, whose parts are the bits of a number: of these widths from the lowest on, and
-- the rest its count
abbrev pub entry_by : EntryKind → Widths → ℕ → Entry
entry_by t w rest = record {
  kind = t;
  step = rest % 2 ^ w.step;
  gap = rest / 2 ^ w.step % 2 ^ w.gap;
  forth = rest / 2 ^ w.step / 2 ^ w.gap % 2 ^ w.forth;
  back = rest / 2 ^ w.step / 2 ^ w.gap / 2 ^ w.forth % 2 ^ w.back;
  count = rest / 2 ^ w.step / 2 ^ w.gap / 2 ^ w.forth / 2 ^ w.back;
}

-- what a word holds that holds no entry
abbrev pub nothing : Option Entry
nothing = None

-- the entry that a word holds; a word with no kind's number holds none
abbrev pub entry_in : Packed → Option Entry
entry_in p = elim (slice_get entry_kinds (p.word % 2 ^ 4)) as (λ _. Option Entry) [ None ↦ None | Some t ↦ Some (entry_by t (widths t) (p.word / 2 ^ 4)) ]

-- ---- some words

-- how many entries beside the words a word stands for: one, if it holds none
abbrev pub beside : Option Entry → ℕ
beside None = 1
beside (Some e) = 0

-- how many entries beside the words some words stand for
abbrev pub all_beside : List (Option Entry) → ℕ
all_beside [] = 0
all_beside (o ∷ os) = beside o + all_beside os

-- whether a word holds an entry at which a piece begins
abbrev pub holds_piece : Option Entry → Bool
holds_piece None = false
holds_piece (Some e) = is_piece e.kind

-- how many bytes lie between the token before an entry and its own, or 0 where the word holds none
abbrev pub span : Option Entry → ℕ
span None = 0
span (Some e) = e.step + e.gap

-- how many bytes these are for some words, added up
abbrev pub all_spans : List (Option Entry) → ℕ
all_spans [] = 0
all_spans (o ∷ os) = span o + all_spans os

-- entries in order, where each word that holds none stands for the next of those beside the words
abbrev pub filled : List (Option Entry) → List Entry → List Entry
filled [] ws = []
filled (Some e ∷ os) ws = e ∷ filled os ws
filled (None ∷ os) [] = []
filled (None ∷ os) (w ∷ ws) = w ∷ filled os ws

-- how many entries are beside some words
abbrev pub wides : List Packed → ℕ
wides ps = all_beside (map entry_in ps)

-- how many bytes lie between the tokens of the entries that some words hold and the tokens before
-- these, added up
abbrev pub spans : List Packed → ℕ
spans ps = all_spans (map entry_in ps)

-- how many bytes lie between the tokens of some entries and the tokens before these, added up
abbrev pub lengths : List Entry → ℕ
lengths [] = 0
lengths (e ∷ es) = (e.step + e.gap) + lengths es

-- the entries of some words and of those beside them, in order
abbrev pub unpacked : List Packed → List Entry → List Entry
unpacked ps ws = filled (map entry_in ps) ws

-- ---- and what they take

-- what entries take, and the room that there is
pub record Space : Type 0 where
  -- how many of the entries no word holds
  pub wide : ℕ
  -- for how many entries there are words
  pub room : ℕ
  -- for how many entries there is room beside the words
  pub wide_room : ℕ

-- there is room for `more` entries after `count`, and beside the words for those of the part that
-- no word holds
abbrev pub HasRoom : ℕ → Space → ℕ → Space → Type 0
HasRoom count s more part = (count + more ≤ s.room) × (s.wide + part.wide ≤ s.wide_room)

-- entries, and what they take
pub record Held : Type 0 where
  pub entries : List Entry
  pub space : Space
