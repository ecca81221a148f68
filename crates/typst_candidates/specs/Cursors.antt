-- Places among the entries of records.
use Rattle.std.specs.Prelude.{◌≡◌, ℕ, zero, suc, ◌+◌, ◌-◌, ◌^◌, ◌<◌, ◌≤◌, ◌==◌, ◌&&◌, Bool, true, false, if◌then◌else◌, List, [], ◌∷◌, length, take, drop, Option, Some, None}
use Rattle.std.specs.List.{slice_get}
use Rattle.typst_kinds.specs.Kinds.{same}
use Rattle.typst_kinds.specs.declared.kind.SyntaxKind.{SyntaxKind}
use Rattle.typst_kinds.specs.declared.kind.SyntaxKind.TheVariants as kind
use Rattle.typst_candidates.specs.declared.entry.Entry.{Entry}
use Rattle.typst_candidates.specs.declared.entry.EntryKind.{EntryKind}
use Rattle.typst_candidates.specs.declared.entry.EntryKind.TheVariants as entry_kind
use Rattle.typst_candidates.specs.Entries.{end_of}
use Rattle.typst_candidates.specs.Units.{after_first, is_content}

-- a place among entries
pub record EntryPlace : Type 0 where
  pub entries : List Entry
  -- how many of the entries are before it
  pub number : ℕ

-- where the token of the entry before a place begins, or 0 before the first
abbrev pub start_at : EntryPlace → ℕ
start_at p = end_of 0 (take p.number p.entries)

-- the entry after a place
abbrev pub entry_after : EntryPlace → Option Entry
entry_after p = slice_get p.entries p.number

-- the place after the entry that follows, if there is one
abbrev pub after : Option Entry → EntryPlace → EntryPlace
after None p = p
after (Some e) p = record p { number = suc p.number }

-- the last of the first n entries
abbrev pub last_of : ℕ → List Entry → Option Entry
last_of zero es = None
last_of (suc n) es = slice_get es n

-- the entry before a place
abbrev pub entry_before : EntryPlace → Option Entry
entry_before p = last_of p.number p.entries

-- the place before the entry before a place, or the same place if there is none
abbrev pub before : EntryPlace → EntryPlace
before p = record p { number = p.number - 1 }

-- how many words are passed over at once
abbrev pub block_len : ℕ
block_len = 16

-- the looks of some entries go fewer than 2^10 bytes forth and fewer than 2^4 bytes back
abbrev pub AreNear : List Entry → Type 0
AreNear [] = Unit {0}
AreNear (e ∷ es) = (e.forth < 2 ^ 10) × (e.back < 2 ^ 4) × AreNear es

-- the looks of some entries go at most so many bytes back
abbrev pub GoBack : ℕ → List Entry → Type 0
GoBack most [] = Unit {0}
GoBack most (e ∷ es) = (e.back ≤ most) × GoBack most es

-- how far back the looks of the entry after a place begin, or `back` if there is none
abbrev pub back_after : ℕ → EntryPlace → ℕ
back_after back p = elim (entry_after p) as (λ _. ℕ) [ None ↦ back | Some e ↦ e.back ]

-- `new` is after the `block_len` entries that follow `old`. They take up `span` bytes, and their
-- looks do not go far
pub record PassesBlock (old new : EntryPlace) (span : ℕ) : Type 0 where
  pub within : old.number + block_len ≤ length old.entries
  pub new_is : new ≡ record old { number = old.number + block_len }
  pub span_is : (start : ℕ) → end_of start (take block_len (drop old.number old.entries)) ≡ start + span
  pub near : AreNear (take block_len (drop old.number old.entries))

-- `new` is before a block of entries that ends at `old`. Their looks all begin after the byte `at`,
-- except those of the first entry, which begin `back` bytes back
pub record PassesBack (at : ℕ) (old new : EntryPlace) (back : ℕ) : Type 0 where
  pub span : ℕ
  pub passes : PassesBlock new old span
  pub after : at + 2 ^ 4 ≤ start_at new
  pub first : Entry
  pub first_is : entry_after new ≡ Some first
  pub back_is : back ≡ first.back

-- ---- the pieces of one run

-- a piece begins at an entry, or its run ends
abbrev pub is_piece : EntryKind → Bool
is_piece (entry_kind.Piece at_start) = true
is_piece (entry_kind.Opens block m) = false
is_piece entry_kind.Closes = false

-- `new` is after the entry that follows `old`, and a piece begins at that entry
pub record PassesPiece (old new : EntryPlace) : Type 0 where
  pub entry : Entry
  pub entry_is : entry_after old ≡ Some entry
  pub leads : is_piece entry.kind ≡ true
  pub new_is : new ≡ record old { number = suc old.number }

-- one less, or nothing for 0
abbrev pub one_less : ℕ → Option ℕ
one_less zero = None
one_less (suc n) = Some n

-- a piece of the run itself begins at an entry, since no block of the run is open there
abbrev pub leads : EntryKind → ℕ → Bool
leads t inside = is_piece t && inside == 0

-- how many blocks of a run are open after an entry, unless the run's own block ends there
abbrev pub inside_after : EntryKind → ℕ → Option ℕ
inside_after (entry_kind.Piece at_start) inside = Some inside
inside_after (entry_kind.Opens block m) inside = Some (suc inside)
inside_after entry_kind.Closes inside = one_less inside

-- how many blocks of a run are open before an entry, unless the run's own block begins there
abbrev pub inside_before : EntryKind → ℕ → Option ℕ
inside_before (entry_kind.Piece at_start) inside = Some inside
inside_before (entry_kind.Opens block m) inside = one_less inside
inside_before entry_kind.Closes inside = Some (suc inside)

-- the number of the first of some entries at which a piece of the run itself begins. The first of
-- them has the number `number`, and `inside` blocks of the run are open before it
abbrev pub first_piece : ℕ → ℕ → List Entry → Option ℕ
first_piece inside number [] = None
first_piece inside number (e ∷ es) =
    if leads e.kind inside then Some number
    else elim (inside_after e.kind inside) as (λ _. Option ℕ) [ None ↦ None | Some further ↦ first_piece further (suc number) es ]

-- the number of the last of the first n entries at which a piece of the run itself begins. After
-- them `inside` blocks of the run are open
abbrev pub last_piece : ℕ → List Entry → ℕ → Option ℕ
last_piece inside es zero = None
last_piece inside es (suc n) = elim (slice_get es n) as (λ _. Option ℕ) [
  | None ↦ None
  | Some e ↦ if leads e.kind inside then Some n
      else elim (inside_before e.kind inside) as (λ _. Option ℕ) [ None ↦ None | Some further ↦ last_piece further es n ]
]

-- the place before the entry of a number, if there is one
abbrev pub placed : EntryPlace → Option ℕ → Option EntryPlace
placed p None = None
placed p (Some n) = Some (record p { number = n })

-- where the token of an entry begins, after a token that begins at a byte
abbrev pub token_at : ℕ → Entry → ℕ
token_at start e = (start + e.step) + e.gap

-- where the pieces of a run begin, in bytes, by the entries after a token that begins at `start`,
-- where `inside` blocks of the run are open
abbrev pub pieces_of : ℕ → ℕ → List Entry → List ℕ
pieces_of inside start [] = []
pieces_of inside start (e ∷ es) =
    let after = elim (inside_after e.kind inside) as (λ _. List ℕ) [ None ↦ [] | Some further ↦ pieces_of further (token_at start e) es ] in
    if leads e.kind inside then token_at start e ∷ after else after

-- whether a content block begins with it
abbrev pub opens_content : EntryKind → Bool
opens_content (entry_kind.Piece at_start) = false
opens_content (entry_kind.Opens block m) = is_content block
opens_content entry_kind.Closes = false

-- where the pieces begin of the run of the content block at byte `at`, except the first
abbrev pub pieces_in : ℕ → ℕ → List Entry → Option (List ℕ)
pieces_in at start [] = None
pieces_in at start (e ∷ es) = if opens_content e.kind && token_at start e == at then after_first (pieces_of 0 (token_at start e) es) else pieces_in at (token_at start e) es

-- where the pieces of a child begin, if it is a run: the markup of the content block that begins at
-- a byte
abbrev pub piece_run : List Entry → ℕ → SyntaxKind → SyntaxKind → Option (List ℕ)
piece_run es at parent child = if same kind.ContentBlock parent && same kind.Markup child then pieces_in at 0 es else None

-- the number of the first of some entries at which the block around them ends, where `inside`
-- blocks in it are open before them
abbrev pub closing_of : ℕ → ℕ → List Entry → Option ℕ
closing_of inside number [] = None
closing_of inside number (e ∷ es) = elim (inside_after e.kind inside) as (λ _. Option ℕ) [ None ↦ Some number | Some further ↦ closing_of further (suc number) es ]

-- the number of the first entry at which a piece of the run itself begins whose token is at byte
-- `at`, by the entries after a token that begins at `start`, where `inside` blocks of the run are
-- open
abbrev pub piece_of : ℕ → ℕ → ℕ → ℕ → List Entry → Option ℕ
piece_of at inside start number [] = None
piece_of at inside start number (e ∷ es) =
    if leads e.kind inside && token_at start e == at then Some number
    else elim (inside_after e.kind inside) as (λ _. Option ℕ) [ None ↦ None | Some further ↦ piece_of at further (token_at start e) (suc number) es ]
