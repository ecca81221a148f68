-- The open documents, and what is known of their texts.
use Rattle.std.specs.Prelude.{◌≡◌, ⊤, ℕ, List, Bool, true, false, Option, None, Some, option_map}
use Rattle.std.specs.List.{find}
use Rattle.std.specs.String.{string_bytes}
use Rattle.serde_json.specs.Data.{Items, no_items, item}
use Rattle.typst_document.specs.UnicodeTables.{unicode_classes}
use Rattle.typst_document.specs.Headline.{Headline}
use Rattle.typst_positions.specs.declared.columns.Encoding.{Encoding}
use Rattle.typst_protocol.specs.Addresses.{is_same}
use Rattle.typst_protocol.specs.Parameters.{Edit, whole, ranged, edit}
use Rattle.typst_protocol.specs.declared.refusal.Refusal.{Refusal}
use Rattle.typst_protocol.specs.declared.refusal.Refusal.TheVariants.{BadParameters, LostDocument}
use Rattle.typst_document.specs.Document.{Opened, changed}
use Rattle.typst_server.specs.declared.documents.Documents.{Documents}
use Rattle.typst_server.specs.declared.documents.Entry.{Entry}
use Rattle.typst_server.specs.declared.documents.Held.{Held}
use Rattle.typst_server.specs.declared.documents.Held.TheVariants.{Known, Lost}

-- what is known of an open document
abbrev pub known : Held → Option Opened
known (Known document) = Some document.document
known Lost = None

-- an address is that of an open document if the two are the same decoded
abbrev pub is_named : List ℕ → Entry → Bool
is_named uri entry = is_same uri (string_bytes entry.uri)

-- the document with an address, where one is open
abbrev pub entry_of : List ℕ → Documents → Option Entry
entry_of uri documents = find (is_named uri) documents.entries.items

-- what is known of it
abbrev pub found : List ℕ → Documents → Option (Option Opened)
found uri documents = option_map (λ entry. known entry.held) (entry_of uri documents)

-- whether something is known of a document
abbrev pub is_known : Option (Option Opened) → Bool
is_known None = false
is_known (Some None) = false
is_known (Some (Some document)) = true

-- why there is nothing to look at: no such document is open, or its text isn't known
abbrev pub IsMissing : Option (Option Opened) → Refusal → Type 0
IsMissing None why = why ≡ BadParameters
IsMissing (Some None) why = why ≡ LostDocument
IsMissing (Some (Some document)) why = ⊥

-- what a change makes of what is known, where nothing is refused: what isn't a change leaves nothing, and so does a part
-- that changes what isn't known
abbrev pub next : Encoding → Option (List ℕ) → Option Edit → Option (List ℕ)
next encoding before None = None
next encoding before (Some (whole text)) = Some text
next encoding None (Some (ranged place text)) = None
next encoding (Some before) (Some (ranged place text)) = Some (changed encoding before (ranged place text))

-- what several changes make of it, one after the other
abbrev pub after : Encoding → Option (List ℕ) → Items → Option (List ℕ)
after encoding before no_items = before
after encoding before (item value values) = after encoding (next encoding before (edit value)) values

-- what is known is this text, with its columns in this encoding and with its tree: by the headline the one that the written grammar gives
-- to the whole text
abbrev pub IsText : Encoding → Option (List ℕ) → Opened → Type 0
IsText encoding text document = (document.encoding ≡ encoding) × (text ≡ Some document.source.text) × Headline unicode_classes document.source

-- if anything is known of a document, it is this text
abbrev pub Knows : Encoding → Option (Option Opened) → Option (List ℕ) → Type 0
Knows encoding None text = ⊤
Knows encoding (Some None) text = ⊤
Knows encoding (Some (Some document)) text = IsText encoding text document

-- whatever the text was, what is known afterwards is what this makes of it
abbrev pub Keeps : Encoding → (Option (List ℕ) → Option (List ℕ)) → Option (Option Opened) → Option (Option Opened) → Type 0
Keeps encoding step old new = (text : Option (List ℕ)) → Knows encoding old text → Knows encoding new (step text)

-- nothing is known of a document, whether it is open or not
abbrev pub IsUnknown : Option (Option Opened) → Type 0
IsUnknown None = ⊤
IsUnknown (Some None) = ⊤
IsUnknown (Some (Some document)) = ⊥

-- the other documents are as they were
abbrev pub KeepsOthers : List ℕ → Documents → Documents → Type 0
KeepsOthers uri old new = (other : List ℕ) → is_same uri other ≡ false → found other new ≡ found other old
