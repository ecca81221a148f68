-- The tokens that were sent, and what a client makes of changes of them.
use Rattle.std.specs.Prelude.{◌≡◌, ⊤, ◌⊎◌, ℕ, ◌+◌, ◌^◌, ◌<◌, List, [], ◌∷◌, ◌++◌, length, take, drop, Option, None, Some, option_and_then, option_map}
use Rattle.std.specs.Fmt.{decimal}
use Rattle.std.specs.Option.{IsSomeAnd}
use Rattle.std.specs.String.{string_bytes}
use Rattle.std.specs.declared.ops.Range.{Range}
use Rattle.serde.specs.Event.{Log}
use Rattle.serde_json.specs.Data.{Data}
use Rattle.typst_positions.specs.Positions.{byte_at}
use Rattle.typst_protocol.specs.Bodies.{IsJsonOf}
use Rattle.typst_protocol.specs.Parameters as parameters
use Rattle.typst_protocol.specs.Written.{WritesTokenChanges, WritesTokens}
use Rattle.typst_protocol.specs.declared.params.Stretch.{Stretch}
use Rattle.typst_protocol.specs.declared.values.TokenChanges.{TokenChanges}
use Rattle.typst_protocol.specs.declared.values.TokenEdit.{TokenEdit}
use Rattle.typst_protocol.specs.declared.values.Tokens.{Tokens}
use Rattle.typst_document.specs.Document.{Opened, all_bytes}
use Rattle.typst_server.specs.Numbers.{all_shown, decoded, numbers_of}
use Rattle.typst_server.specs.Documents.{entry_of}
use Rattle.typst_server.specs.Tracked.{IsCounted, Sent}
use Rattle.typst_server.specs.declared.documents.Documents.{Documents}
use Rattle.typst_server.specs.declared.documents.Held.{Held}
use Rattle.typst_server.specs.declared.documents.Held.TheVariants.{Known, Lost}
use Rattle.typst_server.specs.declared.tokens.Gap.{Gap}
use Rattle.typst_server.specs.declared.tokens.Told.{Told}
use Rattle.typst_server.specs.declared.tokens.Told.TheVariants.{All, Changes}
use Rattle.typst_server.specs.declared.tokens.Update.{Update}
use Rattle.typst_server.specs.declared.tracked.Fresh.{Fresh}

-- the tokens that were sent last of what is held
abbrev pub last_of : Held → Option Sent
last_of (Known document) = document.sent
last_of Lost = None

-- the tokens that were sent last of the document with an address
abbrev pub sent_of : List ℕ → Documents → Option Sent
sent_of uri documents = option_and_then (λ entry. last_of entry.held) (entry_of uri documents)

-- what was sent last stays so, or isn't kept
abbrev pub MayDrop : Option Sent → Option Sent → Type 0
MayDrop old new = (new ≡ old) ⊎ (new ≡ None)

-- of no document others are kept than before
abbrev pub KeepsSent : Documents → Documents → Type 0
KeepsSent old new = (uri : List ℕ) → MayDrop (sent_of uri old) (sent_of uri new)

-- the tokens of a document that is known are those that were sent last, under this name
abbrev pub IsKept : Option (Option Opened) → List ℕ → Option Sent → Type 0
IsKept None name last = ⊤
IsKept (Some None) name last = ⊤
IsKept (Some (Some document)) name last = last ≡ Some (record { name = name; of = document })

-- tokens may be kept of a document if they are its own, or nothing is known of it
abbrev pub MayBeKept : Option (Option Opened) → Fresh → Type 0
MayBeKept None fresh = ⊤
MayBeKept (Some None) fresh = ⊤
MayBeKept (Some (Some document)) fresh = IsCounted document fresh.count

-- numbers that are read back are the tokens of a document's present tree, where its text is below 4 GiB
abbrev pub TellsTokens : Opened → List ℕ → Type 0
TellsTokens document numbers = length document.source.text < 2 ^ 32 → decoded 0 0 numbers ≡ all_shown document (all_bytes document)

-- the tokens of a document's present tree are about to be sent under a number
pub record IsFresh (document : Opened) (number : ℕ) (fresh : Fresh) : Type 0 where
  pub named : string_bytes fresh.name ≡ decimal number
  pub counted : IsCounted document fresh.count
  pub tokens : TellsTokens document (numbers_of document)

-- what a client makes of numbers by edits of them, one after the other
abbrev pub made_by : List TokenEdit → List ℕ → List ℕ
made_by [] numbers = numbers
made_by (edit ∷ edits) numbers = made_by edits (take edit.start numbers ++ edit.data.now ++ drop (edit.start + edit.delete_count) numbers)

-- numbers with others in the place of some of them
abbrev pub put_into : Gap → List ℕ → List ℕ → List ℕ
put_into gap numbers old = take gap.start old ++ numbers ++ drop (gap.start + gap.removed) old

-- by changes a client makes numbers of those that it has, and has their name
pub record Leads (last : List ℕ) (changes : TokenChanges) (name wanted : List ℕ) : Type 0 where
  pub named : changes.result_id.now ≡ name
  pub made : made_by changes.edits.items last ≡ wanted

-- all numbers that are sent, with their name
pub record AreAll (tokens : Tokens) (name wanted : List ℕ) : Type 0 where
  pub named : option_map (λ id. id.now) tokens.result_id ≡ Some name
  pub numbers : tokens.data.now ≡ wanted

-- WHAT A CLIENT HAS after an answer about tokens of a document: where it named the ones that were sent last it makes them by changes, and
-- else it is sent all
abbrev pub TellsOf : Option Sent → Opened → List ℕ → Told → Type 0
TellsOf None document name (All tokens) = AreAll tokens name (numbers_of document)
TellsOf None document name (Changes changes) = ⊥
TellsOf (Some last) document name (All tokens) = ⊥
TellsOf (Some last) document name (Changes changes) = Leads (numbers_of last.of) changes name (numbers_of document)

-- an answer about tokens is written as all tokens, or as changes
abbrev pub WritesTold : Told → Log → Log → Type 0
WritesTold (All tokens) = WritesTokens tokens
WritesTold (Changes changes) = WritesTokenChanges changes

-- a value is the JSON of such an answer
pub record TellsUnder (last : Option Sent) (document : Opened) (name value : List ℕ) : Type 0 where
  pub told : Told
  pub of : TellsOf last document name told
  pub json : IsJsonOf (WritesTold told) value

-- a value tells the tokens of a document's present tree under a number to a client that may have the last ones
pub record IsSentOf (last : Option Sent) (document : Opened) (number : ℕ) (value : List ℕ) (fresh : Fresh) : Type 0 where
  pub present : IsFresh document number fresh
  pub told : TellsUnder last document (decimal number) value

-- a value is the JSON of the tokens of a document that have a byte of a range, without a name: its numbers read back are these, where
-- the text is below 4 GiB
pub record TellsWithin (document : Opened) (range : Range ℕ) (value : List ℕ) : Type 0 where
  pub tokens : Tokens
  pub unnamed : option_map (λ id. id.now) tokens.result_id ≡ None
  pub numbers : length document.source.text < 2 ^ 32 → decoded 0 0 tokens.data.now ≡ all_shown document range
  pub json : IsJsonOf (WritesTokens tokens) value

-- the bytes of a stretch of a document
abbrev pub bytes_of : Opened → Stretch → Range ℕ
bytes_of document stretch = record { start = byte_at document.encoding document.source.text stretch.start; end = byte_at document.encoding document.source.text stretch.end }

-- parameters name a stretch of a document, and P holds of its bytes
abbrev pub InStretch : Option Data → Opened → (Range ℕ → Type 0) → Type 0
InStretch params document P = IsSomeAnd (parameters.stretch_in params) (λ stretch. P (bytes_of document stretch))

-- numbers make those of a document of the ones that were sent last, and else they are all
abbrev pub MakesOf : Option Sent → Opened → Option Gap → List ℕ → Type 0
MakesOf None document None numbers = numbers ≡ numbers_of document
MakesOf None document (Some gap) numbers = ⊥
MakesOf (Some last) document None numbers = ⊥
MakesOf (Some last) document (Some gap) numbers = put_into gap numbers (numbers_of last.of) ≡ numbers_of document

abbrev pub IsUpdateOf : Option Sent → Opened → Update → Type 0
IsUpdateOf last document update = MakesOf last document update.gap update.numbers.items
