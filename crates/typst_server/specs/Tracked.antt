-- The tokens that are kept with a document, and how they stand to those that were sent last.
use Rattle.std.specs.Prelude.{◌≡◌, ⊤, ℕ, ◌-◌, ◌*◌, ◌^◌, ◌≤◌, min, Bool, false, List, Option, None, Some, is_some, length, take, drop, refl, if◌then◌else◌}
use Rattle.std.specs.Coded.{Coded, code_by, coded_list, coded_option, coded_ℕ, coded×}
use Rattle.std.specs.Str.{bytes_eq}
use Rattle.std.specs.String.{string_bytes}
use Rattle.std.specs.declared.ops.Range.{Range}
use Rattle.typst_document.specs.UnicodeTables.{unicode_classes}
use Rattle.typst_document.specs.Tree.{Tree}
use Rattle.typst_styles.specs.Tokens.{tokens_in}
use Rattle.typst_styles.specs.Windows.{IsEdit, IsWindow, range_of}
use Rattle.typst_styles.specs.declared.tokens.Token.{Token}
use Rattle.typst_document.specs.Document.{IsReadAgain, Opened, all_bytes, opened_code}
use Rattle.typst_document.specs.Headline.{Headline}
use Rattle.typst_server.specs.Numbers.{numbers_of}
use Rattle.typst_server.specs.declared.tracked.Carried.{Carried}
use Rattle.typst_server.specs.declared.tracked.Ends.{Ends}
use Rattle.typst_server.specs.declared.tracked.Kept.{Kept}
use Rattle.typst_server.specs.declared.tracked.Last.{Last}

-- ---- what contracts see

-- tokens that were sent: all of a document, under a name
pub record Sent : Type 0 where
  pub name : List ℕ
  pub of : Opened

-- an open document, and what was sent last of its tokens
pub record Followed : Type 0 where
  pub document : Opened
  pub sent : Option Sent

abbrev pub sent_code : Coded Sent
sent_code = code_by (List ℕ × Opened) (coded× (coded_list coded_ℕ) opened_code) (λ sent. (sent.name, sent.of)) (λ p. record { name = p.0; of = p.1 }) (λ _. refl)

-- an open document with what was sent last is stored as a pair
abbrev pub followed_code : Coded Followed
followed_code =
    code_by (Opened × Option Sent) (coded× opened_code (coded_option sent_code)) (λ followed. (followed.document, followed.sent)) (λ p. record { document = p.0; sent = p.1 }) (λ _. refl)

-- what was sent last, as contracts see it
abbrev pub sent_by : Last → Sent
sent_by last = record { name = string_bytes last.name; of = last.of.value }

-- ---- how tokens stand to those that were sent

-- two lists have the same numbers at the front, up to a count, and at the back, up to another count
pub record SameEnds (old new : List ℕ) (front back : ℕ) : Type 0 where
  pub first : take front old ≡ take front new
  pub last : drop (length old - back) old ≡ drop (length new - back) new
  pub front_old : front ≤ length old
  pub front_new : front ≤ length new
  pub back_old : back ≤ length old
  pub back_new : back ≤ length new

-- the tokens that were sent of a document have numbers that can be counted, of which those at both ends, up to two counts, are those of the present tokens
pub record IsSince (now was : Opened) (ends : Ends) : Type 0 where
  pub counted : length (numbers_of was) ≡ 5 * ends.count
  pub few : 5 * ends.count ≤ 2 ^ 64 - 1
  pub same : SameEnds (numbers_of was) (numbers_of now) (5 * ends.front) (5 * ends.back)

-- what is kept of those that were sent last says how the present ones stand to them
abbrev pub IsLast : Opened → Option Last → Type 0
IsLast now None = ⊤
IsLast now (Some last) = IsSince now last.of.value last.ends

-- tokens, if they were sent under this name
abbrev pub if_named : List ℕ → Option Sent → Option Sent
if_named name None = None
if_named name (Some sent) = if bytes_eq sent.name name then Some sent else None

-- tokens, if they were sent under the name that is given
abbrev pub named_last : Option (List ℕ) → Option Sent → Option Sent
named_last None sent = None
named_last (Some name) sent = if_named name sent

-- the ends at most so long
abbrev pub shortened : ℕ → ℕ → Ends → Ends
shortened front back ends = record { count = ends.count; front = min ends.front front; back = min ends.back back }

-- of edited tokens no ends are known
abbrev pub ends_if : Bool → Ends → Ends
ends_if is_edited ends = if is_edited then shortened 0 0 ends else ends

-- the ends that are known of what was sent last, if that was under this name (of a private clause)
abbrev pub ends_by : List ℕ → Bool → Last → Option Ends
ends_by name is_edited last = if bytes_eq (string_bytes last.name) name then Some (ends_if is_edited last.ends) else None

-- what is known of how a document's tokens stand to these
abbrev pub TellsSince : Opened → Option Sent → Option Ends → Type 0
TellsSince now None ends = ends ≡ None
TellsSince now (Some sent) None = ⊥
TellsSince now (Some sent) (Some ends) = IsSince now sent.of ends

-- the tokens of a document have a count, and numbers that can be counted
pub record IsCounted (document : Opened) (count : ℕ) : Type 0 where
  pub counted : length (numbers_of document) ≡ 5 * count
  pub few : 5 * count ≤ 2 ^ 64 - 1

-- ---- tokens that are kept

-- tokens that are at hand are all of the document's tree
abbrev pub AreTokens : Opened → Option (List Token) → Type 0
AreTokens document None = ⊤
AreTokens document (Some tokens) = tokens ≡ tokens_in (all_bytes document) document.source.text document.source.root

-- a document is another one, or was that before these bytes were read again
abbrev pub WasBefore : Opened → Opened → Option (Range ℕ) → Type 0
WasBefore was document None = was ≡ document
WasBefore was document (Some read) = IsEdit document.source.text was.source.text was.source.root document.source.root read

-- kept tokens are all of a document as it was before what edits have read again since
pub record AreOf (was document : Opened) (kept : Kept) : Type 0 where
  pub encoding : document.encoding ≡ was.encoding
  pub tokens : AreTokens was (Some kept.tokens)
  pub len : kept.was_len ≡ length was.source.text
  pub since : WasBefore was document kept.read

-- of a document that kept tokens are of, what is kept of the tokens sent last says how its tokens stand to those
pub record StandSo (document : Opened) (kept : Kept) (sent : Option Last) : Type 0 where
  pub was : Opened
  pub of : AreOf was document kept
  pub last : IsLast was sent

-- what is kept of the tokens sent last says how kept tokens stand to those or, if none are kept, the document's own
abbrev pub IsTracked : Opened → Option Kept → Option Last → Type 0
IsTracked document None last = IsLast document last
IsTracked document (Some kept) last = StandSo document kept last

-- ---- from one change to the next (of private clauses, as all that follows)

-- an edit came since tokens were kept
abbrev pub is_edited : Option Kept → Bool
is_edited None = false
is_edited (Some kept) = is_some kept.read

-- kept tokens are of the same document after an edit, whatever documents of so many bytes there are before and after it
abbrev pub StaysKept : Kept → Range ℕ → ℕ → ℕ → Kept → Type 0
StaysKept kept read before after new_kept =
    (was old new : Opened) → Headline unicode_classes old.source → Headline unicode_classes new.source → new.encoding ≡ old.encoding → IsReadAgain old new (Some read) → before ≡ length old.source.text → after ≡ length new.source.text
    → AreOf was old kept → AreOf was new new_kept

-- tokens that are kept after a change are kept tokens of the same document
abbrev pub MayStay : Option Kept → Option (Range ℕ) → ℕ → ℕ → Option Kept → Type 0
MayStay kept read before after None = ⊤
MayStay None read before after (Some new_kept) = ⊥
MayStay (Some kept) None before after (Some new_kept) = ⊥
MayStay (Some kept) (Some read) before after (Some new_kept) = StaysKept kept read before after new_kept

-- what is kept of tokens that were sent stays, except for its ends
pub record IsShortened (old new : Last) (front back : ℕ) : Type 0 where
  pub name : new.name ≡ old.name
  pub of : new.of.value ≡ old.of.value
  pub ends : new.ends ≡ shortened front back old.ends

abbrev pub IsLastAfter : Option Last → ℕ → ℕ → Option Last → Type 0
IsLastAfter None front back new = new ≡ None
IsLastAfter (Some old) front back None = ⊥
IsLastAfter (Some old) front back (Some new) = IsShortened old new front back

-- ---- tokens that are made again

-- kept tokens are all of the present document
pub record ArePresent (document : Opened) (kept : Kept) : Type 0 where
  pub tokens : AreTokens document (Some kept.tokens)
  pub len : kept.was_len ≡ length document.source.text
  pub unread : kept.read ≡ None

abbrev pub IsPresent : Opened → Option Kept → Type 0
IsPresent document None = ⊤
IsPresent document (Some kept) = ArePresent document kept

-- the tokens at both ends, up to two counts, have the numbers that they had in a document as it was
pub record IsCarried (was document : Opened) (carried : Carried) : Type 0 where
  pub kept : IsPresent document carried.kept
  pub same : SameEnds (numbers_of was) (numbers_of document) (5 * carried.front) (5 * carried.back)

-- the tokens at both ends have the numbers that they had, whatever document the kept tokens were of
abbrev pub IsCarriedOver : Opened → Option Kept → Carried → Type 0
IsCarriedOver document None carried = IsCarried document document carried
IsCarriedOver document (Some kept) carried = (was : Opened) → AreOf was document kept → IsCarried was document carried

-- the tokens at both ends have the numbers that they had before edits that read these bytes again
abbrev pub IsCarriedBy : Opened → Range ℕ → List Token → ℕ → Carried → Type 0
IsCarriedBy document read tokens was_len carried =
    (was : Opened) → document.encoding ≡ was.encoding → AreTokens was (Some tokens) → was_len ≡ length was.source.text → WasBefore was document (Some read) → IsCarried was document carried

-- with this window
abbrev pub IsKeptBy : Opened → Range ℕ → List Token → ℕ → Option Kept → Type 0
IsKeptBy document window tokens was_len kept =
    (text : List ℕ) (root : Tree) (read : Range ℕ) → IsEdit document.source.text text root document.source.root read → IsWindow document.source.root document.source.text read window → was_len ≡ length text → tokens ≡ tokens_in (range_of 0 (length text)) text root
    → IsPresent document kept
