-- What a value is as a message.
use Rattle.std.specs.Prelude.{◌≡◌, ⊤, ℕ, List, codes, Bool, ◌&&◌, ◌||◌, true, false, if◌then◌else◌, Option, None, Some, option_and_then, is_some}
use Rattle.std.specs.Option.{option_map_or}
use Rattle.std.specs.Str.{bytes_eq, IsUtf8}
use Rattle.serde_json.specs.Data.{Data, null, boolean, number, string, array, object, Num, unsigned, negative, float}
use Rattle.serde_json.specs.Find.{get, as_str}
use Rattle.serde_json.specs.Read.{read as read_text}
use Rattle.serde_json.specs.Written.{compact_text}
use Rattle.typst_protocol.specs.declared.message.Request.{Request}
use Rattle.typst_protocol.specs.declared.message.Notification.{Notification}
use Rattle.typst_protocol.specs.declared.message.Message.{Message}
use Rattle.typst_protocol.specs.declared.message.Message.TheVariants as message
use Rattle.typst_protocol.specs.declared.refusal.Unread.{Unread}
use Rattle.typst_protocol.specs.declared.refusal.Unread.TheVariants.{NotJson, NotAMessage, OutOfMemory}
use Rattle.typst_protocol.specs.declared.method.Event.{Event}
use Rattle.typst_protocol.specs.declared.method.Event.TheVariants.{Opened, Changed, Closed, Exit}
use Rattle.typst_protocol.specs.Methods.{events, named}
use Rattle.typst_protocol.specs.Parameters.{params, seen, uri}

-- a member that is a text
abbrev pub text_at : List ℕ → Data → Option (List ℕ)
text_at name d = option_and_then as_str (get name d)

-- a whole number
abbrev pub is_whole : Num → Bool
is_whole (unsigned n) = true
is_whole (negative z) = true
is_whole (float x) = false

-- an identifier is a text or a whole number
abbrev pub is_id : Data → Bool
is_id null = false
is_id (boolean b) = false
is_id (number n) = is_whole n
is_id (string s) = true
is_id (array ds) = false
is_id (object ms) = false

-- what a client may say
pub data Said : Type 0 where
  -- a request, with its identifier
  asks : Data → Said
  -- a notification
  tells : Said
  -- a response
  responds : Said
  -- nothing that is a message
  babbles : Said

-- what has a method is a request where it has an identifier, and a notification where it has none
abbrev pub called : Option Data → Said
called None = tells
called (Some id) = if is_id id then asks id else babbles

-- a response has an identifier, and a result or an error
abbrev pub is_response : Data → Bool
is_response d = is_some (get (codes "id") d) && (is_some (get (codes "result") d) || is_some (get (codes "error") d))

-- a method is a text; without one there are responses
abbrev pub said_by : Option Data → Data → Said
said_by None d = if is_response d then responds else babbles
said_by (Some method) d = if is_some (as_str method) then called (get (codes "id") d) else babbles

-- a message names version 2.0 of its language
abbrev pub is_versioned : Data → Bool
is_versioned d = option_map_or (λ version. bytes_eq version (codes "2.0")) (text_at (codes "jsonrpc") d) false

-- what a value says
abbrev pub said : Data → Said
said d = if is_versioned d then said_by (get (codes "method") d) d else babbles

-- what tells of a document gives or changes its text where it opens or changes it
abbrev pub gives_text : Event → Bool
gives_text Opened = true
gives_text Changed = true
gives_text Closed = false
gives_text Exit = false

-- a method may have been meant to give or change a text: it does, or isn't given
abbrev pub may_give_text : Option (List ℕ) → Bool
may_give_text None = true
may_give_text (Some method) = option_map_or gives_text (named events method) false

-- the document whose text a value may have been meant to give or change
abbrev pub meant : Data → Option (List ℕ)
meant d = if may_give_text (text_at (codes "method") d) then uri (params d) else None

-- a value asks this request
pub record IsRequest (d : Data) (r : Request) : Type 0 where
  pub id : Data
  pub asked : said d ≡ asks id
  pub named : r.id ≡ compact_text id
  pub method : text_at (codes "method") d ≡ Some r.method.now
  pub params : seen r.params ≡ params d

-- a value tells this notification
pub record IsNotification (d : Data) (n : Notification) : Type 0 where
  pub told : said d ≡ tells
  pub method : text_at (codes "method") d ≡ Some n.method.now
  pub params : seen n.params ≡ params d

-- the message of the code is what a value says, with its method and its parameters
abbrev pub IsMessage : Data → Message → Type 0
IsMessage d (message.Request r) = IsRequest d r
IsMessage d (message.Notification n) = IsNotification d n
IsMessage d message.Response = said d ≡ responds

-- whether a request is asked
abbrev pub is_asked : Said → Bool
is_asked (asks id) = true
is_asked tells = false
is_asked responds = false
is_asked babbles = false

-- a value isn't taken for a message where it says none, or where memory is refused for a request's identifier
abbrev pub IsUnread : Data → Unread → Type 0
IsUnread d NotJson = ⊥
IsUnread d NotAMessage = said d ≡ babbles
IsUnread d OutOfMemory = is_asked (said d) ≡ true

-- a body isn't read where it is no JSON, or no text, or where memory is refused
abbrev pub IsUnreadBody : List ℕ → Unread → Type 0
IsUnreadBody body NotJson = IsUtf8 body → read_text body ≡ None
IsUnreadBody body NotAMessage = ⊥
IsUnreadBody body OutOfMemory = ⊤
