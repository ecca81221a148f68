-- What may be done about a body.
use Rattle.std.specs.Prelude.{◌≡◌, ◌⊎◌, ℕ, List, codes, Option, Some, option_and_then}
use Rattle.std.specs.String.{string_bytes}
use Rattle.serde_json.specs.Data.{Data}
use Rattle.serde_json.specs.Read.{read as read_text}
use Rattle.serde_json.specs.Written.{compact_text}
use Rattle.typst_protocol.specs.Messages.{IsUnread, IsUnreadBody, Said, asks, responds, said, tells, text_at}
use Rattle.typst_protocol.specs.Methods.{events, methods, named}
use Rattle.typst_protocol.specs.Parameters as parameters
use Rattle.typst_protocol.specs.declared.message.Message.{Message}
use Rattle.typst_protocol.specs.declared.message.Message.TheVariants as message
use Rattle.typst_protocol.specs.declared.method.Event.{Event}
use Rattle.typst_protocol.specs.declared.method.Event.TheVariants as event
use Rattle.typst_protocol.specs.declared.refusal.Unread.{Unread}
use Rattle.typst_protocol.specs.declared.refusal.Unread.TheVariants as unread
use Rattle.typst_server.specs.Phases.{Responds, allowed, status_of}
use Rattle.typst_server.specs.Published.{EmptiesAll, SaysNews}
use Rattle.typst_server.specs.Results.{Gives, Tells}
use Rattle.typst_server.specs.declared.diagnostics.ShownErrors.{ShownErrors}
use Rattle.typst_server.specs.declared.documents.Documents.{Documents}
use Rattle.typst_server.specs.declared.reply.News.{News}
use Rattle.typst_server.specs.declared.reply.Reply.{Reply}
use Rattle.typst_server.specs.declared.reply.Reply.TheVariants as reply
use Rattle.typst_server.specs.declared.server.Phase.TheVariants.{Running}
use Rattle.typst_server.specs.declared.server.Standing.{Standing}

-- that memory is refused
abbrev pub IsOfMemory : Unread → Type 0
IsOfMemory why = why ≡ unread.OutOfMemory

-- what a notification tells, if the server acts on it
abbrev pub told_by : List ℕ → Option Event
told_by name = named events name

-- a request is answered by one response, unless memory is refused; nothing else is. Only a request moves the server, and only `exit` ends
abbrev pub IsReplyTo : Standing → Standing → Documents → Documents → Message → Reply → Type 0
IsReplyTo old new before behind (message.Request r) (reply.Response text) =
    Responds (allowed old (named methods r.method.now) (parameters.seen r.params)) old new r.id (string_bytes text)
    × Tells (Gives old.phase old.errors (named methods r.method.now) (parameters.seen r.params) before) r.id (string_bytes text)
IsReplyTo old new before behind (message.Request r) (reply.Nameless why news) = IsOfMemory why × EmptiesAll news × (new ≡ old)
IsReplyTo old new before behind (message.Request r) _ = ⊥
IsReplyTo old new before behind (message.Notification n) (reply.Response text) = ⊥
IsReplyTo old new before behind (message.Notification n) (reply.Nameless why news) = ⊥
IsReplyTo old new before behind (message.Notification n) (reply.Exit status) = (told_by n.method.now ≡ Some event.Exit) × (status ≡ status_of old.phase) × (new ≡ old)
IsReplyTo old new before behind (message.Notification n) (reply.News news) = (old.phase ≡ Running) × (new ≡ old) × SaysNews new.errors (parameters.seen n.params) behind news
IsReplyTo old new before behind (message.Notification n) reply.Nothing = new ≡ old
IsReplyTo old new before behind message.Response answer = (answer ≡ reply.Nothing) × (new ≡ old)

-- what a client does with a document is answered by notifications between `initialize` and `shutdown` alone, or by nothing
abbrev pub TakesEvent : Standing → Standing → Option Data → Documents → Reply → Type 0
TakesEvent old new params behind (reply.News news) = (old.phase ≡ Running) × (new ≡ old) × SaysNews new.errors params behind news
TakesEvent old new params behind reply.Nothing = new ≡ old
TakesEvent old new params behind _ = ⊥

-- a body is the JSON of a value that says this
pub record Says (body : List ℕ) (what : Said → Type 0) : Type 0 where
  pub value : Data
  pub read : read_text body ≡ Some value
  pub says : what (said value)

-- a body isn't taken for a message: it isn't read, or its value says nothing
pub record IsOfNone (body : List ℕ) (why : Unread) : Type 0 where
  pub value : Data
  pub read : read_text body ≡ Some value
  pub none : IsUnread value why

-- a body isn't read, or says nothing
abbrev pub IsNoMessage : List ℕ → Unread → Type 0
IsNoMessage body why = IsUnreadBody body why ⊎ IsOfNone body why

-- the text of a value's method
abbrev pub method_of : Data → Option (List ℕ)
method_of value = text_at (codes "method") value

-- a body asks a request, and this is its response: it goes where the request leads, and tells what may be answered of what is known
pub record IsAsked (old new : Standing) (documents : Documents) (body text : List ℕ) : Type 0 where
  pub value : Data
  pub read : read_text body ≡ Some value
  pub id : Data
  pub asked : said value ≡ asks id
  pub response : Responds (allowed old (option_and_then (named methods) (method_of value)) (parameters.params value)) old new (compact_text id) text
  pub answer : Tells (Gives old.phase old.errors (option_and_then (named methods) (method_of value)) (parameters.params value) documents) (compact_text id) text

-- a body tells that all ends
pub record IsExit (body : List ℕ) : Type 0 where
  pub value : Data
  pub read : read_text body ≡ Some value
  pub told : said value ≡ tells
  pub exit : option_and_then told_by (method_of value) ≡ Some event.Exit

-- a body tells something of a document, and this is said of it
pub record IsNoticed (which : ShownErrors) (behind : Documents) (body : List ℕ) (news : News) : Type 0 where
  pub value : Data
  pub read : read_text body ≡ Some value
  pub told : said value ≡ tells
  pub says : SaysNews which (parameters.params value) behind news

-- what may be done about a body, and where the server stands after it: only a request has a response, with its identifier, and what is no
-- message has one without, with notifications that say that documents have no problems; where memory is refused anything may get the latter
abbrev pub IsAnswer : Standing → Standing → Documents → Documents → List ℕ → Reply → Type 0
IsAnswer old new before behind body (reply.Response text) = IsAsked old new before body (string_bytes text)
IsAnswer old new before behind body (reply.Nameless why news) = (IsOfMemory why ⊎ IsNoMessage body why) × EmptiesAll news × (new ≡ old)
IsAnswer old new before behind body (reply.News news) = IsNoticed new.errors behind body news × (old.phase ≡ Running) × (new ≡ old)
IsAnswer old new before behind body reply.Nothing = Says body (λ what. (what ≡ tells) ⊎ (what ≡ responds)) × (new ≡ old)
IsAnswer old new before behind body (reply.Exit status) = IsExit body × (status ≡ status_of old.phase) × (new ≡ old)
