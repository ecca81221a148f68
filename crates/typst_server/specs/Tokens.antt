-- Which tokens are kept of documents, from one message to the next.
use Rattle.std.specs.Prelude.{◌≡◌, ⊤, ◌⊎◌, ℕ, ◌+◌, ◌%◌, ◌^◌, List, false, Option, None, Some, option_and_then}
use Rattle.std.specs.Fmt.{decimal}
use Rattle.std.specs.String.{string_bytes}
use Rattle.serde_json.specs.Data.{Data}
use Rattle.serde_json.specs.Read.{read as read_text}
use Rattle.serde_json.specs.Written.{compact_text}
use Rattle.typst_protocol.specs.Addresses.{is_same}
use Rattle.typst_protocol.specs.Bodies.{success}
use Rattle.typst_protocol.specs.Messages.{asks, said}
use Rattle.typst_protocol.specs.Methods.{methods, named}
use Rattle.typst_protocol.specs.Parameters as parameters
use Rattle.typst_protocol.specs.declared.message.Message.{Message}
use Rattle.typst_protocol.specs.declared.message.Message.TheVariants as message
use Rattle.typst_protocol.specs.declared.method.Method.{Method}
use Rattle.typst_protocol.specs.declared.method.Method.TheVariants.{TokensFull, TokensDelta}
use Rattle.typst_server.specs.Answers.{method_of}
use Rattle.typst_server.specs.Documents.{found}
use Rattle.typst_document.specs.Document.{Opened}
use Rattle.typst_server.specs.Numbers.{numbers_of}
use Rattle.typst_server.specs.Phases.{IsFailure}
use Rattle.typst_server.specs.Sent.{KeepsSent, TellsTokens, TellsUnder, sent_of}
use Rattle.typst_server.specs.Tracked.{named_last}
use Rattle.typst_server.specs.declared.reply.Reply.{Reply}
use Rattle.typst_server.specs.declared.reply.Reply.TheVariants as reply
use Rattle.typst_server.specs.declared.server.Server.{Server}

-- of each document the same tokens are kept, and the next ones have the same number
abbrev pub SameSent : Server → Server → Type 0
SameSent old new = (new.next_number ≡ old.next_number) × ((uri : List ℕ) → sent_of uri new.documents ≡ sent_of uri old.documents)

-- of each document the tokens stay that were kept, or none are kept, and the next ones have the same number
abbrev pub DropsSent : Server → Server → Type 0
DropsSent old new = (new.next_number ≡ old.next_number) × KeepsSent old.documents new.documents

-- a request asks for all tokens, or for what has changed of them
abbrev pub AsksTokens : Option Method → Type 0
AsksTokens (Some TokensFull) = ⊤
AsksTokens (Some TokensDelta) = ⊤
AsksTokens _ = ⊥

-- the name of the tokens of which changes are wanted, if that is asked
abbrev pub previous : Option Method → Option Data → Option (List ℕ)
previous (Some TokensDelta) params = parameters.previous_tokens params
previous _ params = None

-- WHAT IS SENT FOR TOKENS: the response has a result. By it a client has, under the next number as their name, the numbers of the present
-- tree of the document that the parameters name: by changes of those that it names, if these were sent last, or else all of them. Read
-- back they are the tokens of that tree; and they are kept as the last ones. Of other documents the same are kept
pub record SendsTokens (old new : Server) (method : Option Method) (params : Option Data) (id text : List ℕ) : Type 0 where
  pub asked : AsksTokens method
  pub uri : List ℕ
  pub named : parameters.uri params ≡ Some uri
  pub document : Opened
  pub known : found uri old.documents ≡ Some (Some document)
  pub value : List ℕ
  pub told : TellsUnder (named_last (previous method params) (sent_of uri old.documents)) document (decimal old.next_number) value
  pub success : text ≡ success id value
  pub tokens : TellsTokens document (numbers_of document)
  pub kept : sent_of uri new.documents ≡ Some (record { name = decimal old.next_number; of = document })
  pub others : (other : List ℕ) → is_same uri other ≡ false → sent_of other new.documents ≡ sent_of other old.documents
  pub next : new.next_number ≡ (old.next_number + 1) % 2 ^ 64

-- where a request for tokens has a response that sends none, this has an error
abbrev pub IsUnsent : Option Method → List ℕ → List ℕ → Type 0
IsUnsent method id text = AsksTokens method → IsFailure id text

-- with a response the same tokens are kept, or those that it sends
abbrev pub KeepsTokens : Server → Server → Option Method → Option Data → List ℕ → List ℕ → Type 0
KeepsTokens old new method params id text = (SameSent old new × IsUnsent method id text) ⊎ SendsTokens old new method params id text

-- which tokens are kept when a request has this reply
abbrev pub KeepsByReply : Server → Server → Option Method → Option Data → List ℕ → Reply → Type 0
KeepsByReply old new method params id (reply.Response text) = KeepsTokens old new method params id (string_bytes text)
KeepsByReply old new method params id _ = DropsSent old new

-- which tokens are kept when a message of the code has this reply
abbrev pub IsSentBy : Server → Server → Message → Reply → Type 0
IsSentBy old new (message.Request r) answer = KeepsByReply old new (named methods r.method.now) (parameters.seen r.params) r.id answer
IsSentBy old new _ answer = DropsSent old new

-- a body asks a request, with whose response such tokens are kept
pub record KeepsAsked (old new : Server) (body text : List ℕ) : Type 0 where
  pub value : Data
  pub read : read_text body ≡ Some value
  pub id : Data
  pub asked : said value ≡ asks id
  pub kept : KeepsTokens old new (option_and_then (named methods) (method_of value)) (parameters.params value) (compact_text id) text

-- WHICH TOKENS ARE KEPT after a body: those that its response sends, or the same as before; and where it has no response the same, or none
abbrev pub IsSentAfter : Server → Server → List ℕ → Reply → Type 0
IsSentAfter old new body (reply.Response text) = KeepsAsked old new body (string_bytes text)
IsSentAfter old new body _ = DropsSent old new
