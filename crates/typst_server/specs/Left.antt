-- What messages leave known of the open documents.
use Rattle.std.specs.Prelude.{◌≡◌, ⊤, ◌⊎◌, ℕ, List, Option, None, Some, option_and_then}
use Rattle.serde_json.specs.Data.{Data, Items}
use Rattle.serde_json.specs.Read.{read as read_text}
use Rattle.typst_positions.specs.declared.columns.Encoding.{Encoding}
use Rattle.typst_protocol.specs.Messages.{IsUnreadBody, Said, asks, tells, responds, babbles, meant, said}
use Rattle.typst_protocol.specs.Parameters as parameters
use Rattle.typst_protocol.specs.declared.message.Message.{Message}
use Rattle.typst_protocol.specs.declared.message.Message.TheVariants as message
use Rattle.typst_protocol.specs.declared.method.Event.{Event}
use Rattle.typst_protocol.specs.declared.method.Event.TheVariants as event
use Rattle.typst_server.specs.Answers.{method_of, told_by}
use Rattle.typst_server.specs.Documents.{IsUnknown, Keeps, KeepsOthers, Knows, after, found}
use Rattle.typst_server.specs.declared.documents.Documents.{Documents}
use Rattle.typst_protocol.specs.declared.refusal.Loss.{Loss}
use Rattle.typst_server.specs.declared.reply.Reply.{Reply}
use Rattle.typst_server.specs.declared.reply.Reply.TheVariants as reply
use Rattle.typst_server.specs.declared.server.Phase.{Phase}
use Rattle.typst_server.specs.declared.server.Phase.TheVariants.{Fresh, Running, ShutDown}

-- all documents are as they were
abbrev pub AreSame : Documents → Documents → Type 0
AreSame old new = (uri : List ℕ) → found uri new ≡ found uri old

-- nothing is known of any document
abbrev pub AreUnknown : Documents → Type 0
AreUnknown documents = (uri : List ℕ) → IsUnknown (found uri documents)

-- what may have been meant to change a document loses it alone, and what names none loses none
abbrev pub Loses : Option (List ℕ) → Documents → Documents → Type 0
Loses None old new = AreSame old new
Loses (Some uri) old new = IsUnknown (found uri new) × KeepsOthers uri old new

-- no document that was known is open and unknown
abbrev pub LosesNone : Documents → Documents → Type 0
LosesNone old new = (uri : List ℕ) → found uri new ≡ Some None → IsUnknown (found uri old)

-- what is lost, as a reply says
abbrev pub loss_of : Reply → Option Loss
loss_of (reply.Nameless why news) = news.lost
loss_of (reply.News news) = news.lost
loss_of (reply.Response text) = None
loss_of reply.Nothing = None
loss_of (reply.Exit status) = None

-- where no loss is reported there is none
abbrev pub IsWarned : Option Loss → Documents → Documents → Type 0
IsWarned None old new = LosesNone old new
IsWarned (Some loss) old new = ⊤

-- what a list of changes makes of what is known, if there is one
abbrev pub changed_by : Encoding → Option Items → Option (List ℕ) → Option (List ℕ)
changed_by encoding None text = None
changed_by encoding (Some values) text = after encoding text values

-- what is left of a document: opened, the text that was sent; changed, what the changes make of it; closed, nothing
abbrev pub Leaves : Encoding → Event → List ℕ → Option Data → Documents → Documents → Type 0
Leaves encoding event.Opened uri params old new = Knows encoding (found uri new) (parameters.whole_text params)
Leaves encoding event.Changed uri params old new = Keeps encoding (changed_by encoding (parameters.changes params)) (found uri old) (found uri new)
Leaves encoding event.Closed uri params old new = found uri new ≡ None
Leaves encoding event.Exit uri params old new = found uri new ≡ found uri old

-- what a client says is done with the document that the parameters name, and with no other one
abbrev pub IsDone : Encoding → Event → Option (List ℕ) → Option Data → Documents → Documents → Type 0
IsDone encoding done None params old new = AreSame old new
IsDone encoding done (Some uri) params old new = Leaves encoding done uri params old new × KeepsOthers uri old new

-- what a client tells leaves all documents where the server doesn't act on it
abbrev pub IsTaken : Encoding → Option Event → Option Data → Documents → Documents → Type 0
IsTaken encoding None params old new = AreSame old new
IsTaken encoding (Some done) params old new = IsDone encoding done (parameters.uri params) params old new

-- what a client tells is acted on between `initialize` and `shutdown`; before and after it leaves all documents
abbrev pub IsTold : Phase → Encoding → Option Event → Option Data → Documents → Documents → Type 0
IsTold Running encoding told params old new = IsTaken encoding told params old new
IsTold Fresh encoding told params old new = AreSame old new
IsTold ShutDown encoding told params old new = AreSame old new

-- only a notification does something with documents, and what is no message loses the one that it may have been meant to change
abbrev pub IsLeft : Said → Phase → Encoding → Data → Documents → Documents → Type 0
IsLeft tells phase encoding value old new = IsTold phase encoding (option_and_then told_by (method_of value)) (parameters.params value) old new
IsLeft (asks id) phase encoding value old new = AreSame old new
IsLeft responds phase encoding value old new = AreSame old new
IsLeft babbles phase encoding value old new = Loses (meant value) old new

-- a body is the JSON of a value that leaves the documents so
pub record LeavesSo (phase : Phase) (encoding : Encoding) (body : List ℕ) (old new : Documents) : Type 0 where
  pub value : Data
  pub read : read_text body ≡ Some value
  pub left : IsLeft (said value) phase encoding value old new

-- WHAT A BODY LEAVES KNOWN of the documents: nothing if it can't be read
abbrev pub IsKnownAfter : Phase → Encoding → List ℕ → Documents → Documents → Reply → Type 0
IsKnownAfter phase encoding body old new (reply.Nameless why news) = (IsUnreadBody body why × AreUnknown new) ⊎ LeavesSo phase encoding body old new
IsKnownAfter phase encoding body old new (reply.Response text) = LeavesSo phase encoding body old new
IsKnownAfter phase encoding body old new (reply.News news) = LeavesSo phase encoding body old new
IsKnownAfter phase encoding body old new reply.Nothing = LeavesSo phase encoding body old new
IsKnownAfter phase encoding body old new (reply.Exit status) = LeavesSo phase encoding body old new

-- what a message of the code leaves of the documents
abbrev pub IsLeftBy : Message → Phase → Encoding → Documents → Documents → Type 0
IsLeftBy (message.Notification n) phase encoding old new = IsTold phase encoding (told_by n.method.now) (parameters.seen n.params) old new
IsLeftBy (message.Request r) phase encoding old new = AreSame old new
IsLeftBy message.Response phase encoding old new = AreSame old new
