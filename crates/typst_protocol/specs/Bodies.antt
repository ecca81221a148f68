-- The bodies that a server sends.
use Rattle.std.specs.Prelude.{ℕ, List, [], ◌++◌, codes, Some}
use Rattle.serde.specs.Event.{Log}
use Rattle.serde_json.specs.Sent.{IsTextOf}
use Rattle.typst_protocol.specs.declared.refusal.Refusal.{Refusal}
use Rattle.typst_protocol.specs.declared.refusal.Refusal.TheVariants.{OutOfPlace, UnknownMethod, BadParameters, OutOfMemory, NotInitialized, LostDocument, NotRenamable, NotAnIdentifier, NotALabel}
use Rattle.typst_protocol.specs.declared.refusal.Unread.{Unread}
use Rattle.typst_protocol.specs.declared.refusal.Unread.TheVariants as unread
use Rattle.typst_protocol.specs.declared.refusal.Loss.{Loss}
use Rattle.typst_protocol.specs.declared.refusal.Loss.TheVariants as loss

-- a response holds the identifier of its request, and one more member
abbrev pub response : List ℕ → List ℕ → List ℕ → List ℕ
response id name value = codes "{\"jsonrpc\":\"2.0\",\"id\":" ++ id ++ codes ",\"" ++ name ++ codes "\":" ++ value ++ codes "}"

-- the response with a result
abbrev pub success : List ℕ → List ℕ → List ℕ
success id value = response id (codes "result") value

-- an error has a code and a message
abbrev pub error : List ℕ → List ℕ → List ℕ
error code message = codes "{\"code\":" ++ code ++ codes ",\"message\":\"" ++ message ++ codes "\"}"

-- the code of a refusal
abbrev pub code_of : Refusal → List ℕ
code_of OutOfPlace = codes "-32600"
code_of UnknownMethod = codes "-32601"
code_of BadParameters = codes "-32602"
code_of OutOfMemory = codes "-32603"
code_of NotInitialized = codes "-32002"
code_of LostDocument = codes "-32801"
code_of NotRenamable = codes "-32803"
code_of NotAnIdentifier = codes "-32803"
code_of NotALabel = codes "-32803"

-- the message of a refusal
abbrev pub message_of : Refusal → List ℕ
message_of OutOfPlace = codes "not at this time"
message_of UnknownMethod = codes "unknown method"
message_of BadParameters = codes "the parameters do not fit"
message_of OutOfMemory = codes "out of memory"
message_of NotInitialized = codes "not initialized"
message_of LostDocument = codes "the text is not known: open the document again, or send it whole"
message_of NotRenamable = codes "nothing that this document defines stands there"
message_of NotAnIdentifier = codes "the new name is not an identifier"
message_of NotALabel = codes "the new name is not the name of a label"

-- the response with the error of a refusal
abbrev pub failure : List ℕ → Refusal → List ℕ
failure id refusal = response id (codes "error") (error (code_of refusal) (message_of refusal))

-- the error of a body that isn't taken for a message
abbrev pub error_of : Unread → List ℕ
error_of unread.NotJson = error (codes "-32700") (codes "not JSON")
error_of unread.NotAMessage = error (codes "-32600") (codes "not a message")
error_of unread.OutOfMemory = error (codes "-32603") (codes "out of memory")

-- the response to a body that isn't taken for a message, which has no identifier
abbrev pub nameless : Unread → List ℕ
nameless why = response (codes "null") (codes "error") (error_of why)

-- a notification has a method and parameters
abbrev pub notification : List ℕ → List ℕ → List ℕ
notification method params = codes "{\"jsonrpc\":\"2.0\",\"method\":\"" ++ method ++ codes "\",\"params\":" ++ params ++ codes "}"

-- a warning is a message of the type 2, which the client shows
abbrev pub warning : List ℕ → List ℕ
warning text = notification (codes "window/showMessage") (codes "{\"type\":2,\"message\":\"" ++ text ++ codes "\"}")

-- the text that warns of a loss
abbrev pub text_of : Loss → List ℕ
text_of loss.Document = codes "The text of a document is lost: close it and open it again."
text_of loss.All = codes "A message could not be read: close the documents and open them again."

-- a text is the JSON of what a value writes, from nothing on
abbrev pub IsJsonOf : (Log → Log → Type 0) → List ℕ → Type 0
IsJsonOf writes text = (log : Log) × writes (Some []) log × IsTextOf log text
