-- What is answered to a request.
use Rattle.std.specs.Prelude.{◌≡◌, ⊤, ◌⊎◌, ℕ, List, ◌++◌, codes, Option, None, Some, Result, Ok, Err, IfOk, String}
use Rattle.std.specs.String.{string_bytes}
use Rattle.std.specs.declared.alloc.Global.{Global}
use Rattle.serde_json.specs.Data.{Data}
use Rattle.typst_positions.specs.declared.columns.Encoding.{Encoding}
use Rattle.typst_positions.specs.declared.columns.Encoding.TheVariants.{Utf8, Utf16}
use Rattle.typst_protocol.specs.Bodies.{failure, success}
use Rattle.typst_protocol.specs.Parameters as parameters
use Rattle.typst_protocol.specs.declared.method.Method.{Method}
use Rattle.typst_protocol.specs.declared.method.Method.TheVariants.{Initialize, Shutdown, WorkspaceSymbols, Diagnostics, Definition, References, Highlights, TokensRange}
use Rattle.typst_protocol.specs.declared.refusal.Refusal.{Refusal}
use Rattle.typst_protocol.specs.declared.refusal.Refusal.TheVariants.{BadParameters, LostDocument, OutOfMemory}
use Rattle.typst_document.specs.Document.{Opened}
use Rattle.typst_server.specs.Documents.{found}
use Rattle.typst_server.specs.Located.{TellsHighlights, TellsLocations}
use Rattle.typst_server.specs.Occurrences.{AtPosition, defined, occurrences, stretches, used}
use Rattle.typst_server.specs.Published.{Reports}
use Rattle.typst_server.specs.Sent.{InStretch, TellsWithin}
use Rattle.typst_server.specs.declared.diagnostics.ShownErrors.{ShownErrors}
use Rattle.typst_server.specs.declared.documents.Documents.{Documents}
use Rattle.typst_server.specs.declared.server.Phase.{Phase}
use Rattle.typst_server.specs.declared.server.Phase.TheVariants.{Fresh, Running}

-- an answer is a value, as JSON, or a refusal
abbrev pub Answer : Type 0
Answer = Result (List ℕ) Refusal

-- the answer that a result of the code is
abbrev pub said_of : Result (String Global) Refusal → Answer
said_of (Ok text) = Ok (string_bytes text)
said_of (Err why) = Err why

-- the name of an encoding
abbrev pub encoding_name : Encoding → List ℕ
encoding_name Utf8 = codes "utf-8"
encoding_name Utf16 = codes "utf-16"

-- what the server says of itself begins with the encoding in which columns are counted
pub record Names (encoding : Encoding) (value : List ℕ) : Type 0 where
  pub rest : List ℕ
  pub begins : value ≡ codes "{\"capabilities\":{\"positionEncoding\":\"" ++ encoding_name encoding ++ codes "\"," ++ rest

-- a text has more after it
pub record Grows (old new : List ℕ) : Type 0 where
  pub more : List ℕ
  pub grown : new ≡ old ++ more

-- WHAT IS SAID OF A DOCUMENT with an address whose text is known: its errors and warnings; of what stands at the position that parameters
-- name where it is defined, where it is used, or all of it; its tokens in the stretch that they name. (Of all its tokens `SendsTokens` says it)
abbrev pub Looks : ShownErrors → Method → Option Data → List ℕ → Opened → List ℕ → Type 0
Looks which Diagnostics params uri document value = Reports which document value
Looks which Definition params uri document value = AtPosition params document (λ b. TellsLocations document uri (defined (occurrences document b)) value)
Looks which References params uri document value = AtPosition params document (λ b. TellsLocations document uri (used (parameters.includes_label params) (occurrences document b)) value)
Looks which Highlights params uri document value = AtPosition params document (λ b. TellsHighlights document (stretches (occurrences document b)) value)
Looks which TokensRange params uri document value = InStretch params document (λ range. TellsWithin document range value)
Looks which _ params uri document value = ⊤

-- only of a document that is known there is a value: where none is open, and where its text isn't known, the answer is the refusal that says so
abbrev pub IsAbout : ShownErrors → Method → Option Data → List ℕ → Option (Option Opened) → Answer → Type 0
IsAbout which method params uri None answer = answer ≡ Err BadParameters
IsAbout which method params uri (Some None) answer = answer ≡ Err LostDocument
IsAbout which method params uri (Some (Some document)) answer = IfOk answer (Looks which method params uri document)

-- the document is the one that the parameters name
abbrev pub IsOf : ShownErrors → Method → Option Data → Option (List ℕ) → Documents → Answer → Type 0
IsOf which method params None documents answer = answer ≡ Err BadParameters
IsOf which method params (Some uri) documents answer = IsAbout which method params uri (found uri documents) answer

-- what is looked for in all documents has to be named
abbrev pub OfDocuments : Option (List ℕ) → Answer → Type 0
OfDocuments None answer = answer ≡ Err BadParameters
OfDocuments (Some query) answer = ⊤

-- WHAT A REQUEST THAT IS ALLOWED IS ANSWERED: `initialize` with the encoding that its parameters ask for, `shutdown` with nothing, each
-- other one by what is known of its document
abbrev pub Gives : Phase → ShownErrors → Option Method → Option Data → Documents → Answer → Type 0
Gives Fresh which (Some Initialize) params documents answer = IfOk answer (Names (parameters.encoding params))
Gives Running which (Some Initialize) params documents answer = ⊤
Gives Running which (Some Shutdown) params documents answer = IfOk answer (λ value. value ≡ codes "null")
Gives Running which (Some WorkspaceSymbols) params documents answer = OfDocuments (parameters.query params) answer
Gives Running which (Some method) params documents answer = IsOf which method params (parameters.uri params) documents answer
Gives _ which _ params documents answer = ⊤

-- the response that tells an answer
abbrev pub response_of : List ℕ → Answer → List ℕ
response_of id (Ok value) = success id value
response_of id (Err why) = failure id why

-- a response tells such an answer, or that memory is refused
pub record Tells (given : Answer → Type 0) (id text : List ℕ) : Type 0 where
  pub answer : Answer
  pub told : text ≡ response_of id answer
  pub meant : given answer ⊎ (answer ≡ Err OutOfMemory)
