-- What is made to answer a request, and what changes with it.
use Rattle.std.specs.Prelude.{◌≡◌, ⊤, ℕ, ◌+◌, ◌%◌, ◌^◌, List, false, Option, None, Some, Result, Ok, Err, IfOk}
use Rattle.std.specs.String.{string_bytes}
use Rattle.serde_json.specs.Data.{Data}
use Rattle.typst_protocol.specs.Addresses.{is_same}
use Rattle.typst_protocol.specs.Parameters as parameters
use Rattle.typst_protocol.specs.declared.method.Method.{Method}
use Rattle.typst_protocol.specs.declared.refusal.Refusal.{Refusal}
use Rattle.typst_document.specs.Document.{Opened}
use Rattle.typst_server.specs.Documents.{found}
use Rattle.typst_server.specs.Results.{Answer}
use Rattle.typst_server.specs.Sent.{IsKept, IsSentOf, MayBeKept, sent_of}
use Rattle.typst_server.specs.Tokens.{AsksTokens, SameSent, previous}
use Rattle.typst_server.specs.Tracked.{Sent, named_last}
use Rattle.typst_server.specs.declared.server.Effect.{Effect}
use Rattle.typst_server.specs.declared.server.Effect.TheVariants.{Nothing, Moves, Sends}
use Rattle.typst_server.specs.declared.server.Made.{Made}
use Rattle.typst_server.specs.declared.server.Server.{Server}
use Rattle.typst_server.specs.declared.server.Standing.{Standing}
use Rattle.typst_server.specs.declared.tracked.Fresh.{Fresh}

-- the answer that it is
abbrev pub answer_of : Result Made Refusal → Answer
answer_of (Ok made) = Ok (string_bytes made.value)
answer_of (Err why) = Err why

-- a value has this effect
abbrev pub AnswersWith : Result Made Refusal → Effect → Type 0
AnswersWith result effect = IfOk result (λ made. made.effect ≡ effect)

-- where a session stands after an effect
abbrev pub standing_after : Effect → Standing → Standing
standing_after (Moves standing) now = standing
standing_after _ now = now

-- a value leads where its request leads; where that is refused there is none
abbrev pub IsLed : Result Standing Refusal → Standing → Result Made Refusal → Type 0
IsLed (Err refusal) now result = result ≡ Err refusal
IsLed (Ok standing) now result = IfOk result (λ made. standing_after made.effect now ≡ standing)

-- a value tells such tokens to a client that asked for them by the address
abbrev pub SendsOf : Option Sent → Opened → ℕ → List ℕ → List ℕ → Effect → Type 0
SendsOf last document number uri value (Sends named fresh) = (named.now ≡ uri) × IsSentOf last document number value fresh
SendsOf last document number uri value _ = ⊥

-- the tokens that are asked for are sent: those of the document that the parameters name, under the next number
pub record IsAskedFor (now : Server) (method : Option Method) (params : Option Data) (value uri : List ℕ) (fresh : Fresh) : Type 0 where
  pub asked : AsksTokens method
  pub named : parameters.uri params ≡ Some uri
  pub document : Opened
  pub known : found uri now.documents ≡ Some (Some document)
  pub sent : IsSentOf (named_last (previous method params) (sent_of uri now.documents)) document now.next_number value fresh

-- tokens are sent where they are asked for, and only there
abbrev pub SendsAsked : Server → Option Method → Option Data → List ℕ → Effect → Type 0
SendsAsked now method params value (Sends uri fresh) = IsAskedFor now method params value uri.now fresh
SendsAsked now method params value _ = AsksTokens method → ⊥

-- a value that is made sends tokens so
abbrev pub IsOfTokens : Server → Option Method → Option Data → Result Made Refusal → Type 0
IsOfTokens now method params result = IfOk result (λ made. SendsAsked now method params (string_bytes made.value) made.effect)

-- tokens that are sent are kept of their document, if it is known, and of no other one; else the same are kept
abbrev pub IsTaken : Effect → Server → Server → Type 0
IsTaken (Sends uri fresh) old new =
    (new.next_number ≡ (old.next_number + 1) % 2 ^ 64)
    × IsKept (found uri.now old.documents) (string_bytes fresh.name) (sent_of uri.now new.documents)
    × ((other : List ℕ) → is_same uri.now other ≡ false → sent_of other new.documents ≡ sent_of other old.documents)
IsTaken _ old new = SameSent old new

-- tokens may be taken as those that were sent last if they are those of their document, or nothing is known of it
abbrev pub MayBeTaken : Effect → Server → Type 0
MayBeTaken (Sends uri fresh) now = MayBeKept (found uri.now now.documents) fresh
MayBeTaken _ now = ⊤
