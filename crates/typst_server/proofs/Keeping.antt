-- What changes with an answer, and which tokens are kept.
use Rattle.typst_server.proofs.Cited.{◌≡◌, ℕ, List, Option, Some, Result, Ok, IfOk, inl, refl, arith, string_bytes, Data, failure, success, Refusal, Opened, found, sent_of, Server, Standing, Sent, named_last, Method, TokensDelta, TokensFull, AnswersWith, IsOfTokens, IsTaken, IsLed, SendsAsked, SendsOf, standing_after, AsksTokens, DropsSent, KeepsTokens, SameSent, previous, Made}
use Rattle.typst_protocol.specs.Parameters as parameters
use Rattle.typst_server.specs.declared.server.Effect.{Effect}
use Rattle.typst_server.specs.declared.server.Effect.TheVariants.{Nothing, Moves}

-- where nothing changes the same tokens are kept
pub drops_none : (server : Server) → DropsSent server server
drops_none server = (refl, λ uri. inl refl)

pub same_sent : (server : Server) → SameSent server server
same_sent server = (refl, λ uri. refl)

pub keeps_refused : (old new : Server) (method : Option Method) (params : Option Data) (id text : List ℕ) (why : Refusal) → SameSent old new → text ≡ failure id why → KeepsTokens old new method params id text
keeps_refused old new method params id text why same is = inl (same, λ asks. (why, is))

-- an effect leads there
pub moves : (standing now : Standing) (result : Result Made Refusal) → AnswersWith result (Moves standing) → IsLed (Ok standing) now result
moves standing now result h = grind arith

pub stays : (now : Standing) (result : Result Made Refusal) → AnswersWith result Nothing → IsLed (Ok now) now result
stays now result h = grind arith

pub of_moves : (now : Server) (method : Method) (params : Option Data) (standing : Standing) (result : Result Made Refusal) → (method ≡ TokensFull → ⊥) → (method ≡ TokensDelta → ⊥) → AnswersWith result (Moves standing)
    → IsOfTokens now (Some method) params result
of_moves now method params standing result full delta h = grind arith

pub of_nothing : (now : Server) (method : Method) (params : Option Data) (result : Result Made Refusal) → (method ≡ TokensFull → ⊥) → (method ≡ TokensDelta → ⊥) → AnswersWith result Nothing → IsOfTokens now (Some method) params result
of_nothing now method params result full delta h = grind arith

pub sent_stays : (last : Option Sent) (document : Opened) (number : ℕ) (uri : List ℕ) (result : Result Made Refusal) (now : Standing) → IfOk result (λ made. SendsOf last document number uri (string_bytes made.value) made.effect)
    → IfOk result (λ made. standing_after made.effect now ≡ now)
sent_stays last document number uri result now h = grind arith

pub of_sent : (now : Server) (method : Option Method) (params : Option Data) (last : Option Sent) (name : Option (List ℕ)) (document : Opened) (uri : List ℕ) (result : Result Made Refusal) → AsksTokens method → previous method params ≡ name
    → parameters.uri params ≡ Some uri → found uri now.documents ≡ Some (Some document) → sent_of uri now.documents ≡ last
    → IfOk result (λ made. SendsOf (named_last name last) document now.next_number uri (string_bytes made.value) made.effect) → IsOfTokens now method params result
of_sent now method params last name document uri result asks by named known was h = grind arith

pub keeps_made : (old new : Server) (method : Option Method) (params : Option Data) (effect : Effect) (id text value : List ℕ) → SendsAsked old method params value effect → IsTaken effect old new → text ≡ success id value
    → KeepsTokens old new method params id text
keeps_made old new method params effect id text value asked taken is = grind arith
