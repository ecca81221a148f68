-- Responses to requests.
use Rattle.typst_server.proofs.Cited.{◌≡◌, ℕ, List, Option, None, Some, Result, Ok, Err, IfOk, MatchResult, inl, inr, refl, ap, subst, sym, ◌∙◌, arith, string_bytes, failure, success, Data, Refusal, BadParameters, OutOfMemory, Opened, IsMissing, found, Responds, leads, Answer, Gives, IsAbout, IsOf, Looks, OfDocuments, Tells, said_of, ShownErrors, Documents, Running, Standing, Method, Initialize, Shutdown, WorkspaceSymbols, Diagnostics, Definition, References, Highlights, TokensRange, IsLed, standing_after, Made, ⊤, String}
use Rattle.std.specs.declared.alloc.Global.{Global}
use Rattle.typst_protocol.specs.Parameters as parameters

-- a request that is refused has the error that says why, if memory suffices
refused : (to : Result Standing Refusal) (now : Standing) (refusal : Refusal) (id text : List ℕ) → IsLed to now (Err refusal) → text ≡ failure id refusal → Responds to now now id text
refused (Ok standing) now refusal id text h is = inr ((refusal, is), refl)
refused (Err why) now refusal id text h is = let same : refusal ≡ why = cc h in (inl (is ∙ ap (λ r. failure id r) same), refl)

pub responds-refused : {E : Type 0} (result : Result (String Global) E) (to : Result Standing Refusal) (now : Standing) (refusal : Refusal) (id : List ℕ) → IsLed to now (Err refusal)
    → IfOk result (λ body. string_bytes body ≡ failure id refusal) → MatchResult result (λ text. Responds to now now id (string_bytes text)) (λ _. now ≡ now)
responds-refused result to now refusal id h is = grind (arith, refused)

-- one that is answered goes where it leads
pub responds_made : (to : Result Standing Refusal) (old new : Standing) (made : Made) (id text : List ℕ) → IsLed to old (Ok made) → new ≡ standing_after made.effect old → text ≡ success id (string_bytes made.value)
    → Responds to old new id text
responds_made to old new made id text h stands is = grind arith

-- any may tell that memory is refused, and leaves the server where it stands
pub responds-memory : (to : Result Standing Refusal) (old new : Standing) (id text : List ℕ) → new ≡ old → text ≡ failure id OutOfMemory → Responds to old new id text
responds-memory (Ok standing) old new id text same told = inr ((OutOfMemory, told), same)
responds-memory (Err why) old new id text same told = (inr told, same)

pub tells-memory : (given : Answer → Type 0) (id text : List ℕ) → text ≡ failure id OutOfMemory → Tells given id text
tells-memory given id text told = record { answer = Err OutOfMemory; told = told; meant = inr refl }

-- a document that isn't named, and one of which nothing is known
pub about_unnamed : (which : ShownErrors) (method : Method) (params : Option Data) (uri : Option (List ℕ)) (documents : Documents) (why : Refusal) → uri ≡ None → why ≡ BadParameters → IsOf which method params uri documents (Err why)
about_unnamed which method params uri documents why unnamed bad = subst (λ u. IsOf which method params u documents (Err why)) (sym unnamed) (ap (λ w. Err w) bad)

missing : (which : ShownErrors) (method : Method) (params : Option Data) (uri : List ℕ) (known : Option (Option Opened)) (why : Refusal) → IsMissing known why → IsAbout which method params uri known (Err why)
missing which method params uri known why h = grind arith

pub about_missing : (which : ShownErrors) (method : Method) (params : Option Data) (uri : Option (List ℕ)) (named : List ℕ) (documents : Documents) (why : Refusal) → uri ≡ Some named → IsMissing (found named documents) why
    → IsOf which method params uri documents (Err why)
about_missing which method params uri named documents why is h = subst (λ u. IsOf which method params u documents (Err why)) (sym is) (missing which method params named (found named documents) why h)

-- one that is known
pub about_known : (which : ShownErrors) (method : Method) (params : Option Data) (uri : Option (List ℕ)) (named : List ℕ) (documents : Documents) (document : Opened) (answer : Answer) → uri ≡ Some named
    → found named documents ≡ Some (Some document) → IfOk answer (Looks which method params named document) → IsOf which method params uri documents answer
about_known which method params uri named documents document answer is known h = grind arith

-- what is said of it
said_ok : (P : List ℕ → Type 0) (result : Result (String Global) Refusal) → IfOk result (λ text. P (string_bytes text)) → IfOk (said_of result) P
said_ok P result h = grind arith

pub looked : (which : ShownErrors) (method : Method) (params : Option Data) (uri : List ℕ) (document : Opened) (value : Result (String Global) Refusal) (answer : Answer) → answer ≡ said_of value
    → IfOk value (λ text. Looks which method params uri document (string_bytes text)) → IfOk answer (Looks which method params uri document)
looked which method params uri document value answer is h = subst (λ a. IfOk a (Looks which method params uri document)) (sym is) (said_ok (Looks which method params uri document) value h)

-- of tokens nothing more is stated there
pub looked_tokens : (answer : Answer) → IfOk answer (λ _. ⊤)
looked_tokens answer = grind arith

pub looked_rest : (which : ShownErrors) (method : Method) (params : Option Data) (uri : List ℕ) (document : Opened) (result : Result (String Global) Refusal) → (method ≡ Diagnostics → ⊥) → (method ≡ Definition → ⊥) → (method ≡ References → ⊥)
    → (method ≡ Highlights → ⊥) → (method ≡ TokensRange → ⊥) → IfOk result (λ text. Looks which method params uri document (string_bytes text))
looked_rest which method params uri document result d e r h t = grind arith

-- a request that neither begins a session nor ends it is about a document
pub gives_about : (which : ShownErrors) (method : Method) (params : Option Data) (documents : Documents) (answer : Answer) → (method ≡ Shutdown → ⊥) → (method ≡ WorkspaceSymbols → ⊥)
    → IsOf which method params (parameters.uri params) documents answer → Gives Running which (Some method) params documents answer
gives_about which method params documents answer goes_on of_one h = grind arith

-- what is looked for isn't named, and is
pub of_unnamed : (query : Option (List ℕ)) (why : Refusal) → query ≡ None → why ≡ BadParameters → OfDocuments query (Err why)
of_unnamed query why unnamed bad = subst (λ q. OfDocuments q (Err why)) (sym unnamed) (ap (λ w. Err w) bad)

pub of_named : (query : Option (List ℕ)) (named : List ℕ) (answer : Answer) → query ≡ Some named → OfDocuments query answer
of_named query named answer is = subst (λ q. OfDocuments q answer) (sym is) tt

-- a request that neither begins a session nor ends it leaves the server where it stands
pub goes_on : (method : Method) (params : Option Data) (now : Standing) (result : Result Made Refusal) → (method ≡ Initialize → ⊥) → (method ≡ Shutdown → ⊥)
    → IfOk result (λ made. standing_after made.effect now ≡ now) → IsLed (leads Running (Some method) params now) now result
goes_on method params now result begins ends h = grind arith
