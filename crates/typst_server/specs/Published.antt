-- What is published of documents: errors and warnings, as the protocol has them.
use Rattle.std.specs.Prelude.{◌≡◌, ⊤, ℕ, ℤ, ◌<◌, ◌≤◌, List, [], ◌∷◌, ◌++◌, codes, All, String, Option, None, Some, Result, Ok}
use Rattle.std.specs.List.{flat_map}
use Rattle.std.specs.String.{string_bytes}
use Rattle.std.specs.declared.alloc.Global.{Global}
use Rattle.std.specs.declared.ops.Range.{Range}
use Rattle.serde_json.specs.Data.{Data}
use Rattle.typst_features.specs.Problems.{Reported, node}
use Rattle.typst_features.specs.Shown as typing
use Rattle.typst_document.specs.Diagnostic.{Diagnostic, Hint}
use Rattle.typst_document.specs.Severity.{Severity}
use Rattle.typst_document.specs.Severity.TheVariants.{Error, Warning}
use Rattle.typst_protocol.specs.Bodies.{IsJsonOf, notification}
use Rattle.typst_protocol.specs.Parameters as parameters
use Rattle.typst_protocol.specs.Written.{WritesProblems, WritesReport}
use Rattle.typst_protocol.specs.declared.values.Problem.{Problem}
use Rattle.typst_protocol.specs.declared.values.Problems.{Problems}
use Rattle.typst_protocol.specs.declared.values.Report.{Report}
use Rattle.typst_document.specs.Document.{Opened}
use Rattle.typst_server.specs.Documents.{found}
use Rattle.typst_document.specs.Places.{IsPlaceOf}
use Rattle.typst_server.specs.declared.diagnostics.ShownErrors.{ShownErrors}
use Rattle.typst_server.specs.declared.diagnostics.ShownErrors.TheVariants as errors
use Rattle.typst_server.specs.declared.documents.Documents.{Documents}
use Rattle.typst_protocol.specs.declared.refusal.Refusal.{Refusal}
use Rattle.typst_server.specs.declared.reply.News.{News}
use Rattle.typst_server.specs.declared.reply.Reply.{Reply}
use Rattle.typst_server.specs.declared.reply.Reply.TheVariants as reply

-- the protocol's number of a severity
abbrev pub severity_number : Severity → ℕ
severity_number Error = 1
severity_number Warning = 2

-- a hint stands on a line of its own
abbrev pub hint_line : Hint → List ℕ
hint_line hint = codes "\nhint: " ++ hint.message

-- the message of a diagnostic, with its hints
abbrev pub full_message : Diagnostic → List ℕ
full_message diagnostic = diagnostic.message ++ flat_map hint_line diagnostic.hints

-- bytes at which a range is shown: itself, or some around it where it has none
pub record IsShownAt (range shown : Range ℕ) : Type 0 where
  pub own : range.start < range.end → shown ≡ range
  pub before : shown.start ≤ range.start
  pub behind : range.start ≤ shown.end

-- a problem of the protocol is this one of the tree, at its place in the text
pub record IsPublished (document : Opened) (reported : Reported) (problem : Problem) : Type 0 where
  pub bytes : Range ℕ
  pub shown : IsShownAt reported.range bytes
  pub start : IsPlaceOf document bytes.start problem.range.start
  pub end : IsPlaceOf document bytes.end problem.range.end
  pub severity : problem.severity ≡ severity_number reported.diagnostic.severity
  pub message : string_bytes problem.message ≡ full_message reported.diagnostic

-- there is one for each of the tree, in the same order
abbrev pub ArePublished : Opened → List Reported → List Problem → Type 0
ArePublished document [] [] = ⊤
ArePublished document (reported ∷ rest) (problem ∷ problems) = IsPublished document reported problem × ArePublished document rest problems
ArePublished document _ _ = ⊥

-- the errors and warnings of a document's present tree that are shown: all, or without the errors that only follow from a delimiter that
-- nothing closes
abbrev pub problems_of : ShownErrors → Opened → List Reported
problems_of errors.All document = node 0 document.source.root
problems_of errors.WithoutCascades document = typing.shown document.source.root

-- THE PROBLEMS OF A DOCUMENT: those of its present tree that are shown, under its address, with a version
pub record AreProblemsOf (which : ShownErrors) (document : Opened) (uri : List ℕ) (version : Option ℤ) (problems : Problems) : Type 0 where
  pub named : problems.uri.now ≡ uri
  pub versioned : problems.version ≡ version
  pub published : ArePublished document (problems_of which document) problems.diagnostics.items

-- a report is the JSON of the problems of a document that are shown, and is a full one
pub record Reports (which : ShownErrors) (document : Opened) (text : List ℕ) : Type 0 where
  pub report : Report
  pub full : report.kind.now ≡ codes "full"
  pub published : ArePublished document (problems_of which document) report.items.items
  pub written : IsJsonOf (WritesReport report) text

-- of a document that isn't open, or isn't known, there are none
pub record AreNone (uri : List ℕ) (problems : Problems) : Type 0 where
  pub named : problems.uri.now ≡ uri
  pub versioned : problems.version ≡ None
  pub none : problems.diagnostics.items ≡ []

-- a notification publishes problems: its parameters are their JSON
pub record IsNotice (problems : Problems) (text : List ℕ) : Type 0 where
  pub json : List ℕ
  pub written : IsJsonOf (WritesProblems problems) json
  pub told : text ≡ notification (codes "textDocument/publishDiagnostics") json

-- a text is a notification that publishes problems as they are wanted
pub record Publishes (wanted : Problems → Type 0) (text : List ℕ) : Type 0 where
  pub problems : Problems
  pub are : wanted problems
  pub notice : IsNotice problems text

-- a notification says that a document has no problems
abbrev pub Empties : List ℕ → Type 0
Empties text = (uri : List ℕ) × Publishes (AreNone uri) text

-- what is published of a document: its problems where it is known, and else none
abbrev pub IsNews : ShownErrors → Option (Option Opened) → List ℕ → Option ℤ → List ℕ → Type 0
IsNews which None uri version text = Publishes (AreNone uri) text
IsNews which (Some None) uri version text = Publishes (AreNone uri) text
IsNews which (Some (Some document)) uri version text = Publishes (AreProblemsOf which document uri version) text

-- each notification is such
abbrev pub AreNews : ShownErrors → Option (Option Opened) → List ℕ → Option ℤ → News → Type 0
AreNews which known uri version news = All (λ text. IsNews which known uri version (string_bytes text)) news.published.items

-- all speak of the document that the parameters name, as it is known now, at the version that they name
pub record SaysNews (which : ShownErrors) (params : Option Data) (documents : Documents) (news : News) : Type 0 where
  pub uri : List ℕ
  pub named : parameters.uri params ≡ Some uri
  pub are : AreNews which (found uri documents) uri (parameters.version params) news

-- all say that a document has no problems
abbrev pub EmptiesAll : News → Type 0
EmptiesAll news = All (λ text. Empties (string_bytes text)) news.published.items

-- a reply tells such notifications, or nothing
abbrev pub IsNewsReply : ShownErrors → Option (Option Opened) → List ℕ → Option ℤ → Reply → Type 0
IsNewsReply which known uri version (reply.News news) = AreNews which known uri version news
IsNewsReply which known uri version reply.Nothing = ⊤
IsNewsReply which known uri version _ = ⊥

-- a reply tells a notification that was made, or nothing
abbrev pub IsToldOf : Result (String Global) Refusal → Reply → Type 0
IsToldOf (Ok text) (reply.News news) = news.published.items ≡ text ∷ []
IsToldOf made reply.Nothing = ⊤
IsToldOf made _ = ⊥
