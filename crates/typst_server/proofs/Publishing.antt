-- Problems that are published one by one, and what is said of a document.
use Rattle.typst_server.proofs.Cited.{◌≡◌, ℕ, ◌+◌, ◌<◌, List, [], ◌∷◌, ◌++◌, length, take, get_or, Option, Some, Result, Ok, Err, IfOk, MatchResult, codes, sym, subst, arith, map_more, All-weaker, string_bytes, Data, IsJsonOf, Opened, TakesEvent, found, AreNone, ArePublished, Empties, EmptiesAll, IsNews, IsNewsReply, IsNotice, IsPublished, IsToldOf, Publishes, Reports, problems_of, Refusal, OutOfMemory, ShownErrors, Documents, News, Reply, Running, Standing, Reported, reported, WritesReport, All, String, map, ℤ}
use Rattle.std.specs.declared.alloc.Global.{Global}
use Rattle.typst_features.specs.declared.report.Problem as features
use Rattle.typst_protocol.specs.Parameters as parameters
use Rattle.typst_protocol.specs.declared.values.Problem.{Problem}
use Rattle.typst_protocol.specs.declared.values.Problems.{Problems}
use Rattle.typst_protocol.specs.declared.values.Report.{Report}

-- one more is published
one-more : (document : Opened) (rs : List Reported) (ps : List Problem) (r : Reported) (p : Problem) → ArePublished document rs ps → IsPublished document r p → ArePublished document (rs ++ r ∷ []) (ps ++ p ∷ [])
one-more document [] [] r p h one = (one, tt)
one-more document [] (q ∷ qs) r p h one = absurd h
one-more document (s ∷ rs) [] r p h one = absurd h
one-more document (s ∷ rs) (q ∷ qs) r p h one = (h.0, one-more document rs qs r p h.1 one)

pub published-more : (document : Opened) (found : List features.Problem) (ps : List Problem) (i : ℕ) (d : features.Problem) (p : Problem) → i < length found → ArePublished document (map reported (take i found)) ps
    → IsPublished document (reported (get_or found i d)) p → ArePublished document (map reported (take (i + 1) found)) (ps ++ p ∷ [])
published-more document found ps i d p within h one =
    subst (λ rs. ArePublished document rs (ps ++ p ∷ [])) (sym (map_more reported found i d within)) (one-more document (map reported (take i found)) ps (reported (get_or found i d)) p h one)

-- what is reported of the document that parameters name
pub takes_news : (old new : Standing) (params : Option Data) (documents : Documents) (uri : List ℕ) (answer : Reply) → old.phase ≡ Running → new ≡ old → parameters.uri params ≡ Some uri
    → IsNewsReply new.errors (found uri documents) uri (parameters.version params) answer → TakesEvent old new params documents answer
takes_news old new params documents uri answer phase same named h = grind arith

-- one notification that was made is sent
pub told_news : (which : ShownErrors) (known : Option (Option Opened)) (uri : List ℕ) (version : Option ℤ) (made : Result (String Global) Refusal) (answer : Reply)
    → IfOk made (λ text. IsNews which known uri version (string_bytes text)) → IsToldOf made answer → IsNewsReply which known uri version answer
told_news which known uri version made answer h told = grind arith

pub empties : (uri : List ℕ) (news : News) → All (λ text. Publishes (AreNone uri) (string_bytes text)) news.published.items → EmptiesAll news
empties uri news h = All-weaker (λ text. Publishes (AreNone uri) (string_bytes text)) (λ text. Empties (string_bytes text)) (λ text one. (uri, one)) news.published.items h

-- a notification of such problems publishes them
pub notices : {E : Type 0} (wanted : Problems → Type 0) (problems : Problems) (result : Result (String Global) E) → wanted problems → IfOk result (λ text. IsNotice problems (string_bytes text))
    → IfOk result (λ text. Publishes wanted (string_bytes text))
notices wanted problems (Ok text) are told = record { problems = problems; are = are; notice = told }
notices wanted problems (Err e) are told = tt

-- a full report of the problems of a document reports them
pub reports : (which : ShownErrors) (document : Opened) (report : Report) (result : Result (String Global) Refusal) → report.kind.now ≡ codes "full" → ArePublished document (problems_of which document) report.items.items
    → MatchResult result (λ text. IsJsonOf (WritesReport report) (string_bytes text)) (λ why. why ≡ OutOfMemory) → IfOk result (λ text. Reports which document (string_bytes text))
reports which document report (Ok text) full published written = record { report = report; full = full; published = published; written = written }
reports which document report (Err why) full published written = tt
