-- Documents that are closed or lost, and what is said of them.
use Rattle.typst_server.proofs.Cited.{◌≡◌, ℕ, List, [], ◌∷◌, ◌++◌, if◌then◌else◌, Bool, true, false, Option, None, Some, refl, sym, subst, arith, All-nil, All-push, string_bytes, Data, TakesEvent, IsUnknown, KeepsOthers, found, Loses, Empties, EmptiesAll, IsNewsReply, ShownErrors, Documents, News, Reply, Running, Standing, All, String, ℤ}
use Rattle.std.specs.declared.alloc.Global.{Global}
use Rattle.typst_protocol.specs.Parameters as parameters
use Rattle.typst_server.proofs.Publishing.{takes_news}

-- where nothing is published nothing has problems
pub empties_none : (news : News) → news.published.items ≡ [] → EmptiesAll news
empties_none news h = subst (All (λ text. Empties (string_bytes text))) (sym h) (All-nil (λ text. Empties (string_bytes text)))

-- what may have been meant to change a document loses it
pub loses_named : (meant : Option (List ℕ)) (uri : List ℕ) (old new : Documents) → meant ≡ Some uri → IsUnknown (found uri new) → KeepsOthers uri old new → Loses meant old new
loses_named meant uri old new is unknown others = subst (λ m. Loses m old new) (sym is) (unknown, others)

pub loses_nothing : (meant : Option (List ℕ)) (documents : Documents) → meant ≡ None → Loses meant documents documents
loses_nothing meant documents is = subst (λ m. Loses m documents documents) (sym is) (λ uri. refl)

-- one more text is added, or is refused
pub all_pushed : (P : String Global → Type 0) (text : String Global) (texts ys : List (String Global)) (ok : Bool) → ys ≡ (if ok then texts ++ text ∷ [] else texts) → All P texts → P text → All P ys
all_pushed P text texts ys true is h one = subst (All P) (sym is) (All-push P texts text h one)
all_pushed P text texts ys false is h one = subst (All P) (sym is) h

-- of a document that isn't open the same is reported at each version
closed_news : (which : ShownErrors) (uri : List ℕ) (version : Option ℤ) (answer : Reply) → IsNewsReply which None uri None answer → IsNewsReply which None uri version answer
closed_news which uri version answer h = grind arith

-- a document that is closed is reported as one that isn't open
pub takes_closed : (old new : Standing) (params : Option Data) (documents : Documents) (uri : List ℕ) (answer : Reply) → old.phase ≡ Running → new ≡ old → parameters.uri params ≡ Some uri → found uri documents ≡ None
    → IsNewsReply new.errors None uri None answer → TakesEvent old new params documents answer
takes_closed old new params documents uri answer phase same named closed h = grind (arith, takes_news, closed_news)
