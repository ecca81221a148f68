-- Where a session stands, and what may be asked there.
use Rattle.std.specs.Prelude.{◌≡◌, ◌⊎◌, ℕ, List, Option, None, Some, Result, Ok, Err}
use Rattle.serde_json.specs.Data.{Data}
use Rattle.typst_protocol.specs.Bodies.{failure, success}
use Rattle.typst_protocol.specs.Parameters as parameters
use Rattle.typst_protocol.specs.declared.method.Method.{Method}
use Rattle.typst_protocol.specs.declared.method.Method.TheVariants.{Initialize, Shutdown}
use Rattle.typst_protocol.specs.declared.refusal.Refusal.{Refusal}
use Rattle.typst_protocol.specs.declared.refusal.Refusal.TheVariants.{OutOfPlace, UnknownMethod, OutOfMemory, NotInitialized}
use Rattle.typst_server.specs.declared.diagnostics.ShownErrors.{ShownErrors}
use Rattle.typst_server.specs.declared.requests.FoldingStyle.{FoldingStyle}
use Rattle.typst_server.specs.declared.server.Phase.{Phase}
use Rattle.typst_server.specs.declared.server.Phase.TheVariants.{Fresh, Running, ShutDown}
use Rattle.typst_server.specs.declared.server.Standing.{Standing}

-- how a client folds, as the parameters of `initialize` say
abbrev pub folding : Option Data → FoldingStyle
folding params = record { lines_only = parameters.folds_lines params; limit = parameters.range_limit params }

-- a session begins as the parameters of `initialize` ask for: columns are counted in the first encoding that they offer, in UTF-16 where
-- they offer none
abbrev pub begun : ShownErrors → Option Data → Standing
begun which params =
    record {
      phase = Running;
      encoding = parameters.encoding params;
      takes_trees = parameters.takes_trees params;
      folding = folding params;
      pulls = parameters.asks_diagnostics params;
      errors = which;
    }

-- a session is shut down, and nothing else of it changes
abbrev pub shut : Standing → Standing
shut now = record now { phase = ShutDown }

-- where a request leads from a phase, or why it is refused
abbrev pub leads : Phase → Option Method → Option Data → Standing → Result Standing Refusal
leads Fresh (Some Initialize) params now = Ok (begun now.errors params)
leads Fresh _ params now = Err NotInitialized
leads Running None params now = Err UnknownMethod
leads Running (Some Initialize) params now = Err OutOfPlace
leads Running (Some Shutdown) params now = Ok (shut now)
leads Running (Some _) params now = Ok now
leads ShutDown _ params now = Err OutOfPlace

-- `initialize` comes first and once, and nothing is asked after `shutdown`; all other requests leave the server where it stands
abbrev pub allowed : Standing → Option Method → Option Data → Result Standing Refusal
allowed now method params = leads now.phase method params now

-- the status to end with: 0 after `shutdown`, else 1
abbrev pub status_of : Phase → ℕ
status_of Fresh = 1
status_of Running = 1
status_of ShutDown = 0

-- a response with a result, which is its request's
abbrev pub IsSuccess : List ℕ → List ℕ → Type 0
IsSuccess id text = (value : List ℕ) × (text ≡ success id value)

-- a response with an error, which is its request's
abbrev pub IsFailure : List ℕ → List ℕ → Type 0
IsFailure id text = (refusal : Refusal) × (text ≡ failure id refusal)

-- the response to a request, by where that leads: a result goes there, and an error stays. Where it leads nowhere it has the error that says
-- why, or that memory was refused
abbrev pub Responds : Result Standing Refusal → Standing → Standing → List ℕ → List ℕ → Type 0
Responds (Err refusal) old new id text = ((text ≡ failure id refusal) ⊎ (text ≡ failure id OutOfMemory)) × (new ≡ old)
Responds (Ok standing) old new id text = (IsSuccess id text × (new ≡ standing)) ⊎ (IsFailure id text × (new ≡ old))
