-- What the words after the program's name ask for.
use Rattle.std.specs.Prelude.{ℕ, List, ◌||◌, codes, Option, Some, None, if◌then◌else◌}
use Rattle.std.specs.Str.{bytes_eq}
use Rattle.typst_lsp.specs.declared.request.Request.{Request}
use Rattle.typst_lsp.specs.declared.request.Request.TheVariants.{Serve, Version, Help}
use Rattle.typst_server.specs.declared.diagnostics.ShownErrors.{ShownErrors}
use Rattle.typst_server.specs.declared.diagnostics.ShownErrors.TheVariants.{All, WithoutCascades}

-- a session that shows all errors, or one as before
abbrev pub shown_by : ShownErrors → List ℕ → Option Request
shown_by before word =
    if bytes_eq word (codes "--stdio") then Some (Serve before) else
    if bytes_eq word (codes "--all-errors") then Some (Serve All) else None

-- what a further word makes of what those before it ask for: only a session has several words
abbrev pub further : Request → List ℕ → Option Request
further (Serve before) word = shown_by before word
further Version word = None
further Help word = None

-- a session, the version or the help, if anything
abbrev pub request_named : List ℕ → Option Request
request_named word =
    if bytes_eq word (codes "--version") || bytes_eq word (codes "-V") then Some Version else
    if bytes_eq word (codes "--help") || bytes_eq word (codes "-h") then Some Help else shown_by WithoutCascades word
