-- The names of what clients ask and tell.
use Rattle.std.specs.Prelude.{ℕ, List, [], ◌∷◌, codes, Option, None, Some, if◌then◌else◌}
use Rattle.std.specs.Str.{bytes_eq}
use Rattle.typst_protocol.specs.declared.method.Method.{Method}
use Rattle.typst_protocol.specs.declared.method.Method.TheVariants.{Initialize, Shutdown, TokensFull, TokensDelta, TokensRange, Symbols, Foldings, Selections, Definition, References, Highlights, Rename, PrepareRename, Hover, Completion, DocumentLinks, CodeActions, Diagnostics, OnTypeFormatting, WorkspaceSymbols}
use Rattle.typst_protocol.specs.declared.method.Event.{Event}
use Rattle.typst_protocol.specs.declared.method.Event.TheVariants.{Opened, Changed, Closed, Exit}

-- what the first row with a name has beside it
abbrev pub named : {X : Type 0} → List (List ℕ × X) → List ℕ → Option X
named [] name = None
named (row ∷ rows) name = if bytes_eq name row.0 then Some row.1 else named rows name

-- what a request asks, by its name
abbrev pub methods : List (List ℕ × Method)
methods =
    (codes "initialize", Initialize)
    ∷ (codes "shutdown", Shutdown)
    ∷ (codes "textDocument/semanticTokens/full", TokensFull)
    ∷ (codes "textDocument/semanticTokens/full/delta", TokensDelta)
    ∷ (codes "textDocument/semanticTokens/range", TokensRange)
    ∷ (codes "textDocument/documentSymbol", Symbols)
    ∷ (codes "textDocument/foldingRange", Foldings)
    ∷ (codes "textDocument/selectionRange", Selections)
    ∷ (codes "textDocument/definition", Definition)
    ∷ (codes "textDocument/references", References)
    ∷ (codes "textDocument/documentHighlight", Highlights)
    ∷ (codes "textDocument/rename", Rename)
    ∷ (codes "textDocument/prepareRename", PrepareRename)
    ∷ (codes "textDocument/hover", Hover)
    ∷ (codes "textDocument/completion", Completion)
    ∷ (codes "textDocument/documentLink", DocumentLinks)
    ∷ (codes "textDocument/codeAction", CodeActions)
    ∷ (codes "textDocument/diagnostic", Diagnostics)
    ∷ (codes "textDocument/onTypeFormatting", OnTypeFormatting)
    ∷ (codes "workspace/symbol", WorkspaceSymbols)
    ∷ []

-- what a notification tells, by its name
abbrev pub events : List (List ℕ × Event)
events =
    (codes "textDocument/didOpen", Opened)
    ∷ (codes "textDocument/didChange", Changed)
    ∷ (codes "textDocument/didClose", Closed)
    ∷ (codes "exit", Exit)
    ∷ []
