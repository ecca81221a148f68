-- What values of the protocol write, as events.
use Rattle.std.specs.Prelude.{◌≡◌, ℕ, ℤ, List, codes, Option, None, Some, option_map}
use Rattle.std.specs.String.{string_bytes}
use Rattle.serde.specs.Event.{Log, Logs, Sends, Then, WritesSeq, field_key, key_begins, key_ends, map_begins, map_ends, signed, text, unsigned}
use Rattle.serde.specs.declared.name.Case.TheVariants.{AsIs}
use Rattle.typst_protocol.specs.declared.values.Place.{Place}
use Rattle.typst_protocol.specs.declared.values.Extent.{Extent}
use Rattle.typst_protocol.specs.declared.values.Problem.{Problem}
use Rattle.typst_protocol.specs.declared.values.Problems.{Problems}
use Rattle.typst_protocol.specs.declared.values.Report.{Report}
use Rattle.typst_protocol.specs.declared.values.Location.{Location}
use Rattle.typst_protocol.specs.declared.values.Highlight.{Highlight}
use Rattle.typst_protocol.specs.declared.values.TextEdit.{TextEdit}
use Rattle.typst_protocol.specs.declared.values.Changes.{Changes}
use Rattle.typst_protocol.specs.declared.values.WorkspaceEdit.{WorkspaceEdit}
use Rattle.typst_protocol.specs.declared.values.TokenChanges.{TokenChanges}
use Rattle.typst_protocol.specs.declared.values.TokenEdit.{TokenEdit}
use Rattle.typst_protocol.specs.declared.values.Tokens.{Tokens}

-- an object has so many members, one after the other
abbrev pub InMap : ℕ → (Log → Log → Type 0) → Log → Log → Type 0
InMap n inside old new = (first last : Log) × Logs old first (map_begins (Some n)) × inside first last × Logs last new map_ends

-- a member has a name, and then a value
abbrev pub Member : List ℕ → (Log → Log → Type 0) → Log → Log → Type 0
Member name value = Then (Sends (field_key name AsIs)) value

-- a place is a line and a column
abbrev pub WritesPlace : Place → Log → Log → Type 0
WritesPlace p = InMap 2 (Then (Member (codes "line") (Sends (unsigned p.line))) (Member (codes "character") (Sends (unsigned p.character))))

-- an extent is two places
abbrev pub WritesExtent : Extent → Log → Log → Type 0
WritesExtent e = InMap 2 (Then (Member (codes "start") (WritesPlace e.start)) (Member (codes "end") (WritesPlace e.end)))

-- an error or a warning is an extent, a severity, a source and a message
abbrev pub WritesProblem : Problem → Log → Log → Type 0
WritesProblem p =
    InMap 4 (
    Then (Member (codes "range") (WritesExtent p.range)) (Then (Member (codes "severity") (Sends (unsigned p.severity))) (Then (Member (codes "source") (Sends (text p.source.now))) (Member (codes "message") (Sends (text (string_bytes p.message))))))
    )

-- a version is a member, if there is one
abbrev pub WritesVersion : Option ℤ → Log → Log → Type 0
WritesVersion None old new = new ≡ old
WritesVersion (Some version) old new = Member (codes "version") (Sends (signed version)) old new

-- an object whose members aren't counted before
abbrev pub InObject : (Log → Log → Type 0) → Log → Log → Type 0
InObject inside old new = (first last : Log) × Logs old first (map_begins None) × inside first last × Logs last new map_ends

-- the errors and warnings of a document are its address, its version and a list
abbrev pub WritesProblems : Problems → Log → Log → Type 0
WritesProblems p = InObject (Then (Member (codes "uri") (Sends (text p.uri.now))) (Then (WritesVersion p.version) (Member (codes "diagnostics") (WritesSeq WritesProblem p.diagnostics.items))))

-- a report is its kind and a list
abbrev pub WritesReport : Report → Log → Log → Type 0
WritesReport r = InMap 2 (Then (Member (codes "kind") (Sends (text r.kind.now))) (Member (codes "items") (WritesSeq WritesProblem r.items.items)))

-- a location is the address of a document, and an extent of it
abbrev pub WritesLocation : Location → Log → Log → Type 0
WritesLocation l = InMap 2 (Then (Member (codes "uri") (Sends (text l.uri.now))) (Member (codes "range") (WritesExtent l.range)))

-- a highlight is an extent
abbrev pub WritesHighlight : Highlight → Log → Log → Type 0
WritesHighlight h = InMap 1 (Member (codes "range") (WritesExtent h.range))

-- an edit is an extent, and the text that takes its place
abbrev pub WritesTextEdit : TextEdit → Log → Log → Type 0
WritesTextEdit e = InMap 2 (Then (Member (codes "range") (WritesExtent e.range)) (Member (codes "newText") (Sends (text e.new_text.now))))

-- the edits of a document stand under its address
abbrev pub WritesChanges : Changes → Log → Log → Type 0
WritesChanges c = InMap 1 (Then (Sends key_begins) (Then (Sends (text c.uri.now)) (Then (Sends key_ends) (WritesSeq WritesTextEdit c.edits.items))))

-- the edits of documents are one member
abbrev pub WritesWorkspaceEdit : WorkspaceEdit → Log → Log → Type 0
WritesWorkspaceEdit e = InMap 1 (Member (codes "changes") (WritesChanges e.changes))

-- numbers are a list
abbrev pub WritesNumbers : List ℕ → Log → Log → Type 0
WritesNumbers numbers = WritesSeq (λ n. Sends (unsigned n)) numbers

-- the name under which tokens are sent is a member, if there is one
abbrev pub WritesResultId : Option (List ℕ) → Log → Log → Type 0
WritesResultId None old new = new ≡ old
WritesResultId (Some name) old new = Member (codes "resultId") (Sends (text name)) old new

-- tokens are their name, if they have one, and their numbers
abbrev pub WritesTokens : Tokens → Log → Log → Type 0
WritesTokens t = InObject (Then (WritesResultId (option_map (λ id. id.now) t.result_id)) (Member (codes "data") (WritesNumbers t.data.now)))

-- an edit of numbers is where it begins, how many it removes, and what takes their place
abbrev pub WritesTokenEdit : TokenEdit → Log → Log → Type 0
WritesTokenEdit e =
    InMap 3 (Then (Member (codes "start") (Sends (unsigned e.start))) (Then (Member (codes "deleteCount") (Sends (unsigned e.delete_count))) (Member (codes "data") (WritesNumbers e.data.now))))

-- changes of tokens are their new name, and edits of their numbers
abbrev pub WritesTokenChanges : TokenChanges → Log → Log → Type 0
WritesTokenChanges c = InMap 2 (Then (Member (codes "resultId") (Sends (text c.result_id.now))) (Member (codes "edits") (WritesSeq WritesTokenEdit c.edits.items)))
