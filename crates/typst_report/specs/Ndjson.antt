-- Errors and warnings as JSON, an object a line.
use Rattle.std.specs.Prelude.{ℕ, List, [], ◌∷◌, ◌++◌, codes}
use Rattle.std.specs.Fmt.{decimal}
use Rattle.json.specs.Print.{print}
use Rattle.json.specs.Token.{Token, begin_object, end_object, begin_array, end_array, key, string, number}
use Rattle.typst_kinds.specs.Diagnostic.{Diagnostic, Hint}
use Rattle.typst_report.specs.declared.place.LineColumn.{LineColumn}
use Rattle.typst_report.specs.Placed.{Placed}
use Rattle.typst_report.specs.Reported.{severity_word}

-- tokens as a line
abbrev pub line : List Token → List ℕ
line ts = print ts ++ codes "\n"

-- a text under its name
abbrev pub text_member : List ℕ → List ℕ → List Token
text_member name text = key name ∷ string text ∷ []

-- a number under its name
abbrev pub count_member : List ℕ → ℕ → List Token
count_member name n = key name ∷ number (decimal n) ∷ []

-- the messages of hints
abbrev pub messages : List Hint → List Token
messages [] = []
messages (h ∷ hs) = string h.message ∷ messages hs

-- the array of the messages of hints
abbrev pub hints_member : List Hint → List Token
hints_member hs = key (codes "hints") ∷ begin_array ∷ (messages hs ++ end_array ∷ [])

-- the numbers of a place
abbrev pub numbers : LineColumn → List Token
numbers p =
    count_member (codes "byte") p.byte ++ (count_member (codes "line") p.line ++ (count_member (codes "column") p.column ++ count_member (codes "utf16_column") p.utf16_column))

-- a place as an object under its name
abbrev pub place_member : List ℕ → LineColumn → List Token
place_member name p = key name ∷ begin_object ∷ (numbers p ++ end_object ∷ [])

-- the places where an error or a warning begins and ends
abbrev pub places_members : LineColumn → LineColumn → List Token
places_members start end = place_member (codes "start") start ++ place_member (codes "end") end

-- the members of what an error or a warning in a file of that name says
abbrev pub reported_members : List ℕ → Diagnostic → List Token
reported_members name d =
    text_member (codes "file") name ++ (text_member (codes "severity") (severity_word d.severity) ++ (text_member (codes "message") d.message ++ hints_member d.hints))

-- an error or a warning in a file of that name, with its places, as an object
abbrev pub finding : List ℕ → Placed → List Token
finding name p = begin_object ∷ (reported_members name p.reported.diagnostic ++ (places_members p.start p.end ++ end_object ∷ []))

-- the lines of all findings
abbrev pub lines : List ℕ → List Placed → List ℕ
lines name [] = []
lines name (p ∷ ps) = line (finding name p) ++ lines name ps
