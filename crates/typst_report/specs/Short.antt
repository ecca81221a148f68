-- Errors and warnings as lines to read.
use Rattle.std.specs.Prelude.{ℕ, List, [], ◌∷◌, ◌++◌, Bool, true, false, codes}
use Rattle.std.specs.Fmt.{decimal}
use Rattle.std.specs.Str.{chars}
use Rattle.typst_kinds.specs.declared.diagnostic.Severity.{Severity}
use Rattle.typst_kinds.specs.declared.diagnostic.Severity.TheVariants as severity
use Rattle.typst_kinds.specs.Diagnostic.{Hint}
use Rattle.typst_report.specs.declared.escape.Target.TheVariants as target
use Rattle.typst_report.specs.declared.place.LineColumn.{LineColumn}
use Rattle.typst_report.specs.declared.short.Paint.{Paint}
use Rattle.typst_report.specs.declared.short.Paint.TheVariants as paint
use Rattle.typst_report.specs.Escapes.{escaped}
use Rattle.typst_report.specs.Placed.{Placed}
use Rattle.typst_report.specs.Reported.{severity_word}

-- the paint of the word for how grave a finding is
abbrev pub paint_of : Severity → Paint
paint_of severity.Error = paint.Error
paint_of severity.Warning = paint.Warning

-- the code of terminals after its escape character: bold, and bold in red, yellow and cyan
abbrev pub code : Paint → List ℕ
code paint.Place = codes "[1m"
code paint.Error = codes "[1;31m"
code paint.Warning = codes "[1;33m"
code paint.Hint = codes "[1;36m"

-- what begins a paint, if there are colours
abbrev pub begin : Bool → Paint → List ℕ
begin true p = 27 ∷ code p
begin false p = []

-- what ends any paint, if there are colours
abbrev pub finish : Bool → List ℕ
finish true = 27 ∷ codes "[0m"
finish false = []

-- a file's name, a line and a column
abbrev pub place_part : Bool → List ℕ → LineColumn → List ℕ
place_part color name p =
    begin color paint.Place ++ (escaped target.Line (chars name) ++ (codes ":" ++ (decimal p.line ++ (codes ":" ++ (decimal p.column ++ (codes ":" ++ (finish color ++ codes " ")))))))

-- a word and a colon in a paint
abbrev pub word_part : Bool → Paint → List ℕ → List ℕ
word_part color p word = begin color p ++ (word ++ (codes ":" ++ (finish color ++ codes " ")))

-- a message on one line
abbrev pub message_part : List ℕ → List ℕ
message_part message = escaped target.Line (chars message) ++ codes "\n"

-- a line for each hint
abbrev pub hint_lines : Bool → List Hint → List ℕ
hint_lines color [] = []
hint_lines color (h ∷ hs) = codes "  " ++ (word_part color paint.Hint (codes "hint") ++ (message_part h.message ++ hint_lines color hs))

-- the line of an error or a warning, and those of its hints
abbrev pub short_line : Bool → List ℕ → Placed → List ℕ
short_line color name p =
    let d = p.reported.diagnostic in
    place_part color name p.start ++ (word_part color (paint_of d.severity) (severity_word d.severity) ++ (message_part d.message ++ hint_lines color d.hints))

-- the lines of all findings
abbrev pub short_lines : Bool → List ℕ → List Placed → List ℕ
short_lines color name [] = []
short_lines color name (p ∷ ps) = short_line color name p ++ short_lines color name ps
