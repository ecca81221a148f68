-- Errors and warnings as workflow commands of GitHub.
use Rattle.std.specs.Prelude.{ℕ, List, [], ◌∷◌, ◌++◌, codes}
use Rattle.std.specs.Fmt.{decimal}
use Rattle.std.specs.Str.{chars}
use Rattle.typst_kinds.specs.Diagnostic.{Hint}
use Rattle.typst_report.specs.declared.escape.Target.TheVariants as target
use Rattle.typst_report.specs.declared.place.LineColumn.{LineColumn}
use Rattle.typst_report.specs.Escapes.{escaped}
use Rattle.typst_report.specs.Placed.{Placed}
use Rattle.typst_report.specs.Reported.{severity_word}

-- the command's name and the file
abbrev pub file_part : List ℕ → List ℕ → List ℕ
file_part word name = codes "::" ++ (word ++ (codes " file=" ++ escaped target.Property (chars name)))

-- the lines and columns between two places
abbrev pub range_part : LineColumn → LineColumn → List ℕ
range_part start end =
    codes ",line=" ++ (decimal start.line ++ (codes ",endLine=" ++ (decimal end.line ++ (codes ",col=" ++ (decimal start.column ++ (codes ",endColumn=" ++ (decimal end.column ++ codes "::")))))))

-- each hint, after a line feed
abbrev pub hint_parts : List Hint → List ℕ
hint_parts [] = []
hint_parts (h ∷ hs) = codes "%0Ahint: " ++ (escaped target.Message (chars h.message) ++ hint_parts hs)

-- the command of a finding, which is a line
abbrev pub command : List ℕ → Placed → List ℕ
command name p =
    let d = p.reported.diagnostic in
    file_part (severity_word d.severity) name ++ (range_part p.start p.end ++ (escaped target.Message (chars d.message) ++ (hint_parts d.hints ++ codes "\n")))

-- the commands of all findings
abbrev pub commands : List ℕ → List Placed → List ℕ
commands name [] = []
commands name (p ∷ ps) = command name p ++ commands name ps
