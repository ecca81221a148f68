-- The words of the program.
use Rattle.std.specs.Prelude.{ℕ, List, codes, Option, None, Some, if◌then◌else◌}
use Rattle.std.specs.Str.{bytes_eq}
use Rattle.typst_workloads.specs.declared.work.Work.{Work}
use Rattle.typst_workloads.specs.declared.work.Work.TheVariants.{Lines, Parse, ParseCode, ParseMath, Html, Edit}

-- the work that a word names
abbrev pub work_named : List ℕ → Option Work
work_named word =
    if bytes_eq word (codes "lines") then Some Lines
    else (if bytes_eq word (codes "parse") then Some Parse
    else (if bytes_eq word (codes "parse-code") then Some ParseCode
    else (if bytes_eq word (codes "parse-math") then Some ParseMath
    else (if bytes_eq word (codes "html") then Some Html
    else (if bytes_eq word (codes "edit") then Some Edit
    else None)))))
