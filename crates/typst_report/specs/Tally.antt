-- How much was found in the files of a run, and the line that sums it up.
use Rattle.std.specs.Prelude.{ℕ, ◌+◌, ◌-◌, ◌==◌, List, [], ◌∷◌, ◌++◌, codes, if◌then◌else◌}
use Rattle.std.specs.Fmt.{decimal}
use Rattle.typst_tree.specs.Tree.{saturated}
use Rattle.typst_report.specs.declared.tally.Tally.{Tally}

-- a tally with one more file, of so many errors, and of so many errors and warnings together
abbrev pub with_file : Tally → ℕ → ℕ → Tally
with_file t errors findings =
    record t { files = saturated (t.files + 1); errors = saturated (t.errors + errors); warnings = saturated (t.warnings + (findings - errors)) }

-- the ending of a word for a number of things
abbrev pub plural : ℕ → List ℕ
plural n = if n == 1 then [] else codes "s"

-- a number and the word for what is counted, which ends in s unless the number is 1
abbrev pub counted : ℕ → List ℕ → List ℕ
counted n word = decimal n ++ (codes " " ++ (word ++ plural n))

-- the line that sums up what was found
abbrev pub summary : Tally → List ℕ
summary t =
    counted t.errors (codes "error") ++ (codes ", " ++ (counted t.warnings (codes "warning") ++ (codes " in " ++ (counted t.files (codes "file") ++ codes "\n"))))
