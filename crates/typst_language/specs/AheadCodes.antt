-- How a log is stored.
use Rattle.std.specs.Prelude.{ℕ, List, Option, refl}
use Rattle.std.specs.Coded.{Coded, code_by, coded×, coded_ℕ, coded_list, coded_option}
use Rattle.typst_language.specs.declared.calls.Note.{Note}
use Rattle.typst_language.specs.contracts.calls.Note.{the_row as note_row}
use Rattle.typst_language.specs.Log.{Log}

-- how a log is stored in ghost fields
abbrev pub log_code : Coded Log
log_code =
    code_by (ℕ × (ℕ × Option (List Note))) (coded× coded_ℕ (coded× coded_ℕ (coded_option (coded_list note_row.coded))))
    (λ l. (l.reach, (l.least, l.notes))) (λ p. record { reach = p.0; least = p.1.0; notes = p.1.1 }) (λ _. refl)
