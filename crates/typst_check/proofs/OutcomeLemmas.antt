-- What follows where an outcome is known.
use Rattle.std.proofs.Common.{◌≡◌, ℕ, List, Bool, Option, None, Some, Result, Ok, Err}
use Rattle.std.specs.Prelude.{IfSome, OnOk}
use Rattle.typst_report.specs.declared.form.Options.{Options}
use Rattle.typst_report.specs.Checked.{IsChecked}
use Rattle.typst_report.specs.Reported.{fails}

-- a text that was checked fails as its status says
pub fails_so : (o : Options) (name : List ℕ) (failing : Bool) (old new input : Option (List ℕ)) → IfSome input (λ text. IsChecked o name text failing old new) → IfSome input (λ text. failing ≡ fails o.denies_warnings text)
fails_so o name failing old new None h = tt
fails_so o name failing old new (Some text) h = h.fails

pub on_ok : {A E : Type 0} (r : Result A E) (P Q : Type 0) → (P → Q) → OnOk r P → OnOk r Q
on_ok (Ok x) P Q f h = f h
on_ok (Err e) P Q f h = tt
