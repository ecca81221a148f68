-- From what is known of an answer to what is promised of a run.
use Rattle.std.proofs.Common.{◌≡◌, List, ℕ, Option, None, Some, Result, Ok, Err, IsUtf8, subst, refl}
use Rattle.std.specs.Prelude.{IfErr, IfSome, IsErrAnd, String}
use Rattle.typst_parser.specs.SourceError.{SourceError}
use Rattle.typst_parser.specs.SourceError.TheVariants as source_error
use Rattle.std.proofs.lemmas.Str.{IsUtf8-string_bytes}
use Rattle.std.specs.String.{string_bytes}
use Rattle.std.specs.Io.KnownBytes.{Appends}
use Rattle.typst_cli.specs.Asked.{Asked}
use Rattle.typst_cli.specs.Faults.{IsAnswerFault, TellsOf, Tells, Gives, IsAnswered, failure_from}
use Rattle.typst_cli.specs.PrintedEdit.{Prints}
use Rattle.typst_cli.specs.declared.failure.Failure.{Failure}
use Rattle.typst_cli.specs.declared.failure.Failure.TheVariants.{Usage, NotRead, NotUtf8, BadRange, OutOfSpanNumbers, OutOfMemory, NotWritten}

tells-asked : (f : Failure) (a : Asked) (text : List ℕ) (input : Option (List ℕ)) → IsUtf8 text → IfSome input (λ bytes. text ≡ bytes) → IsAnswerFault f a text → TellsOf f a input
tells-asked Usage a text input u e h = absurd h
tells-asked NotRead a text input u e h = tt
tells-asked NotUtf8 a text input u e h = absurd h
tells-asked BadRange a text None u e h = tt
tells-asked BadRange a text (Some bytes) u e h = subst (λ t. IsUtf8 t × IsAnswerFault BadRange a t) e (u, h)
tells-asked OutOfSpanNumbers a text None u e h = tt
tells-asked OutOfSpanNumbers a text (Some bytes) u e h = subst (λ t. IsUtf8 t × IsAnswerFault OutOfSpanNumbers a t) e (u, h)
tells-asked OutOfMemory a text input u e h = tt
tells-asked NotWritten a text input u e h = tt

pub tells_of : {Z : Type 0} (text : String Z) (f : Failure) (a : Asked) (asked : Option Asked) (input : Option (List ℕ)) → Some a ≡ asked → IfSome input (λ bytes. string_bytes text ≡ bytes)
    → IsAnswerFault f a (string_bytes text) → Tells f asked input
tells_of text f a asked input is e h = subst (λ o. Tells f o input) is (tells-asked f a (string_bytes text) input (IsUtf8-string_bytes text) e h)

gives-asked : (a : Asked) (text answer : List ℕ) (input old new : Option (List ℕ)) → IsUtf8 text → IfSome input (λ bytes. text ≡ bytes) → Prints a text answer → Appends old new answer
    → IsAnswered (Some a) input old new
gives-asked a text answer None old new u e p w = tt
gives-asked a text answer (Some bytes) old new u e p w = subst (λ t. IsUtf8 t × Gives a t old new) e (u, (answer, p, w))

pub answered_by : (a : Asked) (asked : Option Asked) (text answer : List ℕ) (input old new : Option (List ℕ)) → Some a ≡ asked → IsUtf8 text → IfSome input (λ bytes. text ≡ bytes)
    → Prints a text answer → Appends old new answer → IsAnswered asked input old new
answered_by a asked text answer input old new is u e p w = subst (λ o. IsAnswered o input old new) is (gives-asked a text answer input old new u e p w)

-- why an edit is refused is said: memory or numbers are lacking
pub edit-refused : {X : Type 0} (r : Result X Failure) (e : SourceError) (a : Asked) (text : List ℕ) → IsErrAnd r (λ fault. fault ≡ failure_from e)
    → (e ≡ source_error.SpanNumbers → IsAnswerFault OutOfSpanNumbers a text) → IfErr r (λ fault. IsAnswerFault fault a text)
edit-refused (Ok x) e a text h lacks = tt
edit-refused (Err fault) source_error.OutOfMemory a text h lacks = rw h tt
edit-refused (Err fault) source_error.SpanNumbers a text h lacks = rw h (lacks refl)
