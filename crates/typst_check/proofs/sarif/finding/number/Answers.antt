use Rattle.std.proofs.Common.{◌≡◌, ℕ, List, Option, None, Some, MatchOption, Ok, refl, ap, sym, subst, ◌∙◌}
use Rattle.std.specs.Prelude.{ok_or, option_and_then}
use Rattle.std.specs.Str.Parse.{ParsesUnsigned, digits_value, without_leading_plus}
use Rattle.json.specs.Find.{as_number}
use Rattle.json.specs.Value.{value_view}
use Rattle.typst_check.proofs.sarif.finding.number.Goals as goal

-- the digits of a number that was read
digits_read : (o : Option (List ℕ)) (r : Option ℕ) (n : ℕ) → r ≡ Some n → MatchOption o (r ≡ None) (λ s. ParsesUnsigned 64 10 s (ok_or r s)) → (s : List ℕ) × ((o ≡ Some s) × (n ≡ digits_value 10 (without_leading_plus s)))
digits_read None r n is h = absurd (cc)
digits_read (Some s) r n is h =
    let read : ParsesUnsigned {E = List ℕ} 64 10 s (Ok n) = subst (λ q. ParsesUnsigned {E = List ℕ} 64 10 s (ok_or q s)) is h in
    (s, (refl, read.1))

pub returns-in-Some : goal.returns-in-Some
returns-in-Some c =
    let read = digits_read (as_number (value_view c.in_ok-member.field-0.now)) c.as_u64.result c.in-Some.number c.in-Some.is c.as_u64.ensures in
    record { digits = read.0; written = ap (option_and_then as_number) c.in_ok-member.ensures ∙ read.1.0; value = read.1.1 }
