-- Refusals and their codes.
use Rattle.typst_c.proofs.Cited.{◌≡◌, ◌==◌, ℕ, ◌<◌, List, refl, ap, sym, ◌∙◌, arith, if◌then◌else◌, code_of, RefusesBytes, RefusesText}
use Rattle.typst_c.specs.declared.refusal.Refusal.{Refusal}
use Rattle.typst_c.specs.declared.refusal.Refusal.TheVariants as refusal

-- bytes that aren't read make no source
pub of_bytes : (file : ℕ) (text : List ℕ) (e : Refusal) → RefusesBytes text e → RefusesText file text e
of_bytes file text refusal.NoMemory h = tt
of_bytes file text refusal.NotUtf8 h = h
of_bytes file text refusal.BadRange h = h
of_bytes file text refusal.BadArgument h = absurd h
of_bytes file text refusal.SpanNumbers h = absurd h
of_bytes file text refusal.TooLarge h = h

pub refused : (e : Refusal) → 0 < code_of e
refused refusal.NoMemory = omega arith
refused refusal.NotUtf8 = omega arith
refused refusal.BadRange = omega arith
refused refusal.BadArgument = omega arith
refused refusal.SpanNumbers = omega arith
refused refusal.TooLarge = omega arith

abbrev meant : ℕ → Refusal
meant n =
    if n == 1 then refusal.NoMemory else
    if n == 2 then refusal.NotUtf8 else
    if n == 3 then refusal.BadRange else
    if n == 4 then refusal.BadArgument else
    if n == 5 then refusal.SpanNumbers else refusal.TooLarge

meant_is : (e : Refusal) → meant (code_of e) ≡ e
meant_is refusal.NoMemory = refl
meant_is refusal.NotUtf8 = refl
meant_is refusal.BadRange = refl
meant_is refusal.BadArgument = refl
meant_is refusal.SpanNumbers = refl
meant_is refusal.TooLarge = refl

-- two refusals have two codes
pub same_code : (a b : Refusal) → code_of a ≡ code_of b → a ≡ b
same_code a b e = sym (meant_is a) ∙ (ap meant e ∙ meant_is b)
