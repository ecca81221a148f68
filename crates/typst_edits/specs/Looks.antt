-- Where looks begin and end, in bytes.
use Rattle.std.specs.Prelude.{ℕ, ◌<◌, ◌≤◌, List, [], ◌∷◌}
use Rattle.typst_lines.specs.Place.{Place, moved}
use Rattle.typst_tokens.specs.Sight.{far, near}
use Rattle.typst_language.specs.Ask.{Ask}
use Rattle.typst_language.specs.Ask.Ask.{looked, marked}

-- every look ends by a byte of the text
abbrev pub AllReach : ℕ → Place → List Ask → Type 0
AllReach b z [] = Unit {0}
AllReach b z (looked at look ∷ asks) = (far look.front (moved at z) ≤ b) × AllReach b z asks
AllReach b z (marked at gap fewer m s ∷ asks) = AllReach b z asks

-- every look begins at a byte of the text or after it
abbrev pub AllFrom : ℕ → Place → List Ask → Type 0
AllFrom b z [] = Unit {0}
AllFrom b z (looked at look ∷ asks) = (b < near look.back (moved at z)) × AllFrom b z asks
AllFrom b z (marked at gap fewer m s ∷ asks) = AllFrom b z asks
