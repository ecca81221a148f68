-- What contracts see of diagnostics.
use Rattle.std.specs.Prelude.{ℕ, List, [], ◌∷◌, ◌++◌, Option, None, refl}
use Rattle.std.specs.Coded.{Coded, code_by, coded×, coded_ℕ, coded_list, coded_option}
use Rattle.typst_kinds.specs.Span.{Bytes}
use Rattle.typst_kinds.specs.declared.diagnostic.Severity.{Severity}
use Rattle.typst_kinds.specs.declared.diagnostic.Severity.TheVariants.{Error, Warning}
use Rattle.typst_kinds.specs.contracts.diagnostic.Severity.{the_row as severity_row}

-- a remark about a node, or about some of its bytes
pub record Hint : Type 0 where
  pub sub_range : Option Bytes
  pub message : List ℕ

-- an error or a warning about a node, or about some of its bytes, and its hints in their order
pub record Diagnostic : Type 0 where
  pub severity : Severity
  pub sub_range : Option Bytes
  pub message : List ℕ
  pub hints : List Hint

-- how a range of bytes is stored in ghost fields
abbrev pub bytes_code : Coded Bytes
bytes_code = code_by (ℕ × ℕ) (coded× coded_ℕ coded_ℕ) (λ r. (r.start, r.end)) (λ p. record { start = p.0; end = p.1 }) (λ _. refl)

-- how a hint is stored in ghost fields
abbrev pub hint_code : Coded Hint
hint_code =
    code_by (Option Bytes × List ℕ) (coded× (coded_option bytes_code) (coded_list coded_ℕ)) (λ h. (h.sub_range, h.message))
    (λ p. record { sub_range = p.0; message = p.1 })
    (λ _. refl)

-- how a diagnostic is stored in ghost fields
abbrev pub diagnostic_code : Coded Diagnostic
diagnostic_code =
    code_by (Severity × (Option Bytes × (List ℕ × List Hint)))
    (coded× severity_row.coded (coded× (coded_option bytes_code) (coded× (coded_list coded_ℕ) (coded_list hint_code))))
    (λ d. (d.severity, (d.sub_range, (d.message, d.hints))))
    (λ p. record { severity = p.0; sub_range = p.1.0; message = p.1.1.0; hints = p.1.1.1 })
    (λ _. refl)

-- an error without hints, about all of its node
abbrev pub error_with : List ℕ → Diagnostic
error_with message = record { severity = Error; sub_range = None; message = message; hints = [] }

-- a warning without hints
abbrev pub warning_with : Option Bytes → List ℕ → Diagnostic
warning_with range message = record { severity = Warning; sub_range = range; message = message; hints = [] }

-- a hint
abbrev pub hint_with : Option Bytes → List ℕ → Hint
hint_with range message = record { sub_range = range; message = message }

-- the diagnostic with one more hint
abbrev pub hinted : Hint → Diagnostic → Diagnostic
hinted h d = record d { hints = d.hints ++ h ∷ [] }

-- the list with its last element changed, if it has one
abbrev pub at_last : {X : Type 0} → (X → X) → List X → List X
at_last f [] = []
at_last f (x ∷ []) = f x ∷ []
at_last f (x ∷ (y ∷ ys)) = x ∷ at_last f (y ∷ ys)
