-- What stands at a position of a document.
use Rattle.std.specs.Prelude.{ℕ, ◌||◌, Bool, not, List, [], ◌∷◌, filter, map, Option, None, Some}
use Rattle.std.specs.Option.{IsSomeAnd}
use Rattle.std.specs.declared.ops.Range.{Range}
use Rattle.serde_json.specs.Data.{Data}
use Rattle.typst_document.specs.Tree.{Tree}
use Rattle.typst_features.specs.Labels.{Mentioned, highlights}
use Rattle.typst_features.specs.Meanings.{binding_of, name_at, uses_of}
use Rattle.typst_features.specs.Name.{Name}
use Rattle.typst_features.specs.Names.{names}
use Rattle.typst_features.specs.Occurrence.{Occurrence}
use Rattle.typst_features.specs.Renames.{is_bound, stands_as}
use Rattle.typst_positions.specs.Positions.{byte_at}
use Rattle.typst_protocol.specs.Parameters as parameters
use Rattle.typst_document.specs.Document.{Opened}

-- a mention as an occurrence of its name, with its marks
abbrev pub occurred : Mentioned → Occurrence
occurred m = record { kind = stands_as m.kind; range = m.range }

-- a binding, if there is one, and the uses that mean it
abbrev pub with_uses : List ℕ → List Name → Option ℕ → List Occurrence
with_uses text ns None = []
with_uses text ns (Some binding) = uses_of text ns binding

-- those that a name means, by its place, if it has one
abbrev pub bound_at : List ℕ → List Name → Option ℕ → List Occurrence
bound_at text ns None = []
bound_at text ns (Some i) = with_uses text ns (binding_of text ns i)

-- some mentions, or if there are none what the name at byte b means
abbrev pub or_bound : List ℕ → Tree → ℕ → List Mentioned → List Occurrence
or_bound text t b [] = bound_at text (names t) (name_at (names t) b)
or_bound text t b (m ∷ ms) = map occurred (m ∷ ms)

-- WHAT STANDS AT A BYTE of a document: labels and references of the label that is mentioned there, or else of the name there what binds it,
-- and the uses that mean that
abbrev pub occurrences : Opened → ℕ → List Occurrence
occurrences document b = or_bound document.source.text document.source.root b (highlights document.source.root b)

-- their bytes
abbrev pub stretches : List Occurrence → List (Range ℕ)
stretches os = map (λ o. o.range) os

-- where it is defined or bound
abbrev pub defined : List Occurrence → List (Range ℕ)
defined os = stretches (filter (λ o. is_bound o.kind) os)

-- where it is used, and if that is wanted also where it is defined or bound
abbrev pub used : Bool → List Occurrence → List (Range ℕ)
used with_definitions os = stretches (filter (λ o. with_definitions || not (is_bound o.kind)) os)

-- parameters name a position of a document, and P holds of its byte
abbrev pub AtPosition : Option Data → Opened → (ℕ → Type 0) → Type 0
AtPosition params document P = IsSomeAnd (parameters.position_in params) (λ position. P (byte_at document.encoding document.source.text position))
