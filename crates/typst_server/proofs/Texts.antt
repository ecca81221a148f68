-- What is known of texts from change to change.
use Rattle.typst_server.proofs.Cited.{◌≡◌, ℕ, List, drop, Option, Encoding, Opened, Knows, after, items_view}
use Rattle.serde_json.specs.declared.value.Value.{Value}

-- what the changes up to an index leave, the others make of it what all make of the first text
abbrev pub Made : Encoding → Option (Option Opened) → Option (Option Opened) → List Value → ℕ → Type 0
Made encoding old mid values i =
    (before : Option (List ℕ)) → Knows encoding old before → (now : Option (List ℕ)) × Knows encoding mid now × (after encoding now (items_view (drop i values)) ≡ after encoding before (items_view values))
