-- What stands at a byte of a document.
use Rattle.typst_server.proofs.Cited.{◌≡◌, ℕ, List, [], ◌∷◌, length, refl, ap, ◌∙◌, Tree, occurred, or_bound, Mentioned, mentioned, map}
use Rattle.typst_features.specs.declared.naming.Mention.{Mention}

by_each : (ms : List Mention) → map (λ m. occurred (mentioned m)) ms ≡ map occurred (map mentioned ms)
by_each [] = refl
by_each (m ∷ ms) = ap (λ os. occurred (mentioned m) ∷ os) (by_each ms)

-- labels and references stand there
pub labels_stand : (text : List ℕ) (t : Tree) (b : ℕ) (ms : List Mention) (all : List Mentioned) → (length ms ≡ 0 → ⊥) → map mentioned ms ≡ all → map (λ m. occurred (mentioned m)) ms ≡ or_bound text t b all
labels_stand text t b [] all some e = absurd (some refl)
labels_stand text t b (m ∷ ms) all some e = by_each (m ∷ ms) ∙ ap (or_bound text t b) e
