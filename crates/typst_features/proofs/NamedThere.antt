-- What is named at a byte, by what was found.
use Rattle.typst_features.proofs.Cited.{◌≡◌, ℕ, List, [], ◌∷◌, Option, Some, option_map, refl, ap, ◌∙◌, slice_get, arith, map, Mentioned, mentioned, bound_known, name_known, occurrence, Mention, Bor}
use Rattle.std.specs.Slice.{IsItemAt}
use Rattle.std.proofs.lemmas.Option.{slice_get-get_or, slice_get_past}
use Rattle.typst_names.specs.Meanings.{binding_of, name_at}
use Rattle.typst_names.specs.declared.scopes.Name.{Name}

-- mentions as occurrences
pub occurred : (found : List Mention) (ms : List Mentioned) → map mentioned found ≡ ms → map (λ m. occurrence (mentioned m)) found ≡ map occurrence ms
occurred found ms e = by_each found ∙ ap (map occurrence) e
  where
    by_each : (xs : List Mention) → map (λ m. occurrence (mentioned m)) xs ≡ map occurrence (map mentioned xs)
    by_each [] = refl
    by_each (x ∷ xs) = ap (λ os. occurrence (mentioned x) ∷ os) (by_each xs)

-- the name that is lent, if there is one
pub lent : (ns : List Name) (i : ℕ) (r : Option (Bor Name)) → IsItemAt ns i r → option_map (λ n. n.now) r ≡ slice_get ns i
lent ns i r h = grind (arith, slice_get_past, slice_get-get_or)

-- a name stands there
pub named : (text : List ℕ) (ns all : List Name) (b i : ℕ) → ns ≡ all → Some i ≡ name_at ns b → bound_known text ns (slice_get ns i) (binding_of text ns i) ≡ name_known text all (name_at all b)
named text ns all b i same is = ap (name_known text ns) is ∙ ap (λ xs. name_known text xs (name_at xs b)) same
