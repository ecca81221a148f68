-- One more hint written.
use Rattle.std.proofs.Common.{◌≡◌, ℕ, ◌+◌, ◌<◌, List, [], ◌∷◌, ◌++◌, length, get_or, drop, map, Some, ap, sym, ◌∙◌, append_assoc}
use Rattle.std.proofs.lemmas.List.{at_drop_more}
use Rattle.std.specs.Prelude.{unwrap_or}
use Rattle.json.specs.Find.{as_str}
use Rattle.json.specs.Json.{Json}
use Rattle.json.specs.Token.{Token}
use Rattle.typst_check.specs.declared.sarif.finding.Region.{Region}
use Rattle.typst_check.specs.Sarif.{hint_item, hint_items, hint_text}

module _ {A : Type 0} (view : A → Json) (uri : List ℕ) (r : Region) where
  -- after what stands before, one hint and then those after it are all
  pub hints_more : (xs : List A) (i : ℕ) (x : A) (text : List ℕ) (before after all : List Token) → i < length xs → x ≡ get_or xs i x → Some text ≡ as_str (view x) → after ≡ before ++ hint_item uri r text
      → before ++ hint_items uri r (map view (drop i xs)) ≡ all → after ++ hint_items uri r (map view (drop (i + 1) xs)) ≡ all
  hints_more xs i x text before after all within is finding grown known =
      let rest : List Token = hint_items uri r (map view (drop (i + 1) xs)) in
      let here : hint_items uri r (map view (get_or xs i x ∷ drop (i + 1) xs)) ≡ hint_item uri r text ++ rest =
      ap (λ y. hint_item uri r (hint_text (view y)) ++ rest) (sym is) ∙ ap (λ o. hint_item uri r (unwrap_or o []) ++ rest) (sym finding) in
      ap (λ ts. ts ++ rest) grown ∙ append_assoc before (hint_item uri r text) rest
      ∙ ap (λ ts. before ++ ts) (sym (at_drop_more (λ ys. hint_items uri r (map view ys)) xs i x within ∙ here))
      ∙ known
