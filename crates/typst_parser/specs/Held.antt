-- What contracts see of a source.
use Rattle.std.specs.Prelude.{ℕ, Bool, List, refl}
use Rattle.std.specs.Coded.{Coded, code_by, coded×, coded_ℕ, coded_bool, coded_list}
use Rattle.typst_tree.specs.Tree.{Tree, tree_code}

-- what contracts see of a source: its file, its text, its tree with spans, its class value, and
-- whether it has records, which it has from its making by `new` or its first edit on
pub record Held (C : Type 0) : Type 0 where
  pub id : ℕ
  pub text : List ℕ
  pub root : Tree
  pub classes : C
  pub has_records : Bool

-- how a source is stored in ghost fields
abbrev pub held_code : {C : Type 0} → Coded C → Coded (Held C)
held_code {C} code =
    code_by (ℕ × (List ℕ × (Tree × (C × Bool)))) (coded× coded_ℕ (coded× (coded_list coded_ℕ) (coded× tree_code (coded× code coded_bool))))
    (λ s. (s.id, (s.text, (s.root, (s.classes, s.has_records)))))
    (λ p. record { id = p.0; text = p.1.0; root = p.1.1.0; classes = p.1.1.1.0; has_records = p.1.1.1.1 })
    (λ _. refl)
