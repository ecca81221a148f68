-- Equations of single nodes: children, and spans.
use Rattle.typst_tree.proofs.Cited.{◌≡◌, ℕ, suc, ◌==◌, false, List, ◌∷◌, length, Option, refl, sym, arith, IsTrue, [], nat_tests, Tree, forest, is_childless, same_place}

pub childless_forest : (ts : List Tree) → is_childless (forest ts) ≡ (length ts == 0)
childless_forest [] = refl
childless_forest (t ∷ ts) = let fails : (suc (length ts) == 0) ≡ false = grind (arith, nat_tests) in sym fails

pub place_self : (p : Option (ℕ × ℕ)) → IsTrue (same_place p p)
place_self p = grind arith

pub place_same : (p q : Option (ℕ × ℕ)) → IsTrue (same_place p q) → p ≡ q
place_same p q h = grind arith
