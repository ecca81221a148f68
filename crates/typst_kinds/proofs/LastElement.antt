-- The last element of a list.
use Rattle.typst_kinds.proofs.Cited.{◌≡◌, ℕ, zero, suc, List, [], ◌∷◌, length, get_or, ap, arith, at_last}
use Rattle.std.proofs.Math.ListN.{set}

-- what is set at the last place
pub at_last-set : {X : Type 0} (f : X → X) (xs : List X) (i : ℕ) (x : X) → length xs ≡ suc i → x ≡ get_or xs i x → set xs i (f x) ≡ at_last f xs
at_last-set f [] i x e p = absurd (omega (arith, e))
at_last-set f (y ∷ []) zero x e p = ap (λ z. f z ∷ []) p
at_last-set f (y ∷ []) (suc i) x e p = absurd (omega (arith, e))
at_last-set f (y ∷ (z ∷ ys)) zero x e p = absurd (omega (arith, e))
at_last-set f (y ∷ (z ∷ ys)) (suc i) x e p = ap (λ zs. y ∷ zs) (at_last-set f (z ∷ ys) i x (omega (arith, e)) p)
