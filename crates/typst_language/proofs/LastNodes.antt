-- The last of several nodes, by its place.
use Rattle.typst_language.proofs.Cited.{None, true, false, ◌≡◌, ℕ, zero, suc, ◌-◌, ◌&&◌, List, [], ◌∷◌, length, get_or, refl, ap, sym, ◌∙◌, arith, set, is_error, hinted_error, hinted_last, is_sign, ends_with, in_parens}
use Rattle.typst_lexer.specs.Tree.{Tree, advised}
use Rattle.typst_kinds.specs.Diagnostic.{at_last, hint_with}
use Rattle.typst_kinds.proofs.LastElement.{at_last-set}

-- what ends with a sign
ends-last : (c : ℕ) (ts : List Tree) (i : ℕ) (d : Tree) → length ts ≡ suc i → ends_with c ts ≡ is_sign c (get_or ts i d)
ends-last c [] i d h = absurd (omega arith)
ends-last c (t ∷ []) zero d h = refl
ends-last c (t ∷ []) (suc i) d h = absurd (omega arith)
ends-last c (t ∷ u ∷ ts) zero d h = absurd (omega arith)
ends-last c (t ∷ u ∷ ts) (suc i) d h = ends-last c (u ∷ ts) i d (omega arith)

pub parens-ends : (ts : List Tree) (i : ℕ) (d e : Tree) → length ts ≡ suc (suc i) → in_parens ts ≡ (is_sign 40 (get_or ts 0 d) && is_sign 41 (get_or ts (suc i) e))
parens-ends ts i d e h = grind (arith, ends-last)

hinted-at : (hs : List (List ℕ)) (ts : List Tree) → hinted_last hs ts ≡ at_last (hinted_error hs) ts
hinted-at hs ts = cc

-- the last node has these hints
pub hinted-set : (hs : List (List ℕ)) (ts : List Tree) (i : ℕ) (t u : Tree) → length ts ≡ suc i → t ≡ get_or ts i t → u ≡ hinted_error hs t → set ts i u ≡ hinted_last hs ts
hinted-set hs ts i t u n at is = ap (set ts i) is ∙ at_last-set (hinted_error hs) ts i t n at ∙ sym (hinted-at hs ts)

pub hint-error : (hint : List ℕ) (t : Tree) → is_error t.head.kind ≡ true → advised (hint_with None hint) t ≡ hinted_error (hint ∷ []) t
hint-error hint t e = rw e refl

pub hint-other : (hint : List ℕ) (t : Tree) → is_error t.head.kind ≡ false → hinted_error (hint ∷ []) t ≡ t
hint-other hint t e = rw e refl
