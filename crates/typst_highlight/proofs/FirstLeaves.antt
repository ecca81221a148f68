-- The first leaf of trees that stand side by side, where the first of them tells it.
use Rattle.typst_highlight.proofs.Cited.{◌≡◌, ℕ, ◌+◌, Option, true, false, length, arith, Head, SyntaxKind, Forest, more, saturated, text_of, is_childless, is_leaf, first_leaf, tree_of}

-- it is behind the first tree
pub leaf_past : (p : Option SyntaxKind) (a : ℕ) (h : Head) (ks r : Forest) → is_leaf (tree_of h ks) ≡ false → is_childless ks ≡ true → first_leaf p a (more h ks r) ≡ first_leaf p (saturated (a + length (text_of (tree_of h ks)))) r
leaf_past p a h ks r e f = grind arith
