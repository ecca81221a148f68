-- Which operator stands first among several nodes.
use Rattle.typst_grammar.proofs.Cited.{◌≡◌, Bool, true, false, if◌then◌else◌, List, [], ◌∷◌, ◌++◌, Option, Some, None, refl, ap, ◌∙◌, arith, same, binary_of, SyntaxKind, BinOp, Tree, leaf_of, first_sign, same-is}
use Rattle.typst_kinds.specs.declared.kind.SyntaxKind.TheVariants as kind
use Rattle.typst_kinds.specs.declared.operator.BinOp.TheVariants as binary
use Rattle.typst_grammar.proofs.Lists.{All}

-- the operator that a token of this kind begins: `not` begins `not in`
abbrev pub sign_of : SyntaxKind → Option BinOp
sign_of k = if same kind.Not k then Some binary.NotIn else binary_of k

-- no operator begins with it
abbrev pub NoSign : Tree → Type 0
NoSign t = sign_of t.head.kind ≡ None

begins-none : (b : Bool) (o : Option BinOp) → (if b then Some binary.NotIn else o) ≡ None → (o ≡ None) × (b ≡ false)
begins-none b o h = grind arith

is-none : (k : SyntaxKind) → sign_of k ≡ None → (binary_of k ≡ None) × (same kind.Not k ≡ false)
is-none k h = begins-none (same kind.Not k) (binary_of k) h

not-in : (k : SyntaxKind) → binary_of k ≡ None → same kind.In k ≡ false
not-in k h = grind arith

module _ (us : List Tree) where
  -- what stands before the first operator says nothing
  first-front : (ls : List Tree) → All NoSign ls → first_sign false (ls ++ us) ≡ first_sign false us
  first-front [] h = refl
  first-front (t ∷ ls) h =
      let x = is-none t.head.kind h.0 in
      ap (λ (o : Option BinOp). elim o as (λ _. Option BinOp) [ None ↦ first_sign (same kind.Not t.head.kind) (ls ++ us) | Some op ↦ Some op ]) x.0 ∙ ap (λ (b : Bool). first_sign b (ls ++ us)) x.1 ∙ first-front ls h.1

  -- neither after `not`
  first-after : (ls : List Tree) → All NoSign ls → first_sign true (ls ++ us) ≡ first_sign true us
  first-after [] h = refl
  first-after (t ∷ ls) h =
      let x = is-none t.head.kind h.0 in
      let y = not-in t.head.kind x.0 in
      ap (λ (b : Bool). elim (if b then Some binary.NotIn else binary_of t.head.kind) as (λ _. Option BinOp) [ None ↦ first_sign true (ls ++ us) | Some op ↦ Some op ]) y
      ∙ ap (λ (o : Option BinOp). elim o as (λ _. Option BinOp) [ None ↦ first_sign true (ls ++ us) | Some op ↦ Some op ]) x.0 ∙ first-after ls h.1

-- the token of an operator
pub reads-sign : (op : BinOp) (i : SyntaxKind) → binary_of i ≡ Some op → (text : List _) (ls : List Tree) → All NoSign ls → (ds : List Tree) → first_sign false (ls ++ leaf_of i text ∷ ds) ≡ Some op
reads-sign op i e text ls h ds = grind (arith, first-front)

-- `not`, and `in` after it
pub reads-not : (i : SyntaxKind) → same kind.Not i ≡ true → (text : List _) (ls : List Tree) → All NoSign ls → (before : List Tree) → All NoSign before → (u : Tree) → same kind.In u.head.kind ≡ true → (us : List Tree)
    → first_sign false (ls ++ leaf_of i text ∷ (before ++ u ∷ us)) ≡ Some binary.NotIn
reads-not i e text ls h before g u f us = grind (arith, same-is, first-front, first-after)
