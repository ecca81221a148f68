-- Parens that go from what they delimit.
use Rattle.typst_language.proofs.Cited.{◌≡◌, ℕ, suc, ◌-◌, Bool, true, false, ◌&&◌, List, [], ◌∷◌, length, refl, ap, sym, ◌∙◌, arith, is_error, SyntaxKind, is_delimited, is_sign, in_parens, parens_renamed, renamed_last, without_parens, trees_forest}
use Rattle.typst_kinds.specs.declared.kind.SyntaxKind.TheVariants as kind
use Rattle.typst_kinds.specs.Head.{Head}
use Rattle.typst_lexer.specs.Tree.{Tree, Forest, forest, with_kind, at_tree, at_child}
use Rattle.typst_lexer.specs.Tree.Forest.{more}
use Rattle.typst_lines.proofs.SplitLaw.{and-none}

last-tree : (k : SyntaxKind) (t : Tree) (ts : List Tree) → at_tree (with_kind k) (length ts) (forest (t ∷ ts)) ≡ forest (renamed_last k (t ∷ ts))
last-tree k t [] = refl
last-tree k t (u ∷ ts) = ap (λ (f : Forest). more t.head t.kids f) (last-tree k u ts)

no-second : (b : Bool) → (b && false) ≡ true → ⊥
no-second true e = absurd (cc)
no-second false e = absurd (cc)

both-ends : (h : Head) (ns : List Tree) → in_parens ns ≡ true
    → at_child (with_kind kind.RightParen) (length ns - 1) (at_child (with_kind kind.LeftParen) 0 (record { head = h; kids = forest ns })) ≡ record { head = h; kids = forest (parens_renamed ns) }
both-ends h [] p = absurd (cc)
both-ends h (n ∷ []) p = absurd (no-second (is_sign 40 n) p)
both-ends h (n ∷ m ∷ ms) p = let l : suc (suc (length ms)) - 1 ≡ suc (length ms) = omega arith in grind (arith, last-tree)

unparened-head : (h : Head) (ns : List Tree) → is_delimited h.kind ≡ true → in_parens ns ≡ true
    → without_parens (record { head = h; kids = forest ns }) ≡ record { head = record h { kind = kind.Math }; kids = forest (parens_renamed ns) }
unparened-head h ns e p = grind (arith, trees_forest)

renamed-head : (h : Head) (ks : Forest) → is_error h.kind ≡ false → with_kind kind.Math (record { head = h; kids = ks }) ≡ record { head = record h { kind = kind.Math }; kids = ks }
renamed-head h ks e = rw e refl

unparened-kids : (h : Head) (ns : List Tree) (last : ℕ) → is_error h.kind ≡ false → is_delimited h.kind ≡ true → in_parens ns ≡ true → last ≡ length ns - 1
    → with_kind kind.Math (at_child (with_kind kind.RightParen) last (at_child (with_kind kind.LeftParen) 0 (record { head = h; kids = forest ns }))) ≡ without_parens (record { head = h; kids = forest ns })
unparened-kids h ns last f e p l =
    ap (λ n. with_kind kind.Math (at_child (with_kind kind.RightParen) n (at_child (with_kind kind.LeftParen) 0 (record { head = h; kids = forest ns })))) l
    ∙ ap (with_kind kind.Math) (both-ends h ns p) ∙ renamed-head h (forest (parens_renamed ns)) f ∙ sym (unparened-head h ns e p)

-- the parens of what math delimits
pub unparened-is : (t : Tree) (ns : List Tree) (last : ℕ) → is_error t.head.kind ≡ false → is_delimited t.head.kind ≡ true → forest ns ≡ t.kids → in_parens ns ≡ true → last ≡ length ns - 1
    → with_kind kind.Math (at_child (with_kind kind.RightParen) last (at_child (with_kind kind.LeftParen) 0 t)) ≡ without_parens t
unparened-is t ns last f e k p l = grind (arith, unparened-kids)

-- anything else stays
pub other-stays : (t : Tree) → is_delimited t.head.kind ≡ false → t ≡ without_parens t
other-stays t e = rw e refl

pub parens-stay : (t : Tree) (ns : List Tree) → forest ns ≡ t.kids → in_parens ns ≡ false → t ≡ without_parens t
parens-stay t ns k p = grind (arith, trees_forest, and-none)
