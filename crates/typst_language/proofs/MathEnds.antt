-- A token of a formula isn't the end.
use Rattle.typst_language.proofs.Cited.{◌≡◌, ℕ, false, ◌==◌, ◌||◌, List, [], ◌∷◌, length, codes, subst, sym, refl, Option, Some, None, arith, CharClasses, SyntaxKind, Reader, answer, skip, is_code_point, sign, Memory, Token, is_end, code_point, backslash}
use Rattle.typst_lines.specs.declared.classes.MathClass.{MathClass}
use Rattle.typst_kinds.specs.declared.kind.SyntaxKind.TheVariants as kind
use Rattle.typst_lines.specs.Place.{Place, scout, passes, moved, run, past}
use Rattle.typst_lexer.specs.Atoms.{cluster, number, text}
use Rattle.typst_lexer.specs.Math.{primes, atom, by_class, single, math_from, math}
use Rattle.typst_lexer.specs.MathNames.{continues, is_field, after_name, named, name}
use Rattle.typst_lexer.specs.Shorthands.{any_word, hyphen, tilde, colon, equals, greater, less_short, less_middle, less, bar, bracket, bang, dot, several}
use Rattle.typst_tokens.specs.Token.{plain}
use Rattle.typst_language.proofs.CodeEnds.{string-goes}
use Rattle.typst_language.proofs.Goes.{Goes, goes-if, token-if, word-goes}

point-goes : (digits : List ℕ) (p : Place) → Goes (code_point digits) p
unfolding code_point
point-goes digits p = goes-if (passes (λ c. c == 125) (scout 0 p)) _ _ p (token-if (is_code_point digits) _ _ refl refl) refl

pub backslash-goes : (p : Place) → Goes backslash p
unfolding backslash
backslash-goes p = grind (arith, goes-if, point-goes)

any-goes : (t : SyntaxKind) (words : List (List ℕ)) (other : Reader Memory Token) (p : Place) → is_end t ≡ false → Goes other p → Goes (any_word t words other) p
any-goes t [] other p h o = o
any-goes t (word ∷ words) other p h o = word-goes 0 word (skip (length word) (answer (plain t))) (any_word t words other) p h (any-goes t words other p h o)

module _ (k : CharClasses) (c : ℕ) (p : Place) where
  sign-goes : (t : SyntaxKind) → is_end t ≡ false → Goes (sign t) p
  unfolding sign
  sign-goes t h = h

  cluster-goes : Goes (cluster k) p
  unfolding cluster
  cluster-goes = refl

  text-goes : Goes (text k c) p
  unfolding text number
  text-goes = grind (arith, goes-if, cluster-goes)

  named-goes : (own : List ℕ) (q : Place) → Goes (named k own) q
  unfolding named after_name
  named-goes own q = goes-if (k.cluster own == length own) _ _ q refl (goes-if (is_field k (scout 0 q) (scout 1 q)) _ _ q refl refl)

  name-goes : Goes (name k c) p
  unfolding name
  name-goes = goes-if (passes (continues k) (scout 1 p)) _ _ p (named-goes (c ∷ run (continues k) (moved 1 p)) (past (continues k) (moved 1 p))) text-goes

  atom-goes : Goes (atom k c) p
  unfolding atom
  atom-goes = goes-if (k.xid_start c) _ _ p name-goes text-goes

  class-goes : (o : Option MathClass) → Goes (by_class k c o) p
  unfolding by_class
  class-goes o = grind (arith, atom-goes, sign-goes)

  single-goes : Goes (single k c) p
  unfolding single
  single-goes = grind (arith, goes-if, sign-goes, class-goes)

  short-goes : Goes (less_short k) p
  unfolding less_short
  short-goes = any-goes kind.MathShorthand (codes "<=" ∷ codes "<<" ∷ codes "<-" ∷ codes "<~" ∷ []) (cluster k) p refl cluster-goes

  middle-goes : Goes (less_middle k) p
  unfolding less_middle
  middle-goes = any-goes kind.MathShorthand (codes "<--" ∷ codes "<-<" ∷ codes "<->" ∷ codes "<<-" ∷ codes "<<<" ∷ codes "<=>" ∷ codes "<==" ∷ codes "<~~" ∷ []) (less_short k) p refl short-goes

  bar-goes : Goes (bar k) p
  unfolding bar
  bar-goes = any-goes kind.MathShorthand (codes "|->" ∷ codes "|=>" ∷ codes "||" ∷ []) (any_word kind.RightBrace (codes "|]" ∷ []) (cluster k)) p refl (any-goes kind.RightBrace (codes "|]" ∷ []) (cluster k) p refl cluster-goes)

  several-goes : (other : Reader Memory Token) → Goes other p → Goes (several k c other) p
  unfolding several hyphen tilde colon equals greater less bracket bang dot
  several-goes other o =
      goes-if (c == 45) _ _ p (any-goes kind.MathShorthand (codes "->>" ∷ codes "-->" ∷ codes "->" ∷ []) (sign kind.MathShorthand) p refl (sign-goes kind.MathShorthand refl))
      (goes-if (c == 126) _ _ p (any-goes kind.MathShorthand (codes "~~>" ∷ codes "~>" ∷ []) (sign kind.MathShorthand) p refl (sign-goes kind.MathShorthand refl))
      (goes-if (c == 58) _ _ p (any-goes kind.MathShorthand (codes "::=" ∷ codes ":=" ∷ []) (cluster k) p refl cluster-goes)
      (goes-if (c == 61) _ _ p (any-goes kind.MathShorthand (codes "==>" ∷ codes "=>" ∷ codes "=:" ∷ []) (cluster k) p refl cluster-goes)
      (goes-if (c == 62) _ _ p (any-goes kind.MathShorthand (codes ">->" ∷ codes ">>>" ∷ codes ">=" ∷ codes ">>" ∷ []) (cluster k) p refl cluster-goes)
      (goes-if (c == 60) _ _ p (any-goes kind.MathShorthand (codes "<==>" ∷ codes "<-->" ∷ []) (less_middle k) p refl middle-goes)
      (goes-if (c == 124) _ _ p bar-goes
      (goes-if (c == 91) _ _ p (goes-if (passes (λ c. c == 124) (scout 0 (moved 1 p))) _ _ (moved 1 p) refl refl)
      (goes-if (c == 33) _ _ p (any-goes kind.MathShorthand (codes "!=" ∷ []) (sign kind.Bang) p refl (sign-goes kind.Bang refl))
      (goes-if (c == 46) _ _ p (any-goes kind.MathShorthand (codes "..." ∷ []) (sign kind.Dot) p refl (sign-goes kind.Dot refl)) o)))))))))

  from-goes : Goes (math_from k c) p
  unfolding math_from primes
  from-goes = goes-if (c == 92) _ _ p (backslash-goes p) (goes-if (c == 34) _ _ p (string-goes p) (goes-if (c == 39) _ _ p refl (several-goes (single k c) single-goes)))

abbrev at_next : CharClasses → Option ℕ → Reader Memory Token
at_next k o = elim o [ None ↦ answer (plain kind.End) | Some c ↦ math_from k c ]

pub math-goes : (k : CharClasses) (c : ℕ) (p : Place) → scout 0 p ≡ Some c → Goes (math k) p
unfolding math
math-goes k c p e = subst (λ o. Goes (at_next k o) p) (sym e) (from-goes k c p)
