-- A token of a formula takes at least one character.
use Rattle.typst_lexer.proofs.Cited.{◌≡◌, ◌≤◌, ◌<◌, ℕ, suc, Bool, true, ◌==◌, ◌||◌, List, [], ◌∷◌, length, nat_lt, codes, arith, subst, sym, refl, Option, Some, None, ltb-true, list_all, CharClasses, in_line, Place, scout, passes, run, primes, atom, by_class, single, math_from, math, continues, name, Reader, at_word, eaten, sign, Memory, plain, Token, string, answer, skip, either, some-ahead, line-eats, run-ahead, backslash, and_parts}
use Rattle.typst_lines.specs.declared.classes.MathClass.{MathClass}
use Rattle.typst_kinds.specs.declared.kind.SyntaxKind.{SyntaxKind}
use Rattle.typst_kinds.specs.declared.kind.SyntaxKind.TheVariants as kind
use Rattle.typst_lexer.specs.Atoms.{cluster_len, cluster, number, text}
use Rattle.typst_lexer.specs.Shorthands.{any_word, hyphen, tilde, colon, equals, greater, less_short, less_middle, less, bar, bracket, bang, dot, several}

word-eats : (n : ℕ) (word : List ℕ) (found other : Reader Memory Token) (p : Place) → 1 ≤ eaten found p → 1 ≤ eaten other p → 1 ≤ eaten (at_word n word found other) p
word-eats n [] found other p f o = f
word-eats n (c ∷ word) found other p f o = either (passes (λ d. d == c) (scout n p)) _ _ p (λ _. word-eats (suc n) word found other p f o) o

abbrev is_some : List ℕ → Bool
is_some word = nat_lt 0 (length word)

any-eats : (t : SyntaxKind) (words : List (List ℕ)) (other : Reader Memory Token) (p : Place) → 1 ≤ length p.ahead → list_all is_some words ≡ true → 1 ≤ eaten other p → 1 ≤ eaten (any_word t words other) p
any-eats t [] other p l e o = o
any-eats t (word ∷ words) other p l e o =
    let some : 0 < length word = ltb-true 0 (length word) (and_parts _ _ e).0 in
    word-eats 0 word (skip (length word) (answer (plain t))) (any_word t words other) p (omega (arith, l, some)) (any-eats t words other p l (and_parts _ _ e).1 o)

len-some : (k : CharClasses) (line : List ℕ) → 1 ≤ cluster_len k line
len-some k line = grind arith

module _ (k : CharClasses) (c : ℕ) (p : Place) (e : scout 0 p ≡ Some c) where
  some : 1 ≤ length p.ahead
  some = some-ahead c p.ahead e

  sign-eats : (t : SyntaxKind) → 1 ≤ eaten (sign t) p
  unfolding sign
  sign-eats t = omega arith

  cluster-eats : 1 ≤ eaten (cluster k) p
  unfolding cluster
  cluster-eats = omega (arith, some, len-some k (run in_line p))

  text-eats : 1 ≤ eaten (text k c) p
  unfolding text number
  text-eats = either (k.numeric c) _ _ p (λ t. omega (arith, run-ahead k.numeric c p.ahead e t)) cluster-eats

  name-eats : 1 ≤ eaten (name k c) p
  unfolding name
  name-eats = either (passes (continues k) (scout 1 p)) _ _ p (λ _. omega arith) text-eats

  atom-eats : 1 ≤ eaten (atom k c) p
  unfolding atom
  atom-eats = either (k.xid_start c) _ _ p (λ _. name-eats) text-eats

  class-eats : (o : Option MathClass) → 1 ≤ eaten (by_class k c o) p
  unfolding by_class
  class-eats o = grind (arith, atom-eats, sign-eats)

  single-eats : 1 ≤ eaten (single k c) p
  unfolding single
  single-eats = grind (arith, sign-eats, class-eats)

  hyphen-eats : 1 ≤ eaten hyphen p
  unfolding hyphen
  hyphen-eats = any-eats kind.MathShorthand (codes "->>" ∷ codes "-->" ∷ codes "->" ∷ []) (sign kind.MathShorthand) p some refl (sign-eats kind.MathShorthand)

  tilde-eats : 1 ≤ eaten tilde p
  unfolding tilde
  tilde-eats = any-eats kind.MathShorthand (codes "~~>" ∷ codes "~>" ∷ []) (sign kind.MathShorthand) p some refl (sign-eats kind.MathShorthand)

  colon-eats : 1 ≤ eaten (colon k) p
  unfolding colon
  colon-eats = any-eats kind.MathShorthand (codes "::=" ∷ codes ":=" ∷ []) (cluster k) p some refl cluster-eats

  equals-eats : 1 ≤ eaten (equals k) p
  unfolding equals
  equals-eats = any-eats kind.MathShorthand (codes "==>" ∷ codes "=>" ∷ codes "=:" ∷ []) (cluster k) p some refl cluster-eats

  greater-eats : 1 ≤ eaten (greater k) p
  unfolding greater
  greater-eats = any-eats kind.MathShorthand (codes ">->" ∷ codes ">>>" ∷ codes ">=" ∷ codes ">>" ∷ []) (cluster k) p some refl cluster-eats

  short-eats : 1 ≤ eaten (less_short k) p
  unfolding less_short
  short-eats = any-eats kind.MathShorthand (codes "<=" ∷ codes "<<" ∷ codes "<-" ∷ codes "<~" ∷ []) (cluster k) p some refl cluster-eats

  middle-eats : 1 ≤ eaten (less_middle k) p
  unfolding less_middle
  middle-eats = any-eats kind.MathShorthand (codes "<--" ∷ codes "<-<" ∷ codes "<->" ∷ codes "<<-" ∷ codes "<<<" ∷ codes "<=>" ∷ codes "<==" ∷ codes "<~~" ∷ []) (less_short k) p some refl short-eats

  less-eats : 1 ≤ eaten (less k) p
  unfolding less
  less-eats = any-eats kind.MathShorthand (codes "<==>" ∷ codes "<-->" ∷ []) (less_middle k) p some refl middle-eats

  bar-eats : 1 ≤ eaten (bar k) p
  unfolding bar
  bar-eats = any-eats kind.MathShorthand (codes "|->" ∷ codes "|=>" ∷ codes "||" ∷ []) (any_word kind.RightBrace (codes "|]" ∷ []) (cluster k)) p some refl (any-eats kind.RightBrace (codes "|]" ∷ []) (cluster k) p some refl cluster-eats)

  bang-eats : 1 ≤ eaten bang p
  unfolding bang
  bang-eats = any-eats kind.MathShorthand (codes "!=" ∷ []) (sign kind.Bang) p some refl (sign-eats kind.Bang)

  dot-eats : 1 ≤ eaten dot p
  unfolding dot
  dot-eats = any-eats kind.MathShorthand (codes "..." ∷ []) (sign kind.Dot) p some refl (sign-eats kind.Dot)

  several-eats : (other : Reader Memory Token) → 1 ≤ eaten other p → 1 ≤ eaten (several k c other) p
  unfolding several bracket
  several-eats other o = grind (arith, hyphen-eats, tilde-eats, colon-eats, equals-eats, greater-eats, less-eats, bar-eats, bang-eats, dot-eats)

  from-eats : 1 ≤ eaten (math_from k c) p
  unfolding math_from backslash string primes
  from-eats = grind (arith, line-eats, several-eats, single-eats)

abbrev at_next : CharClasses → Option ℕ → Reader Memory Token
at_next k o = elim o [ None ↦ answer (plain kind.End) | Some c ↦ math_from k c ]

pub math-eats : (k : CharClasses) (c : ℕ) (p : Place) → scout 0 p ≡ Some c → 1 ≤ eaten (math k) p
unfolding math
math-eats k c p e = subst (λ o. 1 ≤ eaten (at_next k o) p) (sym e) (from-eats k c p e)
