-- A name's own text.
use Rattle.typst_lexer.proofs.Cited.{◌≡◌, ◌<◌, ◌+◌, ◌++◌, ◌==◌, ℕ, Bool, true, false, not, List, [], ◌∷◌, length, reverse, slice_get, take, refl, sym, ap, subst, ◌∙◌, arith, Some, encode_utf8_all, scalars-chars, IsScalar, prefix_len, list_all, chars, all_scalars, IsUtf8, CharClasses, IsLawful, in_line, is_newline, Place, moved, moved_from, passes, run, scout, continues, named, name, after_name, text-on, Sight, text_of, saw, went, went_past, sight, plain, Token, line-some, in_line-identifier, list_all-run, newline-white, and_parts}
use Rattle.typst_kinds.specs.declared.kind.SyntaxKind.TheVariants as kind

-- how many characters a name has
abbrev pub size : CharClasses → Place → ℕ
size k p = 1 + prefix_len (continues k) (moved 1 p).ahead

-- the place after it
pub after-is : (k : CharClasses) (v u w : Sight) → u ≡ went 1 (saw 2 v) → w ≡ went_past (continues k) u → w.place ≡ moved (size k v.place) v.place
after-is k v u w e f = grind arith

-- the text stays
pub text-stays : (n : ℕ) (z w : Place) → w ≡ moved n z → text_of w ≡ text_of z
unfolding text_of
text-stays n z w e = ap (λ (x : Place). encode_utf8_all (reverse x.before ++ x.ahead)) e ∙ ap encode_utf8_all (text-on n z.before z.ahead)

own-on : (test : ℕ → Bool) (c : ℕ) (b a : List ℕ) → slice_get a 0 ≡ Some c
    → take (1 + prefix_len test (moved_from 1 b a).ahead) a ≡ c ∷ take (prefix_len test (moved_from 1 b a).ahead) (moved_from 1 b a).ahead
own-on test c b a e = grind arith

-- its characters
pub own-is : (k : CharClasses) (c : ℕ) (p : Place) (cs : List ℕ) → scout 0 p ≡ Some c → cs ≡ take (size k p) p.ahead → cs ≡ c ∷ run (continues k) (moved 1 p)
own-is k c p cs e f = f ∙ own-on (continues k) c p.before p.ahead e

pub own-some : (own cs : List ℕ) (c : ℕ) → chars own ≡ c ∷ cs → 0 < length own
own-some own cs c e = line-some own (subst (λ t. 0 < length t) (sym e) (omega arith))

starts-inside : (k : CharClasses) → IsLawful k → (c : ℕ) → IsScalar c → k.xid_start c ≡ true → in_line c ≡ true
starts-inside k law c scalar starts = by-test (is_newline c) refl
  where
    by-test : (b : Bool) → is_newline c ≡ b → not b ≡ true
    by-test true e = absurd (let white = law.white c scalar (newline-white c e) in let never : k.xid_start c ≡ false = white.xid_start in cc)
    by-test false e = refl

all-weaker : (k : CharClasses) (cs : List ℕ) → list_all (continues k) cs ≡ true → list_all k.xid_continue cs ≡ true
all-weaker k [] e = refl
all-weaker k (c ∷ cs) e =
    let both = and_parts (continues k c) (list_all (continues k) cs) e in
    let own = and_parts (k.xid_continue c) (not (c == 95)) both.0 in
    rw own.0 (all-weaker k cs both.1)

-- they stand within a line
pub own-inside : (k : CharClasses) → IsLawful k → (c : ℕ) (p : Place) (own : List ℕ) → IsUtf8 own → chars own ≡ c ∷ run (continues k) p → k.xid_start c ≡ true → list_all in_line (chars own) ≡ true
own-inside k law c p own u e starts =
    let scalars = subst (λ cs. all_scalars cs ≡ true) e (scalars-chars own u) in
    let s = and_parts _ (all_scalars (run (continues k) p)) scalars in
    ap (list_all in_line) e
    ∙ rw (starts-inside k law c s.0 starts) (in_line-identifier k law (run (continues k) p) s.1 (all-weaker k (run (continues k) p) (list_all-run (continues k) p.ahead)))

-- ---- the whole

name-by : (k : CharClasses) (c : ℕ) (v u w : Sight) (cs : List ℕ) → passes (continues k) (scout 1 v.place) ≡ true → u ≡ went 1 (saw 2 v) → w ≡ went_past (continues k) u → cs ≡ c ∷ run (continues k) (moved 1 v.place)
    → sight (name k c) v ≡ sight (named k cs) w
unfolding name
name-by k c v u w cs e f g h = grind arith

-- the name is one cluster
pub name-cluster : (k : CharClasses) (c : ℕ) (v u w : Sight) (cs : List ℕ) (r : Bool) (t : Token) → passes (continues k) (scout 1 v.place) ≡ true → u ≡ went 1 (saw 2 v) → w ≡ went_past (continues k) u
    → cs ≡ c ∷ run (continues k) (moved 1 v.place) → r ≡ (k.cluster cs == length cs) → r ≡ true → t ≡ plain kind.MathText → sight (name k c) v ≡ (t, w)
unfolding named
name-cluster k c v u w cs r t e f g h i j l = grind (arith, name-by)

-- it is not
pub name-ident : (k : CharClasses) (c : ℕ) (v u w x : Sight) (cs : List ℕ) (r : Bool) (t : Token) → passes (continues k) (scout 1 v.place) ≡ true → u ≡ went 1 (saw 2 v) → w ≡ went_past (continues k) u
    → cs ≡ c ∷ run (continues k) (moved 1 v.place) → r ≡ (k.cluster cs == length cs) → r ≡ false → sight (after_name k) w ≡ (t, x) → sight (name k c) v ≡ (t, x)
unfolding named
name-ident k c v u w x cs r t e f g h i j l = grind (arith, name-by)
