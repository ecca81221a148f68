-- Clusters, in one piece.
use Rattle.typst_lexer.proofs.Cited.{◌≡◌, ◌≤◌, ◌<◌, ℕ, zero, suc, Bool, true, false, ◌==◌, List, [], ◌∷◌, length, take, refl, sym, ap, subst, ◌∙◌, arith, length-append, nat_tests, length-take, encodes-chars, length-encode, scalars-chars, prefix_len, list_all, chars, IsUtf8, CharClasses, IsLine, IsLawful, in_line, none-is, Place, run, bytes_ahead, cluster_len, cluster, Sight, saw, went, sight, plain, Token, IsLine-run, cluster-bytes, encode_utf8, encode_utf8_all, list_all-run}
use Rattle.typst_kinds.specs.declared.kind.SyntaxKind.TheVariants as kind

-- a text that has bytes has characters
pub some-chars : (text : List ℕ) (r : Bool) → IsUtf8 text → r ≡ (length text == 0) → r ≡ false → 0 < length (chars text)
some-chars text r u e f = let none : (length (chars text) == 0) ≡ false = none-is text u ∙ sym e ∙ f in grind (arith, nat_tests)

pub some-run : (p : Place) (text : List ℕ) (r : Bool) → IsUtf8 text → chars text ≡ run in_line p → r ≡ (length text == 0) → r ≡ false → 0 < length (run in_line p)
some-run p text r u t e f = subst (λ cs. 0 < length cs) t (some-chars text r u e f)

pub inside-run : (p : Place) (text : List ℕ) → chars text ≡ run in_line p → list_all in_line (chars text) ≡ true
inside-run p text t = ap (list_all in_line) t ∙ list_all-run in_line p.ahead

-- the bytes of the cluster are those of whole characters ahead
pub bytes-is : (k : CharClasses) → IsLawful k → (p q : Place) (text : List ℕ) (m : ℕ) (r : Bool) → IsUtf8 text → chars text ≡ run in_line p → r ≡ (length text == 0) → r ≡ false → q ≡ p
    → m ≡ length (encode_utf8_all (take (k.cluster (chars text)) (chars text))) → m ≡ bytes_ahead (k.cluster (run in_line p)) q
bytes-is k law p q text m r u t e f g h = h ∙ cluster-bytes k law p text u t (some-run p text r u t e f) ∙ ap (bytes_ahead (k.cluster (run in_line p))) (sym g)

-- nothing is left of the line: the character stands alone
pub cluster-none : (k : CharClasses) (v u w : Sight) (text : List ℕ) (r : Bool) (t : Token) → IsUtf8 text → chars text ≡ run in_line v.place → u ≡ saw (suc (prefix_len in_line v.place.ahead)) v
    → r ≡ (length text == 0) → r ≡ true → w ≡ went 1 u → t ≡ plain kind.MathText → sight (cluster k) v ≡ (t, w)
unfolding cluster
cluster-none k v u w text r t good e f g h i j = by-line (run in_line v.place) (sym e)
  where
    by-line : (cs : List ℕ) → cs ≡ chars text → ◌≡◌ {A = Token × Sight} (plain kind.MathText, went (cluster_len k cs) (saw (suc (prefix_len in_line v.place.ahead)) v)) (t, w)
    by-line [] p = ap (λ x. (plain kind.MathText, went 1 x)) (sym f) ∙ ap (λ x. (plain kind.MathText, x)) (sym i) ∙ ap (λ x. (x, w)) (sym j)
    by-line (c ∷ cs) p =
        let none : (length (chars text) == 0) ≡ true = none-is text good ∙ sym g ∙ h in
        let some : length (chars text) ≡ suc (length cs) = ap length (sym p) in
        absurd (grind (arith, nat_tests))

len-is : (k : CharClasses) (n : ℕ) (cs : List ℕ) → 0 < length cs → n ≡ k.cluster cs → 1 ≤ n → cluster_len k cs ≡ n
len-is k n cs some e le = grind arith

taken-length : (n : ℕ) (cs ds : List ℕ) → cs ≡ take n ds → n ≤ length ds → length cs ≡ n
taken-length n cs ds e le = omega (arith, ap length e, length-take n ds)

-- the cluster was gone past
pub cluster-some : (k : CharClasses) → IsLawful k → (v u w : Sight) (text own : List ℕ) (r : Bool) (t : Token) → IsUtf8 text → chars text ≡ run in_line v.place → u ≡ saw (suc (prefix_len in_line v.place.ahead)) v
    → r ≡ (length text == 0) → r ≡ false → chars own ≡ take (k.cluster (run in_line v.place)) v.place.ahead → w ≡ went (length (chars own)) u → t ≡ plain kind.MathText → sight (cluster k) v ≡ (t, w)
unfolding cluster
cluster-some k law v u w text own r t good e f g h i j l =
    let some = some-run v.place text r good e g h in
    let line = subst IsLine e (IsLine-run v.place text good e some) in
    grind (arith, length-take, taken-length, len-is)

-- a cluster's bytes are all bytes where its characters are all characters
bytes-all : (n : ℕ) (cs : List ℕ) → n ≤ length cs → (length (encode_utf8_all (take n cs)) == length (encode_utf8_all cs)) ≡ (n == length cs)
bytes-all zero [] le = refl
bytes-all zero (c ∷ cs) le = grind (arith, nat_tests, length-append (encode_utf8 c) (encode_utf8_all cs), length-encode c)
bytes-all (suc n) [] le = absurd (omega arith)
bytes-all (suc n) (c ∷ cs) le = grind (arith, bytes-all n cs (omega arith), nat_tests, length-append)

pub is-cluster : (k : CharClasses) → IsLawful k → (text : List ℕ) (n : ℕ) → IsUtf8 text → IsLine (chars text) → n ≡ length (encode_utf8_all (take (k.cluster (chars text)) (chars text)))
    → (n == length text) ≡ (k.cluster (chars text) == length (chars text))
is-cluster k law text n u line e =
    let within = law.cluster (chars text) line in
    ap (λ m. m == length text) e
    ∙ ap (λ (bs : List ℕ). length (encode_utf8_all (take (k.cluster (chars text)) (chars text))) == length bs) (sym (encodes-chars text u))
    ∙ bytes-all (k.cluster (chars text)) (chars text) within.1

pub take-again : (n : ℕ) (ds : List ℕ) → take (length (take n ds)) ds ≡ take n ds
take-again zero ds = refl
take-again (suc n) [] = refl
take-again (suc n) (d ∷ ds) = ap (λ t. d ∷ t) (take-again n ds)

-- characters that were taken at a place come next there
pub skipped-is : (n : ℕ) (p q z : Place) (cs : List ℕ) → q ≡ p → z ≡ p → cs ≡ take n q.ahead → take (length cs) z.ahead ≡ cs
skipped-is n p q z cs e f g = grind (arith, take-again)

-- a text without a newline character that isn't empty is a line
pub line-is : (text : List ℕ) → IsUtf8 text → 0 < length text → list_all in_line (chars text) ≡ true → IsLine (chars text)
line-is text u some inside = record {
  some = let r = none-is text u in let none : (length text == 0) ≡ false = grind (arith, nat_tests) in let e : (length (chars text) == 0) ≡ false = r ∙ none in grind (arith, nat_tests);
  scalars = scalars-chars text u;
  inside = inside;
}
