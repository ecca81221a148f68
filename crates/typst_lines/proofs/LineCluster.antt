-- A cluster of the rest of a line, as a step over the characters ahead.
use Rattle.typst_lines.proofs.Cited.{◌≡◌, ◌<◌, ◌+◌, ℕ, Bool, true, false, if◌then◌else◌, List, [], ◌∷◌, take, length, refl, ap, arith, one-add, length-take, chars-nil, scalars-chars, prefix_len, list_all, chars, all_scalars, IsUtf8, nat_tests, IsScalar, is_whitespace, is_newline, Place, run, bytes_ahead, encode_utf8_all, and_parts, take-take}
use Rattle.typst_lines.specs.Classes.{CharClasses, IsLine, IsLawful, in_line}

pub line-some : (bs : List ℕ) → 0 < length (chars bs) → 0 < length bs
line-some [] some = let none : length (chars []) ≡ 0 = ap length chars-nil in absurd (omega arith)
line-some (b ∷ bs) some = omega arith

pub list_all-run : (test : ℕ → Bool) (cs : List ℕ) → list_all test (take (prefix_len test cs) cs) ≡ true
list_all-run test [] = refl
list_all-run test (c ∷ cs) =
    let by_test : (b : Bool) → test c ≡ b → list_all test (take (if b then 1 + prefix_len test cs else 0) (c ∷ cs)) ≡ true = elim [ true ↦ λ e. rw (one-add, e) (list_all-run test cs) | false ↦ λ _. refl ] in
    by_test (test c) refl

-- what is left of a line, read at a place
pub IsLine-run : (p : Place) (line : List ℕ) → IsUtf8 line → chars line ≡ run in_line p → 0 < length (run in_line p) → IsLine (chars line)
IsLine-run p line u e some = grind (arith, scalars-chars, list_all-run)

-- the bytes of a cluster of what is left of the line are those of whole characters ahead
pub cluster-bytes : (k : CharClasses) → IsLawful k → (p : Place) (line : List ℕ) → IsUtf8 line → chars line ≡ run in_line p → 0 < length (run in_line p)
    → length (encode_utf8_all (take (k.cluster (chars line)) (chars line))) ≡ bytes_ahead (k.cluster (run in_line p)) p
unfolding bytes_ahead
cluster-bytes k law p line u e some =
    let n = k.cluster (run in_line p) in
    let m = prefix_len in_line p.ahead in
    let within = law.cluster (chars line) (IsLine-run p line u e some) in
    grind (arith, length-take, take-take)

-- a newline character is white space
pub newline-white : (c : ℕ) → is_newline c ≡ true → is_whitespace c ≡ true
newline-white c e = grind (arith, nat_tests)

in_line-continue : (k : CharClasses) → IsLawful k → (c : ℕ) → IsScalar c → k.xid_continue c ≡ true → in_line c ≡ true
in_line-continue k law c scalar goes_on = grind (arith, newline-white)

-- the characters that continue an identifier stand within a line
pub in_line-identifier : (k : CharClasses) → IsLawful k → (cs : List ℕ) → all_scalars cs ≡ true → list_all k.xid_continue cs ≡ true → list_all in_line cs ≡ true
in_line-identifier k law [] scalars goes_on = refl
in_line-identifier k law (c ∷ cs) scalars goes_on =
    let s = and_parts _ (all_scalars cs) scalars in
    let g = and_parts (k.xid_continue c) (list_all k.xid_continue cs) goes_on in
    rw (in_line-continue k law c s.0 g.0) (in_line-identifier k law cs s.1 g.1)
