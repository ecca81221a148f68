-- The first CR LF of bytes that come one by one.
use Rattle.typst_protocol.proofs.Cited.{◌≡◌, ℕ, ◌+◌, ◌-◌, ◌<◌, ◌≤◌, Bool, false, ◌&&◌, ◌==◌, cond, List, [], ◌∷◌, ◌++◌, length, take, drop, Option, None, Some, Ok, Err, refl, ap, ◌∙◌, arith, nat_lt, lt-ltb, le-ltb, length-append, option_map, and_parts, eqb-true, false_from_ne_true, before_crlf, line_len, Malformed, CutOff, ok_or}
use Rattle.std.proofs.lemmas.List.{take_all, take_at, drop_at}
use lib.Seq.{take-add}

abbrev more : ℕ → ℕ
more n = n + 1

-- a CR LF that stands in a front is the first one of the whole
found : (b : Bool) (r s : Option ℕ) (n : ℕ) → cond b (Some 0) (option_map more r) ≡ Some n → ((m : ℕ) → r ≡ Some m → s ≡ Some m) → cond b (Some 0) (option_map more s) ≡ Some n
found b r s n e h = grind arith

pub crlf-front : (xs ys : List ℕ) (n : ℕ) → before_crlf xs ≡ Some n → before_crlf (xs ++ ys) ≡ Some n
crlf-front [] ys n e = cc
crlf-front (c ∷ []) ys n e = cc
crlf-front (c ∷ d ∷ xs) ys n e = found (c == 13 && d == 10) (before_crlf (d ∷ xs)) (before_crlf (d ∷ xs ++ ys)) n e (crlf-front (d ∷ xs) ys)

room : (b : Bool) (r : Option ℕ) (k n : ℕ) → cond b (Some 0) (option_map more r) ≡ Some n → ((m : ℕ) → r ≡ Some m → m + 2 ≤ k + 1) → n + 2 ≤ k + 2
room b r k n e h = grind arith

not_yet : (b : Bool) (r : Option ℕ) → cond b (Some 0) (option_map more r) ≡ None → (b ≡ false) × (r ≡ None)
not_yet b r e = grind arith

not_both : (b c : ℕ) → (b ≡ 13 → c ≡ 10 → ⊥) → (b == 13 && c == 10) ≡ false
not_both b c h = false_from_ne_true _ (λ both. let p = and_parts (b == 13) (c == 10) both in h (eqb-true _ _ p.0) (eqb-true _ _ p.1))

still_none : (t : Bool) (r : Option ℕ) → t ≡ false → r ≡ None → cond t (Some 0) (option_map more r) ≡ None
still_none t r e h = rw (e, h) refl

pub then_some : (t : Bool) (r : Option ℕ) (k n : ℕ) → t ≡ false → r ≡ Some k → n ≡ k + 1 → cond t (Some 0) (option_map more r) ≡ Some n
then_some t r k n e h sum = rw (e, h, sum) refl

-- bytes without CR LF go on having none where two bytes aren't one
pub crlf-none : (xs : List ℕ) (b c : ℕ) → before_crlf (xs ++ b ∷ []) ≡ None → (b ≡ 13 → c ≡ 10 → ⊥) → before_crlf (xs ++ b ∷ c ∷ []) ≡ None
crlf-none [] b c e h = still_none _ None (not_both b c h) refl
crlf-none (a ∷ []) b c e h = let n = not_yet (a == 13 && b == 10) None e in still_none _ _ n.0 (crlf-none [] b c refl h)
crlf-none (a ∷ d ∷ xs) b c e h = let n = not_yet (a == 13 && d == 10) (before_crlf (d ∷ xs ++ b ∷ [])) e in still_none _ _ n.0 (crlf-none (d ∷ xs) b c n.1 h)

-- the first CR LF is the one that comes last
pub crlf-some : (xs : List ℕ) (b c : ℕ) → before_crlf (xs ++ b ∷ []) ≡ None → b ≡ 13 → c ≡ 10 → before_crlf (xs ++ b ∷ c ∷ []) ≡ Some (length xs)
crlf-some [] b c e cr lf = rw (cr, lf) refl
crlf-some (a ∷ []) b c e cr lf = let n = not_yet (a == 13 && b == 10) None e in then_some (a == 13 && b == 10) (before_crlf (b ∷ c ∷ [])) 0 1 n.0 (crlf-some [] b c refl cr lf) (omega arith)
crlf-some (a ∷ d ∷ xs) b c e cr lf =
    let n = not_yet (a == 13 && d == 10) (before_crlf (d ∷ xs ++ b ∷ [])) e in
    then_some (a == 13 && d == 10) (before_crlf (d ∷ xs ++ b ∷ c ∷ [])) (length (d ∷ xs)) (length (a ∷ d ∷ xs)) n.0 (crlf-some (d ∷ xs) b c n.1 cr lf) (omega arith)

-- what stands before a line's bound, where all of a front does
front : (xs rest : List ℕ) → length xs ≤ 1024 → take 1024 (xs ++ rest) ≡ xs ++ take (1024 - length xs) rest
front xs rest h =
    let sum : 1024 ≡ length xs + (1024 - length xs) = omega arith in
    ap (λ n. take n (xs ++ rest)) sum ∙ take-add (length xs) (1024 - length xs) (xs ++ rest)
    ∙ ap (λ ys. ys ++ take (1024 - length xs) (drop (length xs) (xs ++ rest))) (take_at xs rest (length xs) refl)
    ∙ ap (λ ys. xs ++ take (1024 - length xs) ys) (drop_at xs rest (length xs) refl)

pub line-read : (xs rest : List ℕ) (n : ℕ) → length xs ≤ 1024 → before_crlf xs ≡ Some n → line_len (xs ++ rest) ≡ Ok n
unfolding line_len
line-read xs rest n h e = ap (λ o. ok_or o (cond (nat_lt (length (xs ++ rest)) 1024) CutOff Malformed)) (ap before_crlf (front xs rest h) ∙ crlf-front xs _ n e)

pub line-cut : (xs : List ℕ) → length xs < 1024 → before_crlf xs ≡ None → line_len xs ≡ Err CutOff
unfolding line_len
line-cut xs h e = ap (λ o. ok_or o (cond (nat_lt (length xs) 1024) CutOff Malformed)) (ap before_crlf (take_all 1024 xs (omega arith)) ∙ e) ∙ ap (λ b. Err (cond b CutOff Malformed)) (lt-ltb _ _ h)

pub line-long : (xs rest : List ℕ) → length xs ≡ 1024 → before_crlf xs ≡ None → line_len (xs ++ rest) ≡ Err Malformed
unfolding line_len
line-long xs rest h e =
    ap (λ o. ok_or o (cond (nat_lt (length (xs ++ rest)) 1024) CutOff Malformed)) (ap before_crlf (take_at xs rest 1024 h) ∙ e)
    ∙ ap (λ b. Err (cond b CutOff Malformed)) (le-ltb (length (xs ++ rest)) 1024 (omega (arith, length-append xs rest)))
