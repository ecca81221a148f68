-- A reader answers where it has eaten to.
use Rattle.typst_tokens.proofs.Cited.{◌≡◌, ℕ, zero, suc, ◌+◌, min, List, [], ◌∷◌, length, slice_get, refl, sym, ap, ◌∙◌, arith, prefix_len, Place, moved, moved_from, scout, run, past, answer, peek, glance, span, eat, see_run, skip, eat_run}
use Rattle.typst_tokens.specs.Reader.{place, spanned, Reader, exec, eaten}

moved-end : (n : ℕ) (xs : List ℕ) → moved_from n xs [] ≡ place xs []
moved-end n xs = grind arith

pub moved-more : (m n : ℕ) (xs ys : List ℕ) → moved n (moved_from m xs ys) ≡ moved_from (m + n) xs ys
moved-more zero n xs ys = let e : 0 + n ≡ n = omega arith in rw e refl
moved-more (suc m) n xs [] = moved-end n xs ∙ sym (moved-end (suc m + n) xs)
moved-more (suc m) n xs (c ∷ ys) = let e : suc m + n ≡ suc (m + n) = omega arith in rw e (moved-more m n (c ∷ xs) ys)

moved-min : (n : ℕ) (xs ys : List ℕ) → moved_from n xs ys ≡ moved_from (min n (length ys)) xs ys
moved-min n xs [] = let e : min n 0 ≡ 0 = omega arith in rw e (moved-end n xs)
moved-min zero xs (c ∷ ys) = let e : min 0 (suc (length ys)) ≡ 0 = omega arith in rw e refl
moved-min (suc n) xs (c ∷ ys) = let e : min (suc n) (suc (length ys)) ≡ suc (min n (length ys)) = omega arith in rw e (moved-min n (c ∷ xs) ys)

pub exec-moved : {M A : Type 0} (r : Reader M A) (p : Place) → (exec r p).1 ≡ moved (eaten r p) p
exec-moved (answer a) p = refl
exec-moved (peek n k) p = exec-moved (k (scout n p)) p
exec-moved (glance n k) p = exec-moved (k (slice_get p.before n)) p
exec-moved (span m state k) p = let r = spanned m state p.before p.ahead in exec-moved (k r.0 r.1) p
exec-moved (eat r) p =
    let e : 1 + eaten r (moved 1 p) ≡ suc (eaten r (moved 1 p)) = omega arith in
    exec-moved r (moved 1 p) ∙ moved-more 1 (eaten r (moved 1 p)) p.before p.ahead ∙ ap (λ n. moved n p) e
exec-moved (skip n r) p =
    let m = min n (length p.ahead) in
    exec-moved r (moved n p) ∙ ap (moved (eaten r (moved n p))) (moved-min n p.before p.ahead) ∙ moved-more m (eaten r (moved n p)) p.before p.ahead
exec-moved (eat_run test k) p =
    exec-moved (k (run test p)) (past test p) ∙ moved-more (prefix_len test p.ahead) (eaten (k (run test p)) (past test p)) p.before p.ahead
exec-moved (see_run test k) p = exec-moved (k (run test p)) p
