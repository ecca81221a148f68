-- Escapes, by the places that the code goes to.
use Rattle.typst_markup.proofs.Cited.{◌≡◌, ◌<◌, ℕ, zero, suc, ◌+◌, ◌==◌, Bool, true, false, if◌then◌else◌, List, [], ◌∷◌, ◌++◌, length, drop, slice_get, Some, refl, ap, ◌∙◌, arith, length-drop, Place, moved, scout, passes, past, in_braces, code_escape, escape, escaped, unescaped, is_ascii_hexdigit, prefix_len}
use Rattle.typst_lines.proofs.PlaceLemmas.{head-splits, moved-step, scout-moved}
use Rattle.typst_language.proofs.Places.{moved-ahead}

-- after digits a brace may come
ending : (q w : Place) (b : Bool) → b ≡ passes (λ c. c == 125) (scout 0 (past is_ascii_hexdigit q)) → w ≡ (if b then moved 1 (past is_ascii_hexdigit q) else past is_ascii_hexdigit q) → w ≡ moved (in_braces q.ahead).len q
ending q w b e f = of-brace b (e ∙ ap (passes (λ c. c == 125)) (scout-moved n q.before q.ahead)) f
  where
    n : ℕ
    n = prefix_len is_ascii_hexdigit q.ahead

    of-brace : (b : Bool) → b ≡ passes (λ c. c == 125) (slice_get q.ahead n) → w ≡ (if b then moved 1 (moved n q) else moved n q) → w ≡ moved (in_braces q.ahead).len q
    of-brace true e f = moved-step n q (moved n q) w refl f ∙ ap (λ t. moved (if t then n + 1 else n) q) e
    of-brace false e f = f ∙ ap (λ t. moved (if t then n + 1 else n) q) e

-- a character in braces
pub past-braces : (p q r w : Place) (b : Bool) → true ≡ passes (λ c. c == 123) (scout 0 p) → q ≡ moved 1 p → r ≡ past is_ascii_hexdigit q
    → b ≡ passes (λ c. c == 125) (scout 0 r) → w ≡ (if b then moved 1 r else r) → w ≡ moved (code_escape p.ahead).len p
past-braces p q r w b begun e f g h =
    let inner : w ≡ moved (in_braces q.ahead).len q = ending q w b (g ∙ ap (λ x. passes (λ c. c == 125) (scout 0 x)) f) (h ∙ ap (λ x. if b then moved 1 x else x) f) in
    grind arith

-- a turn takes something
pub shorter : (n c : ℕ) (p q r : Place) → Some c ≡ scout 0 p → q ≡ moved 1 p → r ≡ moved n q → length r.ahead < length p.ahead
shorter n c p q r e f g = grind (arith, head-splits, moved-ahead, length-drop)

unescaped-drop : (n : ℕ) (cs : List ℕ) → unescaped n cs ≡ unescaped 0 (drop n cs)
unescaped-drop zero cs = refl
unescaped-drop (suc n) [] = refl
unescaped-drop (suc n) (c ∷ cs) = unescaped-drop n cs

-- at a backslash
pub unescaped-at : (p q r : Place) (c : ℕ) → Some c ≡ scout 0 p → c ≡ 92 → q ≡ moved 1 p → r ≡ moved (escape q.ahead).len q → unescaped 0 p.ahead ≡ escaped q.ahead (escape q.ahead) ++ unescaped 0 r.ahead
unescaped-at p q r c e is f g = grind (arith, head-splits, moved-ahead, unescaped-drop)
