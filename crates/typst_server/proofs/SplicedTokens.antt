-- The tokens outside of a window, as they are shown in the new text.
use Rattle.typst_server.proofs.Cited.{◌≡◌, ℕ, ◌+◌, ◌-◌, ◌^◌, ◌<◌, ◌≤◌, List, [], ◌∷◌, ◌++◌, length, map, take, get_or, refl, ap, sym, ◌∙◌, arith, end_of, moved, Token, position_of, Encoding, Shown, number_of, modifiers_of, shown, shown_each, AllBefore, AllFrom, Between}
use Rattle.typst_server.proofs.SamePlaces.{SameBehind, first_line, follows, lines_to, same_place}
use Rattle.typst_server.proofs.SplicedNumbers.{down}

pub shown-append : (e : Encoding) (text : List ℕ) (xs ys : List Token) → shown_each e text (xs ++ ys) ≡ shown_each e text xs ++ shown_each e text ys
shown-append e text [] ys = refl
shown-append e text (t ∷ xs) ys = ap (λ ss. shown e text t ∷ ss) (shown-append e text xs ys)

-- tokens before a line's start up to which two texts are the same
pub front-shown : (e : Encoding) (t u : List ℕ) (a : ℕ) → take a t ≡ take a u → 0 < a → get_or t (a - 1) 0 ≡ 10 → a ≤ length t → a ≤ length u → a ≤ 2 ^ 64 - 1 → (ts : List Token) → AllBefore a ts → shown_each e t ts ≡ shown_each e u ts
front-shown e t u a same some feed few too counted [] w = refl
front-shown e t u a same some feed few too counted (x ∷ ts) w =
    let ends = w.0 in
    let from : position_of e t x.start ≡ position_of e u x.start = same_place t u a same some feed few too e x.start (omega (arith, ends)) in
    let to : position_of e t (end_of x) ≡ position_of e u (end_of x) = same_place t u a same some feed few too e (end_of x) (omega (arith, ends, counted)) in
    let rest = front-shown e t u a same some feed few too counted ts w.1 in
    λ i. (let s : Shown = record { line = (from i).line; column = (from i).column; size = (to i).column - (from i).column; kind = number_of x.style.kind; modifiers = modifiers_of x.style.is_declaration } in s) ∷ rest i

-- one token behind
one-behind : (e : Encoding) (t u : List ℕ) (b c m n : ℕ) (w : SameBehind t u b c) (x : Token) → c + m ≡ b + n → m ≤ b → b ≤ x.start → x.start + x.len ≤ length t → length t ≤ 2 ^ 64 - 1 → length u ≤ 2 ^ 64 - 1 → length u + b ≡ length t + c
    → shown e u (moved m n x) ≡ down (lines_to t (b - 1)) (lines_to u (c - 1)) (shown e t x)
one-behind e t u b c m n w x by low from ends few few_too long =
    let k : ℕ = x.start - b in
    let l : ℕ = end_of x - b in
    let here : x.start ≡ b + k = omega (arith, from) in
    let there : (moved m n x).start ≡ c + k = omega (arith, from, by, low) in
    let last : end_of x ≡ b + l = omega (arith, from, ends, few) in
    let moved_last : end_of (moved m n x) ≡ c + l = omega (arith, from, ends, few, few_too, long, by, low) in
    let one = follows t u b c w e k (omega (arith, from, ends)) (omega (arith, from, ends, long)) in
    let two = follows t u b c w e l (omega (arith, ends, few, from)) (omega (arith, ends, few, from, long)) in
    let line_low = first_line t u b c w e k (omega (arith, from, ends)) in
    let lines : (position_of e u (c + k)).line ≡ (position_of e t (b + k)).line - lines_to t (b - 1) + lines_to u (c - 1) = omega (arith, one.line, line_low) in
    let first : (position_of e u (moved m n x).start).line ≡ (position_of e t x.start).line - lines_to t (b - 1) + lines_to u (c - 1) =
    ap (λ z. (position_of e u z).line) there ∙ (lines ∙ ap (λ z. (position_of e t z).line - lines_to t (b - 1) + lines_to u (c - 1)) (sym here)) in
    let second : (position_of e u (moved m n x).start).column ≡ (position_of e t x.start).column = ap (λ z. (position_of e u z).column) there ∙ (one.column ∙ ap (λ z. (position_of e t z).column) (sym here)) in
    let third : (position_of e u (end_of (moved m n x))).column ≡ (position_of e t (end_of x)).column = ap (λ z. (position_of e u z).column) moved_last ∙ (two.column ∙ ap (λ z. (position_of e t z).column) (sym last)) in
    λ i. record { line = first i; column = second i; size = third i - second i; kind = number_of x.style.kind; modifiers = modifiers_of x.style.is_declaration }

-- tokens behind a line's start from which on two texts are the same
pub back-shown : (e : Encoding) (t u : List ℕ) (b c m n : ℕ) → SameBehind t u b c → c + m ≡ b + n → m ≤ b → length t ≤ 2 ^ 64 - 1 → length u ≤ 2 ^ 64 - 1 → length u + b ≡ length t + c → (ts : List Token) → AllFrom b ts → Between 0 (length t) ts
    → shown_each e u (map (moved m n) ts) ≡ map (down (lines_to t (b - 1)) (lines_to u (c - 1))) (shown_each e t ts)
back-shown e t u b c m n w by low few few_too long [] v q = refl
back-shown e t u b c m n w by low few few_too long (x ∷ ts) v q =
    grind (arith, one-behind e t u b c m n w x by low v.0 q.0.1 few few_too long, back-shown e t u b c m n w by low few few_too long ts v.1 q.1)
