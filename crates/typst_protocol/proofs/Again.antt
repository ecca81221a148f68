-- What was written is read again.
use Rattle.typst_protocol.proofs.Cited.{◌≡◌, ℕ, ◌+◌, ◌-◌, ◌^◌, ◌<◌, ◌≤◌, Bool, true, false, ◌&&◌, ◌==◌, not, cond, List, [], ◌∷◌, ◌++◌, length, get_or, take, drop, None, Some, Ok, refl, sym, ap, ◌∙◌, arith, nat_lt, lt-ltb, append_assoc, length-append, and_left, and_right, ne_eqb, or_from, all_ascii_digits, Has, ◌>>=◌, before_crlf, body, frame, head, line_len, written, is_blank, length_after, number, trimmed, unled, Clean, digit_at, digit_from_value, AllDigits, digits_value, codes, decimal}
use Rattle.std.specs.List.{AllByRecursion, flat_map}
use Rattle.std.proofs.lemmas.Fmt.{decimal_is_IsNumeral, length-decimal-le}
use Rattle.std.proofs.lemmas.List.{drop_at, get_or-reverse, length-reverse, reverse-reverse, take_at}
use Rattle.typst_protocol.proofs.Heads.{body_whole, frame_some, head-end, head-more}
use Rattle.typst_protocol.proofs.Lines.{line-read, then_some}
use Rattle.typst_protocol.proofs.Numbers.{own}

-- ---- a line without CR

abbrev no_return : List ℕ → Bool
no_return [] = true
no_return (c ∷ cs) = not (c == 13) && no_return cs

not-return : (t : Bool) (rest : Bool) → (not t && rest) ≡ true → (t ≡ false) × (rest ≡ true)
not-return t rest e = grind arith

crlf-behind : (xs ys : List ℕ) → no_return xs ≡ true → before_crlf (xs ++ 13 ∷ 10 ∷ ys) ≡ Some (length xs)
crlf-behind [] ys e = refl
crlf-behind (c ∷ []) ys e = then_some (c == 13 && 13 == 10) (Some 0) 0 1 (and_right (c == 13) (13 == 10) refl) refl (omega arith)
crlf-behind (c ∷ d ∷ xs) ys e =
    let p = not-return (c == 13) (no_return (d ∷ xs)) e in
    then_some (c == 13 && d == 10) (before_crlf (d ∷ xs ++ 13 ∷ 10 ∷ ys)) (length (d ∷ xs)) (length (c ∷ d ∷ xs)) (and_left (c == 13) (d == 10) p.0) (crlf-behind (d ∷ xs) ys p.1) (omega arith)

digits-plain : (ds : List ℕ) → AllDigits 10 ds → no_return ds ≡ true
digits-plain [] all = refl
digits-plain (d ∷ ds) all =
    let digit = digit_from_value d all.0 in
    ap (λ b. not b && no_return ds) (ne_eqb d 13 (λ e. omega (arith, digit.0))) ∙ digits-plain ds all.1

-- ---- a number behind a blank

no-blank : (c : ℕ) → 48 ≤ c → is_blank c ≡ false
no-blank c h = or_from (c == 32) (c == 9) (ne_eqb c 32 (λ e. omega arith)) (ne_eqb c 9 (λ e. omega arith))

unled-digits : (ds : List ℕ) → (0 < length ds → 48 ≤ get_or ds 0 0) → unled ds ≡ ds
unled-digits [] h = refl
unled-digits (d ∷ ds) h = ap (λ b. cond b (unled ds) (d ∷ ds)) (no-blank d (h (omega arith)))

trimmed-digits : (ds : List ℕ) → AllDigits 10 ds → trimmed (32 ∷ ds) ≡ ds
trimmed-digits ds all = grind (arith, unled-digits, digit_at, length-reverse, get_or-reverse, reverse-reverse)

number-digits : (ds : List ℕ) (n : ℕ) → 0 < length ds → AllDigits 10 ds → digits_value 10 ds ≡ n → n < 2 ^ 64 → number ds ≡ Some n
number-digits ds n some all value fits =
    let small : digits_value 10 ds < 2 ^ 64 = omega (arith, value) in
    ap (λ b. cond (b && all_ascii_digits ds && nat_lt (digits_value 10 ds) (2 ^ 64)) (Some (digits_value 10 ds)) None) (lt-ltb 0 (length ds) some)
    ∙ ap (λ b. cond (b && nat_lt (digits_value 10 ds) (2 ^ 64)) (Some (digits_value 10 ds)) None) (own.from ds all)
    ∙ ap (λ b. cond b (Some (digits_value 10 ds)) None) (lt-ltb (digits_value 10 ds) (2 ^ 64) small)
    ∙ ap (λ k. Some k) value

abbrev name : List ℕ
name = codes "Content-Length: "

line-length : (ds : List ℕ) (n : ℕ) → 0 < length ds → AllDigits 10 ds → digits_value 10 ds ≡ n → n < 2 ^ 64 → length_after (name ++ ds) None ≡ Some (Some n)
line-length ds n some all value fits = grind (arith, cond, lt-ltb, length-append, trimmed-digits, number-digits)

-- ---- a frame

read-back : (ds b rest : List ℕ) → 0 < length ds → length ds ≤ 20 → AllDigits 10 ds → digits_value 10 ds ≡ length b → length b < 2 ^ 64 → frame (name ++ ds ++ codes "\r\n\r\n" ++ b ++ rest) ≡ Ok (b, rest)
read-back ds b rest some short all value fits =
    let line : List ℕ = name ++ ds in
    let tail : List ℕ = 13 ∷ 10 ∷ (b ++ rest) in
    let n : ℕ = length b in
    let bytes : List ℕ = line ++ 13 ∷ 10 ∷ [] ++ tail in
    let is : name ++ ds ++ codes "\r\n\r\n" ++ b ++ rest ≡ bytes =
    append_assoc (line ++ codes "\r\n\r\n") b rest ∙ append_assoc line (codes "\r\n\r\n") (b ++ rest) ∙ sym (append_assoc line (13 ∷ 10 ∷ []) tail) in
    let long : length (line ++ 13 ∷ 10 ∷ []) ≡ length line + 2 = length-append line (13 ∷ 10 ∷ []) in
    let size : length line ≡ 16 + length ds = length-append name ds in
    let whole : length bytes ≡ length (line ++ 13 ∷ 10 ∷ []) + length tail = length-append (line ++ 13 ∷ 10 ∷ []) tail in
    let read : line_len bytes ≡ Ok (length line) = line-read (line ++ 13 ∷ 10 ∷ []) tail (length line) (omega arith) (crlf-behind line [] (digits-plain ds all)) in
    let front : take (length line) bytes ≡ line = ap (take (length line)) (append_assoc line (13 ∷ 10 ∷ []) tail) ∙ take_at line (13 ∷ 10 ∷ [] ++ tail) (length line) refl in
    let back : drop (length line + 2) bytes ≡ tail = drop_at (line ++ 13 ∷ 10 ∷ []) tail (length line + 2) long in
    let told : length_after (take (length line) bytes) None ≡ Some (Some n) = ap (λ l. length_after l None) front ∙ line-length ds n some all value fits in
    let empty : line_len tail ≡ Ok 0 = line-read (13 ∷ 10 ∷ []) (b ++ rest) 0 (omega arith) refl in
    ap frame is
    ∙ frame_some bytes (sym (ne_eqb (length bytes) 0 (λ e. omega arith)))
    ∙ ap (λ r. r >>= body) (head-more 63 (length line) None (Some n) bytes read (λ e. omega arith) told ∙ ap (head 63 (Some n)) back ∙ head-end 62 n tail empty)
    ∙ body_whole b rest n refl

pub frame-again : (b rest : List ℕ) → length b < 2 ^ 64 → frame (written b ++ rest) ≡ Ok (b, rest)
frame-again b rest fits =
    let d = decimal_is_IsNumeral (length b) fits in
    read-back (decimal (length b)) b rest d.0.0 (length-decimal-le 20 (length b) (omega arith) (omega arith) fits) d.0.1 d.1 fits

pub all-again : (bodies : List (List ℕ)) → AllByRecursion (λ b. length b < 2 ^ 64) bodies → Has (flat_map written bodies) bodies Clean
unfolding frame
all-again [] fits = refl
all-again (b ∷ bodies) fits = (flat_map written bodies, frame-again b (flat_map written bodies) fits.0, all-again bodies fits.1)
