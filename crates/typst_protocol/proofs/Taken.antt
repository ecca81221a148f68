-- Known bytes that are read.
use Rattle.typst_protocol.proofs.Cited.{◌≡◌, ℕ, ◌+◌, ◌<◌, ◌≤◌, List, [], ◌∷◌, ◌++◌, length, take, Option, None, Some, IfSome, Ok, Err, sym, ap, subst, ◌∙◌, arith, length-take-le, append-nil, append_assoc, add-one, set, get_or, get_or-set_other, get_or-set_same, suc, zero, ◌-◌, Consumes, IsAtEnd, Consumes-trans, before_crlf, ReadsLine, CutOff, Malformed}
use Rattle.std.proofs.lemmas.List.{drop_at, take-append-le, take-take, take_more, take_more_set}
use Rattle.typst_protocol.proofs.Lines.{crlf-none, crlf-some, line-cut, line-long, line-read}

pub reads-line : (old new : Option (List ℕ)) (line : List ℕ) (n m : ℕ) → m ≡ n + 2 → m ≤ length line → length line ≡ 1024 → Consumes old new (take m line) → before_crlf (take m line) ≡ Some n
    → IfSome old (λ bytes. ReadsLine bytes (Ok n) line new)
reads-line old new line n m sum room len taken e = grind (arith, length-take-le, line-read, take-append-le, take-take, drop_at)

pub cut-line : (old new end : Option (List ℕ)) (line held : List ℕ) (at : ℕ) → at ≤ length line → at < 1024 → Consumes old new (take at line) → Consumes new end [] → IsAtEnd end → before_crlf (take at line) ≡ None
    → IfSome old (λ bytes. ReadsLine bytes (Err CutOff) held end)
cut-line old new end line held at room short taken none at_end e = grind (arith, append-nil, line-cut, length-take-le)

pub long-line : (old new left : Option (List ℕ)) (line held : List ℕ) → length line ≡ 1024 → Consumes old new line → before_crlf line ≡ None → IfSome old (λ bytes. ReadsLine bytes (Err Malformed) held left)
long-line old new left line held len taken e = grind (arith, line-long)

joined : (line : List ℕ) (k byte : ℕ) → suc k < length line → take (suc k + 1) (set line (suc k) byte) ≡ take k line ++ get_or line k 0 ∷ byte ∷ []
joined line k byte h =
    take_more_set line (suc k) byte h
    ∙ ap (λ xs. xs ++ byte ∷ []) (ap (λ n. take n line) (sym (add-one k)) ∙ take_more line k 0 (omega arith))
    ∙ append_assoc (take k line) (get_or line k 0 ∷ []) (byte ∷ [])

before : (line : List ℕ) (k : ℕ) → suc k < length line → before_crlf (take (suc k) line) ≡ None → before_crlf (take k line ++ get_or line k 0 ∷ []) ≡ None
before line k h e = ap before_crlf (sym (ap (λ n. take n line) (sym (add-one k)) ∙ take_more line k 0 (omega arith))) ∙ e

-- a CR LF ends with the byte at an index
abbrev pub EndsAt : List ℕ → ℕ → Type 0
EndsAt line at = (0 < at) × (get_or line (at - 1) 0 ≡ 13) × (get_or line at 0 ≡ 10)

last-two : (line : List ℕ) (k byte : ℕ) → suc k < length line → (get_or (set line (suc k) byte) (suc k - 1) 0 ≡ get_or line k 0) × (get_or (set line (suc k) byte) (suc k) 0 ≡ byte)
last-two line k byte h = grind (arith, get_or-set_other, get_or-set_same)

pub line-more : (line : List ℕ) (at byte : ℕ) → at < length line → before_crlf (take at line) ≡ None → ¬ (EndsAt (set line at byte) at) → before_crlf (take (at + 1) (set line at byte)) ≡ None
line-more line zero byte h e outside = ap before_crlf (take_more_set line 0 byte h)
line-more line (suc k) byte h e outside =
    let two = last-two line k byte h in
    ap before_crlf (joined line k byte h)
    ∙ crlf-none (take k line) (get_or line k 0) byte (before line k h e) (λ cr lf. outside (omega arith, two.0 ∙ cr, two.1 ∙ lf))

pub line-found : (line : List ℕ) (at byte : ℕ) → at < length line → before_crlf (take at line) ≡ None → EndsAt (set line at byte) at → before_crlf (take (at + 1) (set line at byte)) ≡ Some (at - 1)
line-found line zero byte h e ends = absurd (omega (arith, ends.0))
line-found line (suc k) byte h e ends =
    let two = last-two line k byte h in
    let size : length (take k line) ≡ suc k - 1 = length-take-le k line (omega arith) ∙ omega arith in
    ap before_crlf (joined line k byte h)
    ∙ crlf-some (take k line) (get_or line k 0) byte (before line k h e) (sym two.0 ∙ ends.1) (sym two.1 ∙ ends.2)
    ∙ ap (λ n. Some n) size

pub line-taken : (a b c : Option (List ℕ)) (line : List ℕ) (at byte : ℕ) → at < length line → Consumes a b (take at line) → Consumes b c (byte ∷ []) → Consumes a c (take (at + 1) (set line at byte))
line-taken a b c line at byte h before one = subst (Consumes a c) (sym (take_more_set line at byte h)) (Consumes-trans a b c (take at line) (byte ∷ []) before one)
