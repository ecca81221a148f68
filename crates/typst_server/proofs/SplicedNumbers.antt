-- The numbers of tokens where some of these gave way to others, and those after them moved down.
use Rattle.typst_server.proofs.Cited.{◌≡◌, ℕ, ◌+◌, ◌-◌, ◌*◌, ◌≤◌, List, [], ◌∷◌, ◌++◌, length, map, refl, ap, sym, ◌∙◌, arith, append_assoc, length-append, Shown, encoded, five}

-- the line and the column of the last of some tokens, behind one at a line and a column
abbrev pub last_line : ℕ → List Shown → ℕ
last_line line [] = line
last_line line (s ∷ ss) = last_line s.line ss

abbrev pub last_column : ℕ → List Shown → ℕ
last_column column [] = column
last_column column (s ∷ ss) = last_column s.column ss

pub encoded-append : (line column : ℕ) (xs ys : List Shown) → encoded line column (xs ++ ys) ≡ encoded line column xs ++ encoded (last_line line xs) (last_column column xs) ys
encoded-append line column [] ys = refl
encoded-append line column (s ∷ xs) ys =
    ap (λ ns. five line column s ++ ns) (encoded-append s.line s.column xs ys) ∙ sym (append_assoc (five line column s) (encoded s.line s.column xs) (encoded (last_line s.line xs) (last_column s.column xs) ys))

-- there are five for each
pub encoded-length : (line column : ℕ) (xs : List Shown) → length (encoded line column xs) ≡ 5 * length xs
encoded-length line column [] = omega arith
encoded-length line column (s ∷ xs) = omega (arith, length-append (five line column s) (encoded s.line s.column xs), encoded-length s.line s.column xs)

-- a token in another line, which is as far behind line n as its own is behind line m
abbrev pub down : ℕ → ℕ → Shown → Shown
down m n s = record s { line = s.line - m + n }

-- each is in a line or behind it
abbrev pub AllFrom : ℕ → List Shown → Type 0
AllFrom m [] = Unit {0}
AllFrom m (s ∷ ss) = (m ≤ s.line) × AllFrom m ss

five_down : (m n line here column : ℕ) (s : Shown) → m ≤ s.line → m ≤ line → here + m ≡ line + n → five here column (down m n s) ≡ five line column s
five_down m n line here column s l k e = grind arith

pub encoded-down : (m n line here column : ℕ) (ss : List Shown) → m ≤ line → here + m ≡ line + n → AllFrom m ss → encoded here column (map (down m n) ss) ≡ encoded line column ss
encoded-down m n line here column [] k e w = refl
encoded-down m n line here column (s ∷ ss) k e w =
    let low = w.0 in
    let first = five_down m n line here column s low k e in
    let rest = encoded-down m n s.line (s.line - m + n) s.column ss low (omega (arith, low)) w.1 in
    λ i. first i ++ rest i
