-- Line ends in whitespace, character by character.
use Rattle.typst_tokens.proofs.Cited.{◌≡◌, ◌≤◌, ℕ, suc, Bool, false, not, ◌&&◌, ◌==◌, if◌then◌else◌, List, [], ◌∷◌, length, slice_index_or, refl, sym, ap, arith, Some, None, length-le-encodes, encodes-chars, chars, IsUtf8, head-splits, Place, place_at, moved, scout, line_ends, place-end, is_newline}

pub line_ends-le : (b : Bool) (cs : List ℕ) → line_ends b cs ≤ length cs
unfolding line_ends
line_ends-le b [] = omega arith
line_ends-le b (c ∷ cs) = grind (arith, line_ends-le (c == 13) cs)

-- the line ends ahead, as the next character shows them
pub line_ends-step : (b : Bool) (p : Place) (c : ℕ) → Some c ≡ scout 0 p
    → line_ends b p.ahead ≡ (if is_newline c && not (b && c == 10) then suc (line_ends (c == 13) (moved 1 p).ahead) else line_ends (c == 13) (moved 1 p).ahead)
unfolding line_ends
line_ends-step b p c e = let s = head-splits p.ahead c (sym e) in rw s.1 refl

pub line_ends-stop : (b : Bool) (p : Place) → None ≡ scout 0 p → line_ends b p.ahead ≡ 0
unfolding line_ends
line_ends-stop b p e = rw (place-end p e) refl

pub line_ends-start : (text : List ℕ) → line_ends false (place_at text 0).ahead ≡ line_ends false (chars text)
unfolding place_at
line_ends-start text = refl

pub line_ends-fit : (text : List ℕ) → IsUtf8 text → line_ends false (chars text) ≤ length text
line_ends-fit text u = omega (arith, line_ends-le false (chars text), length-le-encodes (chars text), ap length (encodes-chars text u))

-- no line ends in one space
pub one-space : (bs : List ℕ) → length bs ≡ 1 → slice_index_or bs 0 0 ≡ 32 → 0 ≡ line_ends false (chars bs)
unfolding line_ends chars
one-space bs l e = grind arith
