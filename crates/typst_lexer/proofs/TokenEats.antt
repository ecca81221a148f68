-- A token takes at least one character, unless it is the end.
use Rattle.typst_lexer.proofs.Cited.{◌≡◌, ◌≤◌, ℕ, true, if◌then◌else◌, ◌==◌, ap, ◌∙◌, arith, Some, nat_tests, IsSome, Place, scout, is_space, CharClasses, whitespace, shebang, line_comment, block_comment, comment_end, Reader, eaten, of_mode, hash, slash, star, backtick, token, Token, Memory, SyntaxMode, raw, some-ahead, run-ahead, line-eats}
use Rattle.typst_tokens.proofs.CodeEats.{code-eats}
use Rattle.typst_tokens.proofs.MarkupEats.{markup-eats}
use Rattle.typst_lexer.proofs.Eats.{math-eats}

mode-eats : (c : ℕ) (p : Place) (e : scout 0 p ≡ Some c) (k : CharClasses) (mode : SyntaxMode) → 1 ≤ eaten (of_mode k mode c) p
unfolding of_mode
mode-eats c p e k mode = grind (arith, markup-eats, math-eats, code-eats)

-- the mode's own token at a character that is known
own-eats : (k : CharClasses) (mode : SyntaxMode) (c d : ℕ) (p : Place) → scout 0 p ≡ Some c → (c == d) ≡ true → 1 ≤ eaten (of_mode k mode d) p
own-eats k mode c d p e t = let same : c ≡ d = grind (arith, nat_tests) in mode-eats d p (e ∙ ap Some same) k mode

hash-eats : (k : CharClasses) (mode : SyntaxMode) (c : ℕ) (p : Place) → scout 0 p ≡ Some c → (c == 35) ≡ true → 1 ≤ eaten (hash k mode) p
unfolding hash shebang
hash-eats k mode c p e t = grind (arith, line-eats, own-eats)

slash-eats : (k : CharClasses) (mode : SyntaxMode) (c : ℕ) (p : Place) → scout 0 p ≡ Some c → (c == 47) ≡ true → 1 ≤ eaten (slash k mode) p
unfolding slash line_comment block_comment
slash-eats k mode c p e t = grind (arith, line-eats, some-ahead, own-eats)

star-eats : (k : CharClasses) (mode : SyntaxMode) (c : ℕ) (p : Place) → scout 0 p ≡ Some c → (c == 42) ≡ true → 1 ≤ eaten (star k mode) p
unfolding star comment_end
star-eats k mode c p e t = grind (arith, some-ahead, own-eats)

tick-eats : (k : CharClasses) (mode : SyntaxMode) (c : ℕ) (p : Place) → scout 0 p ≡ Some c → (c == 96) ≡ true → 1 ≤ eaten (backtick k mode) p
unfolding backtick raw
tick-eats k mode c p e t = grind (arith, line-eats, own-eats)

abbrev token_from : CharClasses → SyntaxMode → ℕ → Reader Memory Token
token_from k mode c =
    if is_space mode c then whitespace mode
    else (if c == 35 then hash k mode
    else (if c == 47 then slash k mode
    else (if c == 42 then star k mode
    else (if c == 96 then backtick k mode
    else of_mode k mode c))))

from-eats : (k : CharClasses) (mode : SyntaxMode) (c : ℕ) (p : Place) → scout 0 p ≡ Some c → 1 ≤ eaten (token_from k mode c) p
unfolding whitespace
from-eats k mode c p e = grind (arith, run-ahead, hash-eats, slash-eats, star-eats, tick-eats, mode-eats)

pub token-eats : (k : CharClasses) (mode : SyntaxMode) (p : Place) → IsSome (scout 0 p) → 1 ≤ eaten (token k mode) p
unfolding token
token-eats k mode p some = grind (arith, from-eats)
