-- Where a token is the end, and how many characters another takes.
use Rattle.typst_language.proofs.Cited.{◌≡◌, ◌<◌, ℕ, zero, suc, Bool, true, false, ◌&&◌, ◌==◌, if◌then◌else◌, List, [], ◌∷◌, take, Some, refl, ap, sym, ◌∙◌, arith, Option, SyntaxKind, SyntaxMode, is_space, CharClasses, line_ends, is_parbreak, whitespace, shebang, line_comment, block_comment, comment_end, sign, answer, of_mode, hash, slash, star, backtick, token, Token, on, is_end, token_node, Reading, token_at, len_at, at_trivia, Ahead, after_trivia, direct, ahead_by, ahead, ahead_of, hand_at, Trivia, Memory, dot, marker_or_text, marker, hyphen, minus, emphasis, heading, numbering, markup, blank, comment, fence, brackets, quoted, text, text_from, label, is_id_continue, Continue}
use Rattle.typst_kinds.specs.declared.kind.SyntaxKind.TheVariants as kind
use Rattle.typst_lines.specs.Place.{Place, scout, passes, moved, run, past}
use Rattle.typst_tokens.specs.Reader.{Reader, place, spanned}
use Rattle.typst_tokens.specs.Link.{in_link, link_end, link, link_or_text}
use Rattle.typst_tokens.specs.Names.{label_or_text, ref_marker, ref_or_text}
use Rattle.typst_tokens.specs.Raw.{raw}
use Rattle.typst_tokens.specs.Token.{plain}
use Rattle.typst_lexer.proofs.TokenEats.{token-eats}
use Rattle.typst_language.proofs.Places.{moved-sum}
use Rattle.typst_language.proofs.Goes.{Goes, goes-if, kind-if, word-goes}
use Rattle.typst_language.proofs.CodeEnds.{code-goes}
use Rattle.typst_language.proofs.MathEnds.{backslash-goes, math-goes}
pub use Rattle.typst_language.proofs.Trivia.{hand-known as hand-again}

text-goes : (k : CharClasses) (p : Place) → Goes (text k) p
unfolding text
text-goes k p = refl

abbrev ends : CharClasses → SyntaxKind → Bool → Reader Memory Token
ends k s b = if b then answer (plain s) else text k

ends-goes : (k : CharClasses) (s : SyntaxKind) (p : Place) → is_end s ≡ false → (b : Bool) → Goes (ends k s b) p
ends-goes k s p h b = goes-if b (answer (plain s)) (text k) p h (text-goes k p)

marker-goes : (k : CharClasses) (s : SyntaxKind) (p : Place) → is_end s ≡ false → Goes (marker_or_text k s) p
unfolding marker_or_text
marker-goes k s p h = grind (arith, goes-if, ends-goes)

dot-goes : (k : CharClasses) (p : Place) → Goes (dot k) p
unfolding dot
dot-goes k p = grind (arith, goes-if, text-goes)

minus-goes : (k : CharClasses) (p : Place) → Goes (minus k) p
unfolding minus hyphen
minus-goes k p = grind (arith, goes-if, marker-goes)

emphasis-goes : (k : CharClasses) (s : SyntaxKind) (p : Place) → is_end s ≡ false → Goes (emphasis k s) p
unfolding emphasis sign text_from
emphasis-goes k s p h = grind (arith, goes-if, text-goes)

heading-goes : (k : CharClasses) (p : Place) → Goes (heading k) p
unfolding heading
heading-goes k p = marker-goes k kind.HeadingMarker (past (λ c. c == 61) p) refl

numbering-goes : (k : CharClasses) (p : Place) → Goes (numbering k) p
unfolding numbering
numbering-goes k p = grind (arith, goes-if, marker-goes, text-goes)

link-end-goes : (m : Memory) → is_end (link_end m).kind ≡ false
link-end-goes blank = refl
link-end-goes (comment a b) = refl
link-end-goes (fence a b) = refl
link-end-goes (brackets []) = refl
link-end-goes (brackets (c ∷ cs)) = refl
link-end-goes (quoted e) = refl

link-goes : (p : Place) → Goes link p
unfolding link
link-goes p = link-end-goes (spanned in_link (brackets []) p.before p.ahead).1

link-or-text-goes : (k : CharClasses) (p : Place) → Goes (link_or_text k) p
unfolding link_or_text
link-or-text-goes k p = grind (arith, word-goes, link-goes, text-goes)

label-goes : (k : CharClasses) (p : Place) → Goes (label_or_text k) p
unfolding label_or_text label text_from
label-goes k p = grind (arith, goes-if, text-goes)

ref-goes : (k : CharClasses) (p : Place) → Goes (ref_or_text k) p
unfolding ref_or_text ref_marker text_from
ref-goes k p = goes-if (passes (is_id_continue k) (scout 1 p)) _ _ p refl (text-goes k (moved 1 p))

raw-goes : (p : Place) → Goes raw p
unfolding raw
raw-goes p = grind arith

markup-goes : (k : CharClasses) (c : ℕ) (p : Place) → Goes (markup k c) p
unfolding markup sign marker text_from
markup-goes k c p = grind (arith, goes-if, backslash-goes, link-or-text-goes, label-goes, ref-goes, dot-goes, minus-goes, emphasis-goes, heading-goes, marker-goes, numbering-goes, text-goes)

mode-goes : (k : CharClasses) (m : SyntaxMode) (c d : ℕ) (p : Place) → scout 0 p ≡ Some d → Goes (of_mode k m c) p
unfolding of_mode
mode-goes k m c d p e = grind (arith, markup-goes, math-goes, code-goes)

hash-goes : (k : CharClasses) (m : SyntaxMode) (d : ℕ) (p : Place) → scout 0 p ≡ Some d → Goes (hash k m) p
unfolding hash shebang
hash-goes k m d p e = grind (arith, goes-if, mode-goes)

slash-goes : (k : CharClasses) (m : SyntaxMode) (d : ℕ) (p : Place) → scout 0 p ≡ Some d → Goes (slash k m) p
unfolding slash line_comment block_comment
slash-goes k m d p e = grind (arith, goes-if, mode-goes)

star-goes : (k : CharClasses) (m : SyntaxMode) (d : ℕ) (p : Place) → scout 0 p ≡ Some d → Goes (star k m) p
unfolding star comment_end
star-goes k m d p e = goes-if (passes (λ d. d == 47) (scout 1 p)) _ _ p refl (mode-goes k m 42 d p e)

tick-goes : (k : CharClasses) (m : SyntaxMode) (d : ℕ) (p : Place) → scout 0 p ≡ Some d → Goes (backtick k m) p
unfolding backtick
tick-goes k m d p e = grind (arith, raw-goes, mode-goes)

space-goes : (m : SyntaxMode) (p : Place) → Goes (whitespace m) p
unfolding whitespace
space-goes m p = kind-if (is_parbreak m (line_ends false (run (is_space m) p))) kind.Parbreak kind.Space refl refl

-- where a character is ahead, the token isn't the end
token-goes : (k : CharClasses) (m : SyntaxMode) (b : List ℕ) (c : ℕ) (a : List ℕ) → Goes (token k m) (place b (c ∷ a))
unfolding token
token-goes k m b c a =
    let p = place b (c ∷ a) in
    goes-if (is_space m c) _ _ p (space-goes m p) (goes-if (c == 35) _ _ p (hash-goes k m c p refl) (goes-if (c == 47) _ _ p (slash-goes k m c p refl) (goes-if (c == 42) _ _ p (star-goes k m c p refl) (goes-if (c == 96) _ _ p (tick-goes k m c p refl) (mode-goes k m c c p refl)))))

ends-at : (k : CharClasses) (m : SyntaxMode) (b a : List ℕ) → is_end (token_at k m (place b a)).kind ≡ true → a ≡ []
ends-at k m b [] h = refl
ends-at k m b (c ∷ a) h = let g = token-goes k m b c a in absurd (cc)

-- no character is ahead of the end
pub token-ends : (k : CharClasses) (m : SyntaxMode) (z : Place) → is_end (token_at k m z).kind ≡ true → z.ahead ≡ []
token-ends k m z h = ends-at k m z.before z.ahead h

none-left : (k : CharClasses) (m : SyntaxMode) (b : List ℕ) → is_end (token_at k m (place b [])).kind ≡ true
unfolding token
none-left k m b = refl

takes-at : (k : CharClasses) (m : SyntaxMode) (b a : List ℕ) → is_end (token_at k m (place b a)).kind ≡ false → 0 < len_at k m (place b a)
takes-at k m b (c ∷ a) h = let e = token-eats k m (place b (c ∷ a)) refl in omega (arith, e)
takes-at k m b [] h = let e = none-left k m b in absurd (cc)

-- another token takes a character
pub token-takes : (k : CharClasses) (m : SyntaxMode) (z : Place) → is_end (token_at k m z).kind ≡ false → 0 < len_at k m z
token-takes k m z h = takes-at k m z.before z.ahead h

-- ---- the token at hand

abbrev Read : CharClasses → SyntaxMode → Place → Ahead → Type 0
Read k m z a = (a.token ≡ token_at k m (moved a.gap z)) × (a.len ≡ len_at k m (moved a.gap z))

-- the token after the trivia is the one that stands there
pub ahead-read : (k : CharClasses) (m : SyntaxMode) (n : ℕ) (z : Place) → Read k m z (ahead_by k m n z)
ahead-read k m zero z = (refl, refl)
ahead-read k m (suc n) z =
    let t = token_at k m z in
    let l = len_at k m z in
    let rest = ahead_by k m n (moved l z) in
    let r = ahead-read k m n (moved l z) in
    let e = sym (moved-sum l rest.gap z) in
    on (Read k m z) (at_trivia k m z) (after_trivia t l (token_node k t (take l z.ahead)) rest) (direct t l)
    (r.0 ∙ ap (token_at k m) e, r.1 ∙ ap (len_at k m) e) (refl, refl)

end-judged : (b : Bool) (t : SyntaxKind) → is_end (if b then kind.End else t) ≡ false → is_end t ≡ false
end-judged true t h = cc
end-judged false t h = h

end-continues : (any : Bool) (t : SyntaxKind) → is_end (if any && false then kind.End else t) ≡ true → is_end t ≡ true
end-continues true t h = h
end-continues false t h = h

-- the token at hand after its trivia, whether these are known or not
abbrev After : CharClasses → SyntaxMode → Option Trivia → Place → Type 0
After k m known z = Read k m z (ahead_of k m known z)

ahead_of-read : (k : CharClasses) (m : SyntaxMode) (known : Option Trivia) (z : Place) → After k m known z
unfolding ahead
ahead_of-read k m known z = grind (arith, ahead-read)

-- a token at hand that isn't the end takes a character
pub hand-takes : (k : CharClasses) (held : Reading) (known : Option Trivia) (z : Place) → is_end (hand_at k held known z).kind ≡ false → 0 < (hand_at k held known z).len
unfolding hand_at
hand-takes k held known z h = grind (arith, ahead_of-read, end-judged, token-takes)

-- where newlines don't matter, nothing is after the end
pub hand-ends : (k : CharClasses) (m : SyntaxMode) (known : Option Trivia) (z : Place)
    → is_end (hand_at k (record { mode = m; at_newline = Continue }) known z).kind ≡ true → (moved (hand_at k (record { mode = m; at_newline = Continue }) known z).gap z).ahead ≡ []
unfolding hand_at
hand-ends k m known z h = grind (arith, ahead_of-read, token-ends, end-continues)
