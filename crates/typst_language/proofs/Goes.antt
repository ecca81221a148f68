-- What isn't the end.
use Rattle.typst_language.proofs.Cited.{◌≡◌, ℕ, suc, Bool, true, false, ◌==◌, if◌then◌else◌, List, [], ◌∷◌, SyntaxKind, Place, scout, passes, Reader, at_word, exec, Memory, Token, is_end}

-- what is read there isn't the end
abbrev pub Goes : Reader Memory Token → Place → Type 0
Goes r p = is_end (exec r p).0.kind ≡ false

pub goes-if : (b : Bool) (x y : Reader Memory Token) (p : Place) → Goes x p → Goes y p → Goes (if b then x else y) p
goes-if true x y p h i = h
goes-if false x y p h i = i

pub kind-if : (b : Bool) (x y : SyntaxKind) → is_end x ≡ false → is_end y ≡ false → is_end (if b then x else y) ≡ false
kind-if true x y h i = h
kind-if false x y h i = i

pub token-if : (b : Bool) (x y : Token) → is_end x.kind ≡ false → is_end y.kind ≡ false → is_end (if b then x else y).kind ≡ false
token-if true x y h i = h
token-if false x y h i = i

pub word-goes : (n : ℕ) (word : List ℕ) (x y : Reader Memory Token) (p : Place) → Goes x p → Goes y p → Goes (at_word n word x y) p
word-goes n [] x y p h i = h
word-goes n (c ∷ word) x y p h i = goes-if (passes (λ d. d == c) (scout n p)) (at_word (suc n) word x y) y p (word-goes (suc n) word x y p h i) i
