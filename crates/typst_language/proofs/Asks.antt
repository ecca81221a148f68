-- What the code does by the token at hand.
use Rattle.typst_language.proofs.Cited.{◌≡◌, Bool, true, false, ap, sym, ◌∙◌, SyntaxKind, AtHand, as_at_hand, Level, Parser, next, pick, peek, View, Goes, Fits}
use Rattle.typst_language.proofs.Steps.{does-next, does-peek, does-pick, does-other}

-- a test of the kind at hand, by what the code found
pub found : {k h : SyntaxKind} {b r : Bool} (f : SyntaxKind → Bool) → k ≡ h → b ≡ f k → b ≡ r → f h ≡ r
found f e d t = ap f (sym e) ∙ sym d ∙ t

module _ {A : Type 0} {l : Level} {Q : View → Type 0} {p q : AtHand → Parser A} {a : A} {v w : View} {k : SyntaxKind} {b : Bool} where
  -- the test of the token at hand holds
  pub asks-yes : (f : SyntaxKind → Bool) → k ≡ v.hand.kind → b ≡ f k → b ≡ true → Goes l (Fits l) Q (p (as_at_hand v.hand)) a v w → Goes l (Fits l) Q (next peek (λ ahead. pick (f ahead.kind) (p ahead) (q ahead))) a v w
  asks-yes f e d t done = does-next (does-peek v) (does-pick (found f e d t) done)

  -- or it doesn't
  pub asks-no : (f : SyntaxKind → Bool) → k ≡ v.hand.kind → b ≡ f k → b ≡ false → Goes l (Fits l) Q (q (as_at_hand v.hand)) a v w → Goes l (Fits l) Q (next peek (λ ahead. pick (f ahead.kind) (p ahead) (q ahead))) a v w
  asks-no f e d t done = does-next (does-peek v) (does-other (found f e d t) done)
