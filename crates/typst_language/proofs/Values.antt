-- How the code of a production composes.
use Rattle.typst_language.proofs.Cited.{◌≡◌, sym, subst, arith, Reading, Level, entered, Parser, within, View, Goes, Does, Left}
use Rattle.typst_language.proofs.Steps.{does-within}

-- what is equal to the answer is the answer
pub does-value : {A : Type 0} {l : Level} {P Q : View → Type 0} {p : Parser A} {a b : A} {old new : View} → b ≡ a → Goes l P Q p a old new → Goes l P Q p b old new
does-value {A = A} {l = l} {P = P} {Q = Q} {p = p} {old = old} {new = new} e d = subst (λ (x : A). Goes l P Q p x old new) (sym e) d

-- the code entered a reading, and left it
pub does-entered : {A : Type 0} {l : Level} (f : Reading → Reading) {p : Parser A} {a : A} {outer : Reading} {old inner mid new : View}
    → inner ≡ record old { state = entered (f old.state.reading) old.state } → Does l p a inner mid → outer ≡ old.state.reading → Left l outer mid new → Does l (within f p) a old new
does-entered {l = l} f {p = p} {a = a} {old = old} {mid = mid} {new = new} e d o t = grind (arith, does-within)
