-- What the code reads by what a token begins.
use Rattle.typst_code.proofs.Cited.{◌≡◌, Bool, Option, sym, subst, Level, Shape, View, Does, code_by, tail_by, CodeTail}
use Rattle.typst_code.specs.declared.heads.CodeHead.{CodeHead}

pub at-head : {l : Level} (atomic : Bool) (h i : CodeHead) {old new : View} → h ≡ i → Does l (code_by atomic i) tt old new → Does l (code_by atomic h) tt old new
at-head {l = l} atomic h i {old = old} {new = new} e d = subst (λ (x : CodeHead). Does l (code_by atomic x) tt old new) (sym e) d

pub at-tail : {l : Level} (h i : CodeTail) {a : Option Shape × Unit {0}} {old new : View} → h ≡ i → Does l (tail_by i) a old new → Does l (tail_by h) a old new
at-tail {l = l} h i {a = a} {old = old} {new = new} e d = subst (λ (x : CodeTail). Does l (tail_by x) a old new) (sym e) d
