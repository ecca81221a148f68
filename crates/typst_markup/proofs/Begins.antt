-- What the code reads by what a token begins.
use Rattle.typst_markup.proofs.Cited.{◌≡◌, Option, sym, subst, Level, Shape, View, Does, math_by, tail_by, CharClasses}
use Rattle.typst_language.specs.declared.calls.ChainSet.{ChainSet}
use Rattle.typst_markup.specs.declared.math_heads.Callee.{Callee}
use Rattle.typst_markup.specs.declared.math_heads.MathHead.{MathHead}
use Rattle.typst_markup.specs.declared.math_heads.MathTail.{MathTail}

pub at-head : {l : Level} (k : CharClasses) (h i : MathHead) {a : Callee} {old new : View} → h ≡ i → Does l (math_by k i) a old new → Does l (math_by k h) a old new
at-head {l = l} k h i {a = a} {old = old} {new = new} e d = subst (λ (x : MathHead). Does l (math_by k x) a old new) (sym e) d

pub at-tail : {l : Level} (stops : ChainSet) (h i : MathTail) {a : Option Shape × Callee} {old new : View} → h ≡ i → Does l (tail_by stops i) a old new → Does l (tail_by stops h) a old new
at-tail {l = l} stops h i {a = a} {old = old} {new = new} e d = subst (λ (x : MathTail). Does l (tail_by stops x) a old new) (sym e) d
