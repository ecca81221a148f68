-- What the code of markup reads by what an expression begins with.
use Rattle.typst_markup.proofs.Cited.{◌≡◌, ℕ, sym, subst, Level, View, Does, markup_by}
use Rattle.typst_markup.specs.declared.head.MarkupHead.{MarkupHead}

pub at-head : {l : Level} (n : ℕ) (h i : MarkupHead) {a : ℕ} {old new : View} → h ≡ i → Does l (markup_by n i) a old new → Does l (markup_by n h) a old new
at-head {l = l} n h i {a = a} {old = old} {new = new} e d = subst (λ (x : MarkupHead). Does l (markup_by n x) a old new) (sym e) d
