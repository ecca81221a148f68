-- First readings, which leave what stood before them.
use Rattle.typst_code.proofs.Cited.{◌≡◌, false, refl, at_newline, Level, entered, run, View, Fits, group, as_group, is_end, node, within, Begins, begins-gives, begins-peek, begins-scoped, begins-then, begins-wraps}
use Rattle.typst_language.specs.declared.reading.AtNewline.TheVariants as newline
use Rattle.typst_language.specs.Sound.{Sound}
use Rattle.typst_bindings.proofs.PatternFirsts.{begins-some}

fits-in-parens : {l : Level} {v : View} → Fits l v → Fits l (record v { state = entered (at_newline newline.Continue v.state.reading) v.state })
fits-in-parens c = record { known = c.known; hand = c.hand; own = c.own; here = c.here; there = c.there; log = c.log; knows = c.knows }

begins-group : {l : Level} {v : View} → Sound l → Fits l v → is_end v.hand.kind ≡ false → Begins l group v
unfolding group node within run
begins-group sound c e = begins-gives (begins-peek c (begins-gives (begins-wraps c (begins-then (begins-scoped (begins-some sound (fits-in-parens c) e)) refl))))

-- a group may be given up
pub begins-as_group : {l : Level} {v : View} → Sound l → Fits l v → is_end v.hand.kind ≡ false → Begins l as_group v
unfolding as_group run
begins-as_group sound c e = begins-then (begins-group sound c e) refl
