-- Tests that the code asks the other way round.
use Rattle.std.proofs.Common.{◌≡◌, Bool, true, false, not, sym, ◌∙◌}
use Rattle.std.proofs.lemmas.Bool.{not-true, not-false}

pub is-not : {b x : Bool} → b ≡ not x → b ≡ true → x ≡ false
is-not {x = x} e t = not-true x (sym e ∙ t)

pub is-so : {b x : Bool} → b ≡ not x → b ≡ false → x ≡ true
is-so {x = x} e t = not-false x (sym e ∙ t)
