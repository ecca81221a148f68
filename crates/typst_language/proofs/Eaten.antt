-- Parsers that take the token at hand, whatever it is.
use Rattle.typst_language.proofs.Cited.{◌<◌, Place, Point, Parser, Level, hand_of, run}

-- where the token at hand has characters, some are taken
abbrev pub Eats : {A : Type 0} → Level → Parser A → Type 0
Eats l p = (z : Place) (s : Point) → 0 < (hand_of l z s).len → 0 < (run l p z s).taken
