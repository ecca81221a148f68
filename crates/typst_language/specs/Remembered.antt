-- What is remembered of first readings, and when it is true.
use Rattle.std.specs.Prelude.{◌≡◌, List, [], ◌∷◌, length}
use Rattle.typst_lines.specs.Place.{Place, moved}
use Rattle.typst_tokens.specs.Sight.{hull_of}
use Rattle.typst_tokens.specs.declared.hull.Hull.{Hull}
use Rattle.typst_language.specs.declared.calls.AfterName.{AfterName}
use Rattle.typst_language.specs.Ask.{Ask}
use Rattle.typst_language.specs.Ask.Ask.{looked, marked}
use Rattle.typst_language.specs.Bytes.{LiesIn, bytes_left}
use Rattle.typst_language.specs.Meaning.{Guess, Guessing}
use Rattle.typst_language.specs.declared.memo.Guessed.{Guessed}

-- the place at the end of a place's text
abbrev pub end_of : Place → Place
end_of z = moved (length z.ahead) z

-- all looks from a place lie in a stretch
abbrev pub LooksIn : Hull → Place → List Ask → Type 0
LooksIn u z [] = Unit {0}
LooksIn u z (looked at look ∷ asks) = LiesIn (hull_of look (moved at z)) u × LooksIn u z asks
LooksIn u z (marked at gap fewer mark s ∷ asks) = LooksIn u z asks

-- a first reading that goes on at z finds `b` after its parens, and `hull` is what was looked at
-- for it: all its looks lie in it, and it lies in each stretch that has these and what was looked
-- at for the paren
pub record Comes (g : Guess) (paren hull : Hull) (z : Place) (b : AfterName) : Type 0 where
  pub after : b ≡ g.after
  pub looks : LooksIn hull z g.asks
  pub least : (u : Hull) → LiesIn paren u → LooksIn u z g.asks → LiesIn hull u

-- what is remembered is so at each place of a text that has a given number of bytes left
abbrev pub IsSo : Guessing → Place → Guessed → Type 0
IsSo g end e = (z : Place) → end_of z ≡ end → bytes_left z ≡ e.left → Comes (g e.levels z e.outer) e.paren e.hull z e.after

-- all that is remembered is so, at each place of a text that has a given number of bytes left
abbrev pub AllSo : Guessing → Place → List Guessed → Type 0
AllSo g end [] = Unit {0}
AllSo g end (e ∷ es) = IsSo g end e × AllSo g end es

-- all that is remembered is so in the text that ends there
pub record Knows (g : Guessing) (end : Place) (es : List Guessed) : Type 0 where
  pub all : AllSo g end es
