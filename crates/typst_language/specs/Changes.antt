-- What the code's changes mean.
use Rattle.std.specs.Prelude.{◌≡◌, false}
use Rattle.typst_kinds.specs.Kinds.{is_error}
use Rattle.typst_language.specs.Shape.{NodeChange}
use Rattle.typst_language.specs.Shape.NodeChange.{stays, turns_wrong, is_not, renamed, unparened}
use Rattle.typst_language.specs.declared.change.NodeChange.{NodeChange as Changed}
use Rattle.typst_language.specs.declared.change.NodeChange.TheVariants.{Stays, TurnsWrong, IsNot, Renamed, Unparened}

-- the change of the language that the code's is
abbrev pub meant : Changed → NodeChange
meant Stays = stays
meant (TurnsWrong message) = turns_wrong message.now
meant (IsNot thing) = is_not thing.now
meant (Renamed kind) = renamed kind
meant Unparened = unparened

-- a node is renamed to a kind that isn't an error
abbrev pub IsFine : Changed → Type 0
IsFine Stays = Unit {0}
IsFine (TurnsWrong message) = Unit {0}
IsFine (IsNot thing) = Unit {0}
IsFine (Renamed kind) = is_error kind ≡ false
IsFine Unparened = Unit {0}
