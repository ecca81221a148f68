-- The findings of a text, with their places.
use Rattle.std.specs.Prelude.{◌≡◌, ℕ, List, map}
use Rattle.std.specs.List.{All}
use Rattle.typst_report.specs.declared.located.Located.{Located}
use Rattle.typst_report.specs.declared.place.LineColumn.{LineColumn}
use Rattle.typst_report.specs.Found.{as_reported}
use Rattle.typst_report.specs.Places.{IsPlaceOf}
use Rattle.typst_report.specs.Reported.{Reported}

-- a finding, and the places where it begins and ends
pub record Placed : Type 0 where
  pub reported : Reported
  pub start : LineColumn
  pub end : LineColumn

-- a finding of the code, with its places
abbrev pub as_placed : Located → Placed
as_placed l = record { reported = as_reported l.finding; start = l.start; end = l.end }

-- the places are those of the finding's bytes
pub record IsPlaced (text : List ℕ) (p : Placed) : Type 0 where
  pub start : IsPlaceOf text p.reported.start p.start
  pub end : IsPlaceOf text p.reported.end p.end

-- findings, in their order, each with its places
pub record ArePlaced (text : List ℕ) (reported : List Reported) (placed : List Placed) : Type 0 where
  pub same : map (λ p. p.reported) placed ≡ reported
  pub places : All (IsPlaced text) placed
