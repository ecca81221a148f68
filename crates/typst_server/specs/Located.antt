-- Where answers say that something stands in a document.
use Rattle.std.specs.Prelude.{◌≡◌, ⊤, ℕ, List, [], ◌∷◌}
use Rattle.std.specs.declared.ops.Range.{Range}
use Rattle.typst_protocol.specs.Bodies.{IsJsonOf}
use Rattle.typst_protocol.specs.Written.{WritesHighlight, WritesLocation}
use Rattle.typst_protocol.specs.declared.values.Extent.{Extent}
use Rattle.typst_protocol.specs.declared.values.Highlight.{Highlight}
use Rattle.typst_protocol.specs.declared.values.Location.{Location}
use Rattle.serde.specs.Event.{WritesSeq}
use Rattle.typst_document.specs.Document.{Opened}
use Rattle.typst_document.specs.Places.{IsPlaceOf}

-- there is one for each range, in the same order
abbrev pub AreAt : {A : Type 0} → (Range ℕ → A → Type 0) → List (Range ℕ) → List A → Type 0
AreAt Is [] [] = ⊤
AreAt Is (range ∷ ranges) (x ∷ xs) = Is range x × AreAt Is ranges xs
AreAt Is _ _ = ⊥

-- an extent is that of some bytes of a document
pub record IsExtentOf (document : Opened) (range : Range ℕ) (extent : Extent) : Type 0 where
  pub start : IsPlaceOf document range.start extent.start
  pub end : IsPlaceOf document range.end extent.end

-- a location is some bytes of a document under its address
pub record IsLocationOf (document : Opened) (uri : List ℕ) (range : Range ℕ) (location : Location) : Type 0 where
  pub named : location.uri.now ≡ uri
  pub extent : IsExtentOf document range location.range

-- a highlight is some bytes of a document
abbrev pub IsHighlightOf : Opened → Range ℕ → Highlight → Type 0
IsHighlightOf document range highlight = IsExtentOf document range highlight.range

-- a text is the JSON of the locations of some ranges of a document
pub record TellsLocations (document : Opened) (uri : List ℕ) (ranges : List (Range ℕ)) (text : List ℕ) : Type 0 where
  pub locations : List Location
  pub located : AreAt (IsLocationOf document uri) ranges locations
  pub json : IsJsonOf (WritesSeq WritesLocation locations) text

-- a text is the JSON of highlights of some ranges of a document
pub record TellsHighlights (document : Opened) (ranges : List (Range ℕ)) (text : List ℕ) : Type 0 where
  pub highlights : List Highlight
  pub located : AreAt (IsHighlightOf document) ranges highlights
  pub json : IsJsonOf (WritesSeq WritesHighlight highlights) text
