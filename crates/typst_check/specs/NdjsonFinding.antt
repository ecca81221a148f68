-- What a line of `ndjson`, read as JSON, says of an error or a warning.
use Rattle.std.specs.Prelude.{◌≡◌, ℕ, List, Option, Some, codes, option_and_then}
use Rattle.std.specs.Str.Parse.{digits_value, without_leading_plus}
use Rattle.json.specs.Find.{as_number, as_str, get}
use Rattle.json.specs.Json.{Json}
use Rattle.typst_check.specs.declared.sarif.finding.Region.{Region}
use Rattle.typst_check.specs.declared.sarif.finding.NdjsonFinding.{NdjsonFinding}

-- the text of that name in an object
abbrev pub text_of : List ℕ → Json → Option (List ℕ)
text_of name line = option_and_then as_str (get name line)

-- the number that the digits of that name write, in an object
pub record IsNumberOf (name : List ℕ) (place : Json) (n : ℕ) : Type 0 where
  pub digits : List ℕ
  pub written : option_and_then as_number (get name place) ≡ Some digits
  pub value : n ≡ digits_value 10 (without_leading_plus digits)

-- the number of that name in a place of the line
pub record IsNumberIn (edge name : List ℕ) (line : Json) (n : ℕ) : Type 0 where
  pub place : Json
  pub found : get edge line ≡ Some place
  pub number : IsNumberOf name place n

-- the region between the places where it begins and ends
pub record IsRegionOf (line : Json) (r : Region) : Type 0 where
  pub start_line : IsNumberIn (codes "start") (codes "line") line r.start_line
  pub start_column : IsNumberIn (codes "start") (codes "utf16_column") line r.start_column
  pub end_line : IsNumberIn (codes "end") (codes "line") line r.end_line
  pub end_column : IsNumberIn (codes "end") (codes "utf16_column") line r.end_column

-- a line says how grave a finding is, what it says, and where it is
pub record IsWrittenAs (line : Json) (t : NdjsonFinding) : Type 0 where
  pub severity : text_of (codes "severity") line ≡ Some t.severity.now
  pub message : text_of (codes "message") line ≡ Some t.message.now
  pub region : IsRegionOf line t.region
