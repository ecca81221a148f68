-- Results of a log of SARIF 2.1.0: an error or a warning of a file, with its place and its hints.
use Rattle.std.specs.Prelude.{◌≡◌, ℕ, List, [], ◌∷◌, ◌++◌, Some, codes, unwrap_or}
use Rattle.json.specs.Find.{as_str, get}
use Rattle.json.specs.Json.{Json, array}
use Rattle.json.specs.Print.{print}
use Rattle.json.specs.Token.{Token, begin_object, end_object, begin_array, end_array, key}
use Rattle.json.specs.Value.{items_of}
use Rattle.typst_report.specs.Ndjson.{count_member, text_member}
use Rattle.typst_check.specs.declared.sarif.finding.Region.{Region}
use Rattle.typst_check.specs.declared.sarif.finding.NdjsonFinding.{NdjsonFinding}
use Rattle.typst_check.specs.NdjsonFinding.{IsWrittenAs}

-- an object under its name
abbrev pub object_member : List ℕ → List Token → List Token
object_member name members = key name ∷ begin_object ∷ (members ++ end_object ∷ [])

-- a list under its name
abbrev pub list_member : List ℕ → List Token → List Token
list_member name items = key name ∷ begin_array ∷ (items ++ end_array ∷ [])

-- an object in a list
abbrev pub object_item : List Token → List Token
object_item members = begin_object ∷ (members ++ end_object ∷ [])

-- the lines and columns of a region, whose end is the place after it
abbrev pub region_members : Region → List Token
region_members r =
    count_member (codes "startLine") r.start_line ++ (count_member (codes "startColumn") r.start_column ++ (count_member (codes "endLine") r.end_line ++ count_member (codes "endColumn") r.end_column))

-- a file by its address, and a region in it
abbrev pub place_members : List ℕ → Region → List Token
place_members uri r = object_member (codes "artifactLocation") (text_member (codes "uri") uri) ++ object_member (codes "region") (region_members r)

-- a place in a file
abbrev pub place_member : List ℕ → Region → List Token
place_member uri r = object_member (codes "physicalLocation") (place_members uri r)

-- a message
abbrev pub message_member : List ℕ → List Token
message_member text = object_member (codes "message") (text_member (codes "text") text)

-- the text of a hint
abbrev pub hint_text : Json → List ℕ
hint_text hint = unwrap_or (as_str hint) []

-- a hint as a related location: it is at the place of what it belongs to
abbrev pub hint_item : List ℕ → Region → List ℕ → List Token
hint_item uri r text = object_item (place_member uri r ++ message_member text)

-- all hints
abbrev pub hint_items : List ℕ → Region → List Json → List Token
hint_items uri r [] = []
hint_items uri r (h ∷ hs) = hint_item uri r (hint_text h) ++ hint_items uri r hs

-- the members of an error or a warning of a file, by a rule: how grave it is, what it says and
-- where it is
abbrev pub finding_members : List ℕ → List ℕ → NdjsonFinding → List Token
finding_members uri rule t =
    text_member (codes "ruleId") rule ++ (text_member (codes "level") t.severity.now ++ (message_member t.message.now ++ list_member (codes "locations") (object_item (place_member uri t.region))))

-- a result: a finding, and then its hints
abbrev pub result_item : List ℕ → List ℕ → NdjsonFinding → List Json → List Token
result_item uri rule t hs = object_item (finding_members uri rule t ++ list_member (codes "relatedLocations") (hint_items uri t.region hs))

-- A RESULT of the file of that address: what a line of `ndjson` says, with its hints, by some rule
pub record IsResult (uri : List ℕ) (line : Json) (result : List Token) : Type 0 where
  pub finding : NdjsonFinding
  pub read : IsWrittenAs line finding
  pub hints : List Json
  pub listed : get (codes "hints") line ≡ Some (array (items_of hints))
  pub rule : List ℕ
  pub is : result ≡ result_item uri rule finding hints

-- tokens with a result after them
pub record WritesResult (uri : List ℕ) (line : Json) (old new : List Token) : Type 0 where
  pub result : List Token
  pub is : IsResult uri line result
  pub appended : new ≡ old ++ result

-- bytes with a result after them
pub record AppendsResult (uri : List ℕ) (line : Json) (old new : List ℕ) : Type 0 where
  pub result : List Token
  pub is : IsResult uri line result
  pub appended : new ≡ old ++ print result
