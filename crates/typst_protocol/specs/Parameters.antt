-- What the parameters of a message say.
use Rattle.std.specs.Prelude.{◌≡◌, ℕ, ℤ, pos, List, [], ◌∷◌, codes, MatchResult, Result, Bool, true, false, ◌||◌, is_some, if◌then◌else◌, Float, Option, None, Some, option_map, option_and_then, unwrap_or}
use Rattle.std.specs.Float.{binary64, float_to_signed, float_to_unsigned}
use Rattle.std.specs.Float.Ieee.{eq, of_int}
use Rattle.std.specs.Int.{w32}
use Rattle.std.specs.Option.{option_map_or, option_or}
use Rattle.std.specs.Str.{bytes_eq}
use Rattle.serde_json.specs.Data.{Data, null, boolean, number, string, array, object, Num, unsigned, negative, float, Items, no_items, item}
use Rattle.serde_json.specs.Find.{get, as_str, as_bool, as_number, as_i64, as_array, as_object}
use Rattle.serde_json.specs.View.{view}
use Rattle.typst_positions.specs.declared.columns.Encoding.{Encoding}
use Rattle.typst_positions.specs.declared.columns.Encoding.TheVariants.{Utf8, Utf16}
use Rattle.typst_positions.specs.declared.positions.Position.{Position}
use Rattle.typst_protocol.specs.Methods.{named}
use Rattle.typst_protocol.specs.declared.refusal.Refusal.{Refusal}
use Rattle.typst_protocol.specs.declared.refusal.Refusal.TheVariants.{BadParameters}
use Rattle.typst_protocol.specs.declared.params.Params.{Params}
use Rattle.typst_protocol.specs.declared.params.Stretch.{Stretch}
use Rattle.typst_protocol.specs.declared.params.Change.{Change}
use Rattle.typst_protocol.specs.declared.params.Change.TheVariants as change

-- the value of the parameters, if there is one
abbrev pub seen : Params → Option Data
seen p = option_map (λ v. view v.now) p.value

-- the parameters of a message
abbrev pub params : Data → Option Data
params message = get (codes "params") message

-- a member
abbrev pub member : List ℕ → Option Data → Option Data
member name value = option_and_then (get name) value

-- a member that is a text
abbrev pub text_in : List ℕ → Option Data → Option (List ℕ)
text_in name value = option_and_then as_str (member name value)

-- a float without a fraction is the whole number that it equals
abbrev pub equals : Float → ℤ → Bool
equals x n = eq x (of_int binary64 n)

-- the whole number that a float equals, if it is from 0 on and takes 32 bits at most, as those of the protocol do
abbrev pub whole_count : Float → Option ℕ
whole_count x = let n = float_to_unsigned w32 x in if equals x (pos n) then Some n else None

-- the whole number that a float equals, if it takes 32 bits at most with its sign
abbrev pub whole_number : Float → Option ℤ
whole_number x = let n = float_to_signed w32 x in if equals x n then Some n else None

-- the count that a number is
abbrev pub count_of : Num → Option ℕ
count_of (unsigned n) = Some n
count_of (negative z) = None
count_of (float x) = whole_count x

-- the integer that a number is
abbrev pub integer_of : Num → Option ℤ
integer_of (unsigned n) = as_i64 (unsigned n)
integer_of (negative z) = Some z
integer_of (float x) = whole_number x

-- a whole number from 0 on
abbrev pub count : Data → Option ℕ
count value = option_and_then count_of (as_number value)

-- a member that is one
abbrev pub count_in : List ℕ → Data → Option ℕ
count_in name value = option_and_then count (get name value)

-- the document that parameters speak of
abbrev pub document : Option Data → Option Data
document params = member (codes "textDocument") params

-- the address of the document
abbrev pub uri : Option Data → Option (List ℕ)
uri params = text_in (codes "uri") (document params)

-- the whole text of the document
abbrev pub whole_text : Option Data → Option (List ℕ)
whole_text params = text_in (codes "text") (document params)

-- a position has a line and a character
abbrev pub position : Data → Option Position
position value = option_and_then (λ line. option_map (λ column. record { line = line; column = column }) (count_in (codes "character") value)) (count_in (codes "line") value)

-- the position that parameters name
abbrev pub position_in : Option Data → Option Position
position_in value = option_and_then position (member (codes "position") value)

-- the list of positions that parameters name
abbrev pub positions : Option Data → Option Items
positions value = option_and_then as_array (member (codes "positions") value)

-- a stretch has two positions
abbrev pub stretch : Data → Option Stretch
stretch value = option_and_then (λ start. option_map (λ end. record { start = start; end = end }) (option_and_then position (get (codes "end") value))) (option_and_then position (get (codes "start") value))

-- the stretch that parameters name
abbrev pub stretch_in : Option Data → Option Stretch
stretch_in value = option_and_then stretch (member (codes "range") value)

-- the version of the document
abbrev pub version : Option Data → Option ℤ
version value = option_and_then integer_of (option_and_then as_number (member (codes "version") (document value)))

-- the changes of the document's text
abbrev pub changes : Option Data → Option Items
changes value = option_and_then as_array (member (codes "contentChanges") value)

-- the name of the tokens from which changes are wanted
abbrev pub previous_tokens : Option Data → Option (List ℕ)
previous_tokens value = text_in (codes "previousResultId") value

-- the name to put in the place of another one
abbrev pub new_name : Option Data → Option (List ℕ)
new_name value = text_in (codes "newName") value

-- the character that was typed
abbrev pub typed : Option Data → Option (List ℕ)
typed value = text_in (codes "ch") value

-- what names are to contain that are looked for
abbrev pub query : Option Data → Option (List ℕ)
query value = text_in (codes "query") value

-- whether a value is true
abbrev pub is_true : Option Data → Bool
is_true value = unwrap_or (option_and_then as_bool value) false

-- whether the label is wanted among the references
abbrev pub includes_label : Option Data → Bool
includes_label value = is_true (member (codes "includeDeclaration") (member (codes "context") value))

-- what the client says that it can do about a subject
abbrev pub capabilities : List ℕ → Option Data → Option Data
capabilities subject value = member subject (member (codes "capabilities") value)

-- what it says of a kind of request about documents
abbrev pub feature : List ℕ → Option Data → Option Data
feature name value = member name (capabilities (codes "textDocument") value)

-- whether the client takes an outline as a tree
abbrev pub takes_trees : Option Data → Bool
takes_trees value = is_true (member (codes "hierarchicalDocumentSymbolSupport") (feature (codes "documentSymbol") value))

-- whether the client asks whether a name can be renamed before it renames it
abbrev pub prepares_renames : Option Data → Bool
prepares_renames value = is_true (member (codes "prepareSupport") (feature (codes "rename") value))

-- whether a value is an object
abbrev pub is_object : Option Data → Bool
is_object value = is_some (option_and_then as_object value)

-- whether the client takes what can be done about a stretch as edits
abbrev pub takes_actions : Option Data → Bool
takes_actions value = is_object (member (codes "codeActionLiteralSupport") (feature (codes "codeAction") value))

-- whether the client asks for errors and warnings by itself
abbrev pub asks_diagnostics : Option Data → Bool
asks_diagnostics value = is_object (feature (codes "diagnostic") value)

-- what the client says of folding
abbrev pub folding : Option Data → Option Data
folding value = feature (codes "foldingRange") value

-- whether the client folds whole lines alone
abbrev pub folds_lines : Option Data → Bool
folds_lines value = is_true (member (codes "lineFoldingOnly") (folding value))

-- how many stretches to fold the client wants of a document at most
abbrev pub range_limit : Option Data → Option ℕ
range_limit value = option_and_then count (member (codes "rangeLimit") (folding value))

-- an encoding has a name
abbrev pub encoding_named : List ℕ → Option Encoding
encoding_named name = named ((codes "utf-8", Utf8) ∷ (codes "utf-16", Utf16) ∷ []) name

-- the first of the names that names an encoding counts
abbrev pub first_encoding : Items → Option Encoding
first_encoding no_items = None
first_encoding (item name names) = option_or (option_and_then encoding_named (as_str name)) (first_encoding names)

-- UTF-16 where the client offers no encoding that there is
abbrev pub encoding : Option Data → Encoding
encoding value = unwrap_or (option_and_then first_encoding (option_and_then as_array (member (codes "positionEncodings") (capabilities (codes "general") value)))) Utf16

-- a change of a text
pub data Edit : Type 0 where
  -- the text is this one now
  whole : List ℕ → Edit
  -- a text takes the place of a stretch
  ranged : Stretch → List ℕ → Edit

-- `null` stands for no value
abbrev pub unless_null : Data → Option Data
unless_null null = None
unless_null (boolean b) = Some (boolean b)
unless_null (number n) = Some (number n)
unless_null (string s) = Some (string s)
unless_null (array ds) = Some (array ds)
unless_null (object ms) = Some (object ms)

-- a kind of actions covers quick fixes if it is theirs, or the empty one, which covers all
abbrev pub covers_fixes : List ℕ → Bool
covers_fixes kind = bytes_eq kind (codes "quickfix") || bytes_eq kind []

-- one of the kinds covers quick fixes
abbrev pub any_covers : Items → Bool
any_covers no_items = false
any_covers (item kind kinds) = option_map_or covers_fixes (as_str kind) false || any_covers kinds

-- all actions are wanted where no kinds are named
abbrev pub covered : Option Data → Option Bool
covered None = Some true
covered (Some kinds) = option_map any_covers (as_array kinds)

-- whether quick fixes are wanted in a context, which lists problems
abbrev pub fixes_in : Data → Option Bool
fixes_in context = option_and_then (λ problems. covered (option_and_then unless_null (get (codes "only") context))) (option_and_then as_array (get (codes "diagnostics") context))

-- whether quick fixes are wanted among what can be done
abbrev pub wants_fixes : Option Data → Option Bool
wants_fixes value = option_and_then fixes_in (member (codes "context") value)

-- a text takes the place of the range that a change names, and of all where it names none
abbrev pub edit_of : Option Data → List ℕ → Option Edit
edit_of None text = Some (whole text)
edit_of (Some range) text = option_map (λ place. ranged place text) (stretch range)

-- a change has a text
abbrev pub edit : Data → Option Edit
edit value = option_and_then (edit_of (option_and_then unless_null (get (codes "range") value))) (option_and_then as_str (get (codes "text") value))

-- the change that one of the code is
abbrev pub edit_in : Change → Edit
edit_in (change.Whole text) = whole text.now
edit_in (change.Ranged place text) = ranged place text.now

-- what is looked for is found, or refused where there is none
abbrev pub Finds : {A B : Type 0} → (A → B) → Option B → Result A Refusal → Type 0
Finds seen wanted result = MatchResult result (λ found. wanted ≡ Some (seen found)) (λ refusal. (refusal ≡ BadParameters) × (wanted ≡ None))
