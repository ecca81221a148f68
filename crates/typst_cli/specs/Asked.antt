-- What the program's words ask for.
use Rattle.std.specs.Prelude.{ℕ, ◌^◌, Bool, ◌&&◌, nat_lt, List, [], ◌∷◌, length, codes, Option, Some, None, option_map, option_and_then, if◌then◌else◌}
use Rattle.std.specs.Str.{all_ascii_digits, bytes_eq}
use Rattle.std.specs.Str.Parse.{digits_value}
use Rattle.std.specs.declared.ops.Range.{Range}
use Rattle.typst_cli.specs.Printed.{command_named}
use Rattle.typst_cli.specs.declared.command.Command.{Command}
use Rattle.typst_cli.specs.declared.edit.Edit.{Edit}
use Rattle.typst_cli.specs.declared.request.Request as code
use Rattle.typst_cli.specs.declared.request.Request.TheVariants as request

-- an answer about the text, or an edit that puts another text in the place of a range of bytes
pub data Asked : Type 0 where
  about : Command → Asked
  edits : Range ℕ → List ℕ → Asked

-- the number that one or more decimal digits write, if it fits 64 bits
abbrev pub number_named : List ℕ → Option ℕ
number_named word =
    if nat_lt 0 (length word) && all_ascii_digits word && nat_lt (digits_value 10 word) (2 ^ 64) then Some (digits_value 10 word) else None

-- the range with these ends
abbrev pub range_from : ℕ → ℕ → Range ℕ
range_from start end = record { start = start; end = end }

-- the edit that four words name: the word `edit`, where the range starts, where it ends, and the text to be put there
abbrev pub edit_named : List ℕ → List ℕ → List ℕ → List ℕ → Option Asked
edit_named word start end with_text =
    if bytes_eq word (codes "edit")
    then option_and_then (λ a. option_map (λ b. edits (range_from a b) with_text) (number_named end)) (number_named start)
    else None

-- what words ask for
abbrev pub asked_by : List (List ℕ) → Option Asked
asked_by (word ∷ []) = option_map about (command_named word)
asked_by (word ∷ start ∷ end ∷ with_text ∷ []) = edit_named word start end with_text
asked_by _ = None

-- the range of an edit of the code
abbrev pub range_in : Edit → Range ℕ
range_in e = range_from e.start e.end

-- what a request of the code asks for
abbrev pub asked_in : code.Request → Asked
asked_in (request.About command) = about command
asked_in (request.Edits edit) = edits (range_in edit) edit.with_text.now
