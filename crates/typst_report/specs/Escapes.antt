-- Texts in which some characters are written otherwise.
use Rattle.std.specs.Prelude.{ℕ, ◌==◌, List, [], ◌∷◌, ◌++◌, Option, None, Some, codes, encode_utf8, unwrap_or, if◌then◌else◌}
use Rattle.typst_lines.specs.Newline.{is_newline}
use Rattle.typst_report.specs.declared.escape.Target.{Target}
use Rattle.typst_report.specs.declared.escape.Target.TheVariants as target

-- in a message of a workflow command a percent sign, a carriage return and a line feed are written by their numbers
abbrev pub in_message : ℕ → Option (List ℕ)
in_message c =
    if c == 37 then Some (codes "%25") else
    if c == 13 then Some (codes "%0D") else
    if c == 10 then Some (codes "%0A") else None

-- in a property a colon and a comma, too
abbrev pub in_property : ℕ → Option (List ℕ)
in_property c =
    if c == 58 then Some (codes "%3A") else
    if c == 44 then Some (codes "%2C") else in_message c

-- in HTML an entity stands for each of & < > ' and "
abbrev pub in_html : ℕ → Option (List ℕ)
in_html c =
    if c == 38 then Some (codes "&amp;") else
    if c == 60 then Some (codes "&lt;") else
    if c == 62 then Some (codes "&gt;") else
    if c == 39 then Some (codes "&#39;") else
    if c == 34 then Some (codes "&quot;") else None

-- what is written in place of a character, by what its text becomes a part of
abbrev pub instead : Target → ℕ → Option (List ℕ)
instead target.Line c = if is_newline c then Some (codes " ") else None
instead target.Message c = in_message c
instead target.Property c = in_property c
instead target.Html c = in_html c

-- a character as bytes, by what its text becomes a part of
abbrev pub escaped_char : Target → ℕ → List ℕ
escaped_char t c = unwrap_or (instead t c) (encode_utf8 c)

-- characters as bytes, by what their text becomes a part of
abbrev pub escaped : Target → List ℕ → List ℕ
escaped t [] = []
escaped t (c ∷ cs) = escaped_char t c ++ escaped t cs
