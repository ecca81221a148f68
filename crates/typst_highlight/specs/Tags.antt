-- Tags, and what editors and style sheets call them.
use Rattle.std.specs.Prelude.{ℕ, List, [], ◌∷◌, codes}
use Rattle.typst_highlight.specs.declared.tags.Tag.{Tag}
use Rattle.typst_highlight.specs.declared.tags.Tag.TheVariants as tag

-- all tags, in the order of their definition
abbrev pub all_tags : List Tag
all_tags =
    tag.Comment ∷ tag.Punctuation ∷ tag.Escape ∷ tag.Strong ∷ tag.Emph ∷ tag.Link ∷ tag.Raw ∷ tag.Label ∷ tag.Ref ∷ tag.Heading ∷ tag.ListMarker ∷ tag.ListTerm ∷ tag.MathDelimiter ∷ tag.MathOperator ∷ tag.MathGroupingParens ∷ tag.Keyword ∷ tag.Operator ∷ tag.Number ∷ tag.String ∷ tag.Function ∷ tag.Interpolated ∷ tag.Error ∷ []

-- the TextMate scope of each tag
abbrev pub scope_of : Tag → List ℕ
scope_of tag.Comment = codes "comment.typst"
scope_of tag.Punctuation = codes "punctuation.typst"
scope_of tag.Escape = codes "constant.character.escape.typst"
scope_of tag.Strong = codes "markup.bold.typst"
scope_of tag.Emph = codes "markup.italic.typst"
scope_of tag.Link = codes "markup.underline.link.typst"
scope_of tag.Raw = codes "markup.raw.typst"
scope_of tag.Label = codes "entity.name.label.typst"
scope_of tag.Ref = codes "markup.other.reference.typst"
scope_of tag.Heading = codes "markup.heading.typst"
scope_of tag.ListMarker = codes "punctuation.definition.list.typst"
scope_of tag.ListTerm = codes "markup.list.term.typst"
scope_of tag.MathDelimiter = codes "punctuation.definition.math.typst"
scope_of tag.MathOperator = codes "keyword.operator.math.typst"
scope_of tag.MathGroupingParens = codes "punctuation.math.typst"
scope_of tag.Keyword = codes "keyword.typst"
scope_of tag.Operator = codes "keyword.operator.typst"
scope_of tag.Number = codes "constant.numeric.typst"
scope_of tag.String = codes "string.quoted.double.typst"
scope_of tag.Function = codes "entity.name.function.typst"
scope_of tag.Interpolated = codes "meta.interpolation.typst"
scope_of tag.Error = codes "invalid.typst"

-- the class of each tag's spans in HTML
abbrev pub class_of : Tag → List ℕ
class_of tag.Comment = codes "typ-comment"
class_of tag.Punctuation = codes "typ-punct"
class_of tag.Escape = codes "typ-escape"
class_of tag.Strong = codes "typ-strong"
class_of tag.Emph = codes "typ-emph"
class_of tag.Link = codes "typ-link"
class_of tag.Raw = codes "typ-raw"
class_of tag.Label = codes "typ-label"
class_of tag.Ref = codes "typ-ref"
class_of tag.Heading = codes "typ-heading"
class_of tag.ListMarker = codes "typ-marker"
class_of tag.ListTerm = codes "typ-term"
class_of tag.MathDelimiter = codes "typ-math-delim"
class_of tag.MathOperator = codes "typ-math-op"
class_of tag.MathGroupingParens = codes "typ-math-group"
class_of tag.Keyword = codes "typ-key"
class_of tag.Operator = codes "typ-op"
class_of tag.Number = codes "typ-num"
class_of tag.String = codes "typ-str"
class_of tag.Function = codes "typ-func"
class_of tag.Interpolated = codes "typ-pol"
class_of tag.Error = codes "typ-error"
