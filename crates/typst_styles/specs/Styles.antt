-- How what stands in a text is shown, by its tag and by what it is as a name.
use Rattle.std.specs.Prelude.{Bool, true, false, Option, None, Some, if◌then◌else◌}
use Rattle.typst_highlight.specs.declared.tags.Tag.{Tag}
use Rattle.typst_highlight.specs.declared.tags.Tag.TheVariants as tag
use Rattle.typst_styles.specs.contracts.styles.TokenKind.{the_type}
use Rattle.typst_names.specs.declared.contexts.Role.{Role}
use Rattle.typst_names.specs.declared.contexts.Role.TheVariants as is
use Rattle.typst_styles.specs.declared.styles.Style.{Style}
use Rattle.typst_styles.specs.declared.styles.TokenKind.{TokenKind}
use Rattle.typst_styles.specs.declared.styles.TokenKind.TheVariants as shown
use denote.Enum.Bare.{sameb}

-- whether a kind is the wanted one
abbrev pub same_kind : TokenKind → TokenKind → Bool
same_kind wanted kind = sameb the_type kind wanted

-- what a tag is shown as
abbrev pub tag_kind : Tag → TokenKind
tag_kind tag.Comment = shown.Comment
tag_kind tag.Keyword = shown.Keyword
tag_kind tag.Operator = shown.Operator
tag_kind tag.MathOperator = shown.Operator
tag_kind tag.Number = shown.Number
tag_kind tag.String = shown.String
tag_kind tag.Function = shown.Function
tag_kind tag.Interpolated = shown.Variable
tag_kind tag.Punctuation = shown.Punctuation
tag_kind tag.MathGroupingParens = shown.Punctuation
tag_kind tag.Escape = shown.Escape
tag_kind tag.Strong = shown.Strong
tag_kind tag.Emph = shown.Emph
tag_kind tag.Link = shown.Link
tag_kind tag.Raw = shown.Raw
tag_kind tag.Label = shown.Label
tag_kind tag.Ref = shown.Ref
tag_kind tag.Heading = shown.Heading
tag_kind tag.ListMarker = shown.Marker
tag_kind tag.ListTerm = shown.Term
tag_kind tag.MathDelimiter = shown.Delimiter
tag_kind tag.Error = shown.Error

-- the tag of a name that is called, set or shown
abbrev pub is_called : Option Tag → Bool
is_called (Some tag.Function) = true
is_called _ = false

-- what a name is shown as, by whether it is called
abbrev pub name_kind : Role → Bool → TokenKind
name_kind is.Use called = if called then shown.Function else shown.Variable
name_kind is.Field called = if called then shown.Function else shown.Property
name_kind is.Variable called = shown.Variable
name_kind is.Function called = shown.Function
name_kind is.Parameter called = shown.Parameter
name_kind is.Argument called = shown.Parameter
name_kind is.Key called = shown.Property
name_kind is.Module called = shown.Namespace
name_kind is.Alias called = shown.Namespace

-- what is bound is declared
abbrev pub declares : Role → Bool
declares is.Variable = true
declares is.Function = true
declares is.Parameter = true
declares is.Alias = true
declares _ = false

-- what a stretch with a tag is shown as, if it has one
abbrev pub tag_style : Option Tag → Option Style
tag_style None = None
tag_style (Some t) = Some (record { kind = tag_kind t; is_declaration = false })

-- HOW A STRETCH IS SHOWN: a name by what it is, all else by its tag
abbrev pub style_of : Option Tag → Option Role → Option Style
style_of t None = tag_style t
style_of t (Some role) = Some (record { kind = name_kind role (is_called t); is_declaration = declares role })
