-- Kinds, tags and flags as numbers.
use Rattle.std.specs.Prelude.{ℕ, ◌+◌, ◌-◌, ◌/◌, ◌%◌, ◌^◌, ◌==◌, nat_le, nat_lt, ◌&&◌, Option, None, Some, min, length, if◌then◌else◌}
use Rattle.typst_kinds.specs.Kinds.{is_error}
use Rattle.typst_kinds.specs.Head.{Head}
use Rattle.typst_kinds.specs.Span.{SpanValue}
use Rattle.typst_highlight.specs.declared.tags.Tag.{Tag}
use Rattle.typst_highlight.specs.declared.tags.Tag.TheVariants as tag
use Rattle.typst_highlight.specs.declared.rules.Rule.{Rule}
use Rattle.typst_highlight.specs.declared.rules.Rule.TheVariants as rule

-- at most the largest number of 32 bits
abbrev pub cut : ℕ → ℕ
cut n = min n (2 ^ 32 - 1)

-- a tag by its place among all tags, from 1 on, and no tag
abbrev pub tag_code : Option Tag → ℕ
tag_code None = 0
tag_code (Some tag.Comment) = 1
tag_code (Some tag.Punctuation) = 2
tag_code (Some tag.Escape) = 3
tag_code (Some tag.Strong) = 4
tag_code (Some tag.Emph) = 5
tag_code (Some tag.Link) = 6
tag_code (Some tag.Raw) = 7
tag_code (Some tag.Label) = 8
tag_code (Some tag.Ref) = 9
tag_code (Some tag.Heading) = 10
tag_code (Some tag.ListMarker) = 11
tag_code (Some tag.ListTerm) = 12
tag_code (Some tag.MathDelimiter) = 13
tag_code (Some tag.MathOperator) = 14
tag_code (Some tag.MathGroupingParens) = 15
tag_code (Some tag.Keyword) = 16
tag_code (Some tag.Operator) = 17
tag_code (Some tag.Number) = 18
tag_code (Some tag.String) = 19
tag_code (Some tag.Function) = 20
tag_code (Some tag.Interpolated) = 21
tag_code (Some tag.Error) = 22

-- the number of the tag of nodes of a rule, where it depends on nothing else, and 255 elsewhere
abbrev pub fixed_code : Rule → ℕ
fixed_code (rule.Fixed t) = tag_code t
fixed_code _ = 255

-- 1 for an inner node, 2 for an error, and 4 for a node with diagnostics
abbrev pub flags_of : Head → ℕ
flags_of h = (if h.is_inner then 1 else 0) + (if is_error h.kind then 2 else 0) + (if length h.diagnostics == 0 then 0 else 4)

-- the span whose file and number are packed in one number; none where no node can have them
abbrev pub span_of : ℕ → SpanValue
span_of bits =
    if nat_le 1 (bits / 2 ^ 48) && (nat_le 2 (bits % 2 ^ 48) && nat_lt (bits % 2 ^ 48) (2 ^ 47)) then Some (bits / 2 ^ 48, bits % 2 ^ 48) else None
