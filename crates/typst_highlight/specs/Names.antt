-- The tag of a name, by what is around it.
use Rattle.std.specs.Prelude.{ℕ, ◌==◌, Bool, false, ◌&&◌, ◌||◌, Option, None, Some, if◌then◌else◌}
use Rattle.typst_kinds.specs.declared.kind.SyntaxKind.{SyntaxKind}
use Rattle.typst_highlight.specs.declared.tags.Tag.{Tag}
use Rattle.typst_highlight.specs.declared.tags.Tag.TheVariants as tag
use Rattle.typst_highlight.specs.declared.context.Ahead.{Ahead}
use Rattle.typst_highlight.specs.declared.context.Surroundings.{Surroundings}
use Rattle.typst_highlight.specs.Rules.{is_math_name, is_show_rule, is_colon, is_hash, begins_arguments}

-- the first of two tags, if there is one
abbrev pub first_tag : Option Tag → Option Tag → Option Tag
first_tag None t = t
first_tag (Some u) t = Some u

-- arguments or content begin where a name ends, by the next leaf
abbrev pub is_called : ℕ → Option Ahead → Bool
is_called end None = false
is_called end (Some leaf) = (leaf.offset == end) && begins_arguments leaf.kind leaf.parent

abbrev pub kind_ahead : Option Ahead → Option SyntaxKind
kind_ahead None = None
kind_ahead (Some leaf) = Some leaf.kind

-- a name of a show rule, directly before or after its colon
abbrev pub is_shown : Surroundings → Bool
is_shown s = is_show_rule s.around && (is_colon (kind_ahead s.next) || is_colon s.before)

-- the tag of a name that needs no name before it: of a function, or of what code puts into markup or an equation
abbrev pub name_alone : Surroundings → Option Tag
name_alone s =
    if is_called s.end s.next then Some tag.Function else
    if is_math_name s.kind then Some tag.Interpolated else
    if is_shown s then Some tag.Function else
    if is_hash s.lead then Some tag.Interpolated else None
