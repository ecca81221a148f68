-- What is named at a byte, and where a rename puts the new name.
use Rattle.std.specs.Prelude.{ℕ, ◌||◌, Bool, true, false, List, [], ◌∷◌, Option, None, Some, codes, map, slice_get, if◌then◌else◌}
use Rattle.std.specs.declared.ops.Range.{Range}
use Rattle.typst_tree.specs.Tree.{Tree}
use Rattle.typst_names.specs.Meanings.{binding_of, name_at, uses_of}
use Rattle.typst_names.specs.Names.{names}
use Rattle.typst_names.specs.declared.bindings.Occurrence.{Occurrence}
use Rattle.typst_names.specs.declared.bindings.OccurrenceKind.{OccurrenceKind}
use Rattle.typst_names.specs.declared.bindings.OccurrenceKind.TheVariants as stands
use Rattle.typst_names.specs.declared.scopes.Name.{Name}
use Rattle.typst_features.specs.Labels.{Mentioned, mention_at, mentions, name_range, of_name}
use Rattle.typst_features.specs.declared.naming.MentionKind.{MentionKind}
use Rattle.typst_features.specs.declared.naming.MentionKind.TheVariants as mention
use Rattle.typst_features.specs.declared.renaming.Named.{Named}
use Rattle.typst_features.specs.declared.renaming.Renamed.{Renamed}

-- ---- what is named

-- the bytes of a name, and where it is defined and used
pub record Known : Type 0 where
  pub range : Range ℕ
  pub occurrences : List Occurrence

-- one of the code
abbrev pub known : Named → Known
known n = record { range = n.range; occurrences = n.occurrences.items }

-- a label in markup defines its name, and a reference uses it
abbrev pub stands_as : MentionKind → OccurrenceKind
stands_as mention.Label = stands.Definition
stands_as mention.Reference = stands.Use

-- a mention as an occurrence of its name, without its marks
abbrev pub occurrence : Mentioned → Occurrence
occurrence m = record { kind = stands_as m.kind; range = name_range m }

-- a mention with all those of its name
abbrev pub label_known : List Mentioned → Mentioned → Known
label_known ms m = record { range = name_range m; occurrences = map occurrence (of_name m.name ms) }

-- a name, and the binding that it means with the uses that mean that; none if either is missing
abbrev pub bound_known : List ℕ → List Name → Option Name → Option ℕ → Option Known
bound_known text ns (Some n) (Some binding) = Some (record { range = n.range; occurrences = uses_of text ns binding })
bound_known text ns (Some n) None = None
bound_known text ns None binding = None

-- a name by its index among some names, with its binding and the uses; none if it has no index
abbrev pub name_known : List ℕ → List Name → Option ℕ → Option Known
name_known text ns None = None
name_known text ns (Some i) = bound_known text ns (slice_get ns i) (binding_of text ns i)

-- the label that is mentioned, or else the name at byte b
abbrev pub known_by : Tree → List ℕ → ℕ → Option Mentioned → Option Known
known_by t text b (Some m) = Some (label_known (mentions t) m)
known_by t text b None = name_known text (names t) (name_at (names t) b)

-- WHAT IS NAMED AT A BYTE of a text with this tree
abbrev pub named_at : Tree → List ℕ → ℕ → Option Known
named_at t text b = known_by t text b (mention_at t b)

-- ---- where the new name is put

-- a name is defined or bound there
abbrev pub is_bound : OccurrenceKind → Bool
is_bound stands.Use = false
is_bound _ = true

-- a name is defined or bound somewhere
abbrev pub any_bound : List Occurrence → Bool
any_bound [] = false
any_bound (o ∷ os) = is_bound o.kind || any_bound os

-- where and after which text the new name is put
pub record Put : Type 0 where
  pub range : Range ℕ
  pub before : List ℕ

-- where a rename of the code puts the new name
abbrev pub put : Renamed → Put
put r = record { range = r.range; before = r.before.now }

-- a new name that comes after ` as ` at byte e
abbrev pub put_after : ℕ → Put
put_after e = record { range = record { start = e; end = e }; before = codes " as " }

-- an item of an import keeps its name in the other file, and the new one is put after it, that of a
-- module after what it is imported from; all else gives way
abbrev pub put_as : OccurrenceKind → Range ℕ → Put
put_as stands.Item r = put_after r.end
put_as (stands.Module e) r = put_after e
put_as _ r = record { range = r; before = [] }

-- where one occurrence gets the new name
abbrev pub put_for : Occurrence → Put
put_for o = put_as o.kind o.range

-- A RENAME puts the new name wherever the name stands, if it is defined or bound somewhere
abbrev pub renames : List Occurrence → List Put
renames os = if any_bound os then map put_for os else []
