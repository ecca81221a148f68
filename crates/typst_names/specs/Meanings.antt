-- What names mean.
use Rattle.std.specs.Prelude.{ℕ, ◌+◌, ◌==◌, ◌&&◌, nat_le, nat_lt, max, Bool, true, false, List, [], ◌∷◌, ◌++◌, Option, None, Some, drop, slice_get, suc, zero, slice_range, if◌then◌else◌}
use Rattle.std.specs.Option.{option_or}
use Rattle.std.specs.Str.{bytes_eq}
use Rattle.typst_names.specs.Selections.{holds}
use Rattle.typst_names.specs.declared.parts.NameKind.{NameKind}
use Rattle.typst_names.specs.declared.parts.NameKind.TheVariants as does
use Rattle.typst_names.specs.declared.bindings.Occurrence.{Occurrence}
use Rattle.typst_names.specs.declared.bindings.OccurrenceKind.{OccurrenceKind}
use Rattle.typst_names.specs.declared.bindings.OccurrenceKind.TheVariants as stands
use Rattle.typst_names.specs.declared.scopes.Name.{Name}

-- ---- where a name stands

-- the place of the first of some names that holds byte b, where the first has the place i
abbrev pub first_holding : ℕ → ℕ → List Name → Option ℕ
first_holding b i [] = None
first_holding b i (n ∷ ns) = if holds b n.range then Some i else first_holding b (i + 1) ns

-- the place of a name, if it ends at byte b
abbrev pub if_ends : ℕ → ℕ → Name → Option ℕ
if_ends b i n = if n.range.end == b then Some i else None

-- the place of the last of some names that ends at byte b, where the first has the place i
abbrev pub last_ending : ℕ → ℕ → List Name → Option ℕ
last_ending b i [] = None
last_ending b i (n ∷ ns) = option_or (last_ending b (i + 1) ns) (if_ends b i n)

-- THE NAME AT A BYTE, by its place: the first that holds the byte, or else the last that ends there
abbrev pub name_at : List Name → ℕ → Option ℕ
name_at names b = option_or (first_holding b 0 names) (last_ending b 0 names)

-- ---- what a name is bound by

-- the bytes of a name
abbrev pub word : List ℕ → Name → List ℕ
word text n = slice_range text n.range.start n.range.end

-- a name is the word
abbrev pub is_word : List ℕ → List ℕ → Name → Bool
is_word text w n = bytes_eq (word text n) w

-- a name is used
abbrev pub is_use : NameKind → Bool
is_use does.Use = true
is_use _ = false

-- a name binds a word that it is, and the star of an import may bind any
abbrev pub binds : NameKind → Bool → Bool
binds does.Use same = false
binds does.Binding same = same
binds does.Item same = same
binds (does.Module e) same = same
binds does.Any same = true

-- up to which byte a name hides what binds the word before it: up to where its own binding holds
abbrev pub hides_up_to : List ℕ → List ℕ → Name → ℕ
hides_up_to text w n = if binds n.kind (is_word text w n) then n.until else 0

-- up to which byte one of some names hides what binds the word before them
abbrev pub hidden : List ℕ → List ℕ → List Name → ℕ
hidden text w [] = 0
hidden text w (n ∷ ns) = max (hides_up_to text w n) (hidden text w ns)

-- a name uses a word before byte u and not before byte h, up to which the word is hidden
abbrev pub means : List ℕ → List ℕ → ℕ → ℕ → Name → Bool
means text w u h n = is_use n.kind && (is_word text w n && (nat_le h n.range.start && nat_lt n.range.start u))

-- a name as an occurrence of a kind, if that holds
abbrev pub stands_if : Bool → OccurrenceKind → Name → List Occurrence
stands_if holds k n = if holds then record { kind = k; range = n.range } ∷ [] else []

-- THE USES, among some names, of what binds a word up to byte u: other names are between that and
-- these, and no name before a use hides it there
abbrev pub uses : List ℕ → List ℕ → ℕ → List Name → List Name → List Occurrence
uses text w u between [] = []
uses text w u between (n ∷ ns) = stands_if (means text w u (hidden text w between) n) stands.Use n ++ uses text w u (between ++ n ∷ []) ns

-- a name, if there is one, hides what binds the word before it, at byte b
abbrev pub hides : List ℕ → List ℕ → ℕ → Option Name → Bool
hides text w b None = false
hides text w b (Some n) = nat_lt b (hides_up_to text w n)

-- the place of the last of the first so many names that hides what binds the word before it, at
-- byte b
abbrev pub last_hiding : List ℕ → List ℕ → ℕ → List Name → ℕ → Option ℕ
last_hiding text w b names zero = None
last_hiding text w b names (suc k) = if hides text w b (slice_get names k) then Some k else last_hiding text w b names k

-- the star of an import
abbrev pub is_any : NameKind → Bool
is_any does.Any = true
is_any _ = false

-- a place, unless the name there is the star of an import
abbrev pub unless_any : Option Name → ℕ → Option ℕ
unless_any None i = None
unless_any (Some n) i = if is_any n.kind then None else Some i

-- a place, if there is one, unless the name there is the star of an import
abbrev pub at_place : List Name → Option ℕ → Option ℕ
at_place names None = None
at_place names (Some i) = unless_any (slice_get names i) i

-- the place of what a name means: of a use the last name before it that hides all before that, of a
-- binding its own; none if that is the star of an import
abbrev pub meaning : List ℕ → List Name → ℕ → Option Name → Option ℕ
meaning text names i None = None
meaning text names i (Some n) = if is_use n.kind then at_place names (last_hiding text (word text n) n.range.start names i) else at_place names (Some i)

-- THE BINDING that a name means, by its place
abbrev pub binding_of : List ℕ → List Name → ℕ → Option ℕ
binding_of text names i = meaning text names i (slice_get names i)

-- how a binding occurs
abbrev pub stands_as : NameKind → OccurrenceKind
stands_as does.Item = stands.Item
stands_as (does.Module e) = stands.Module e
stands_as _ = stands.Definition

-- a binding, and of the names after it the uses that mean it
abbrev pub with_uses : List ℕ → Option Name → List Name → List Occurrence
with_uses text None ns = []
with_uses text (Some n) ns = stands_if true (stands_as n.kind) n ++ uses text (word text n) n.until [] ns

-- the binding at a place among some names, and the uses after it that mean it
abbrev pub uses_of : List ℕ → List Name → ℕ → List Occurrence
uses_of text names i = with_uses text (slice_get names i) (drop (i + 1) names)
