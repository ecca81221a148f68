-- Groups, arrays and dictionaries.
use Rattle.std.specs.Prelude.{ℕ, Bool, true, false, not, ◌||◌, ◌&&◌, if◌then◌else◌, List, [], ◌++◌, Option, Some, None, is_some, codes}
use Rattle.typst_kinds.specs.Kinds.{same, is_terminator}
use Rattle.typst_kinds.specs.declared.kind.SyntaxKind.{SyntaxKind}
use Rattle.typst_kinds.specs.declared.kind.SyntaxKind.TheVariants as kind
use Rattle.typst_language.specs.declared.reading.AtNewline.TheVariants as newline
use Rattle.typst_language.specs.Shape.{NodeChange, Shape, becomes, encloses}
use Rattle.typst_language.specs.Shape.NodeChange.{stays, turns_wrong, is_not}
use Rattle.typst_language.specs.Shape.Shape.{keeps, holds}
use Rattle.typst_language.specs.Syntax.{Parser, ◌>>=◌, ◌>>◌}
use Rattle.typst_language.specs.Syntax.Parser.{gives, pick, repeat}
use Rattle.typst_language.specs.Steps.{peek, eat, eat_if, unexpected, within, node}
use Rattle.typst_language.specs.Expected.{seeing}
use Rattle.typst_markup.specs.Markup.{at_newline}
use Rattle.typst_markup.specs.Starts.{begins_code}
use Rattle.typst_code.specs.declared.listing.ParenItems.{ParenItems}
use Rattle.typst_markup.specs.declared.keys.Key.{Key}
use Rattle.typst_markup.specs.declared.keys.Key.TheVariants as key
use Rattle.typst_markup.specs.Keys.{key_of}
use Rattle.typst_kinds.specs.SeenNames.{has_name, with_name}
use Rattle.typst_bindings.specs.Parts.{code_expression, separator}

-- ---- what lists have in common

-- an item begins with an expression, or with two dots
abbrev pub begins_item : SyntaxKind → Bool
begins_item k = same kind.Dots k || begins_code k

-- `..` and an expression
unfoldable pub spread : Parser (Unit {0})
spread = node (λ _. becomes kind.Spread) (eat >> code_expression)

-- an expression, and after a colon another one, which makes them a pair; answers what the first of
-- a pair is as its key
unfoldable pub pair : Parser (Option Key)
pair = do
  first ← seeing code_expression
  ahead ← peek
  pick (same kind.Colon ahead.kind) (eat >> code_expression >> gives (Some (key_of first.1))) (gives None)

-- ---- items of arrays and dictionaries

-- a key that was seen becomes an error
abbrev pub when_seen : List (List ℕ) → List ℕ → NodeChange
when_seen keys key = if has_name keys key then turns_wrong (codes "duplicate key: " ++ key) else stays

-- what is done to the key of a pair
abbrev pub key_change : List (List ℕ) → Key → NodeChange
key_change keys (key.Name name) = when_seen keys name
key_change keys (key.Str text) = when_seen keys text
key_change keys key.Other = stays

-- the kind of a pair, by its key: a name, or another one
abbrev pub pair_kind : Key → SyntaxKind
pair_kind (key.Name name) = kind.Named
pair_kind (key.Str text) = kind.Keyed
pair_kind key.Other = kind.Keyed

-- an item with a key becomes a pair
abbrev pub item_shape : List (List ℕ) → Option Key → Shape
item_shape keys None = keeps stays
item_shape keys (Some key) = holds (key_change keys key) (pair_kind key)

-- what is done to an item that doesn't fit the others: a pair in an array becomes an error, and so
-- does what isn't a pair in a dictionary
abbrev pub misfit : Option Bool → Bool → NodeChange
misfit None is_pair = stays
misfit (Some true) is_pair = if is_pair then stays else is_not (codes "named or keyed pair")
misfit (Some false) is_pair = if is_pair then is_not (codes "expression") else stays

-- the keys that were seen, with this one
abbrev pub with_key : List (List ℕ) → Key → List (List ℕ)
with_key keys (key.Name name) = with_name keys name
with_key keys (key.Str text) = with_name keys text
with_key keys key.Other = keys

-- the keys that were seen, with that of a pair
abbrev pub with_pair : List (List ℕ) → Option Key → List (List ℕ)
with_pair keys None = keys
with_pair keys (Some key) = with_key keys key

-- the first item that isn't a spread decides between array and dictionary, unless that is decided
abbrev pub decided : Option Bool → Bool → Option Bool
decided None is_pair = Some is_pair
decided (Some pairs) is_pair = Some pairs

-- what was found of the items so far, with one more
abbrev pub with_item : ParenItems → Option Key → ParenItems
with_item items key = record {
  any = true;
  is_plain = items.is_plain && not items.any && not (is_some key);
  are_pairs = decided items.are_pairs (is_some key);
  keys = with_pair items.keys key;
}

-- what was found of the items so far, with a spread
abbrev pub with_spread : ParenItems → ParenItems
with_spread items = record items { any = true; is_plain = false }

-- what was found of the items so far, after a comma or none
abbrev pub with_comma : Bool → ParenItems → ParenItems
with_comma comma items = record items { is_plain = items.is_plain && not comma }

-- one item; answers what was found of the items so far
unfoldable pub item : ParenItems → Parser ParenItems
item items = do
  ahead ← peek
  pick (same kind.Dots ahead.kind) (spread >> gives (with_spread items)) (do
    key ← node (λ key. keeps (misfit items.are_pairs (is_some key))) (node (item_shape items.keys) pair)
    gives (with_item items key))

-- an item and what separates it from the next, unless the list ends
unfoldable pub group_turn : ParenItems → Parser (Bool × ParenItems)
group_turn items = do
  ahead ← peek
  pick (is_terminator ahead.kind) (gives (false, items)) (pick (begins_item ahead.kind) (do
    more ← item items
    comma ← separator
    gives (true, with_comma comma more))
      (unexpected [] >> gives (true, items)))

-- what is known before the first item; a colon first makes the items a dictionary's
abbrev pub no_items : Bool → ParenItems
no_items colon = record { any = false; is_plain = true; are_pairs = if colon then Some true else None; keys = [] }

-- what a list of pairs is, or of other items; without an item or with spreads alone it is an array
abbrev pub list_kind : Option Bool → SyntaxKind
list_kind None = kind.Array
list_kind (Some true) = kind.Dict
list_kind (Some false) = kind.Array

-- what the items in parens are; one item alone is an expression in parens
abbrev pub group_kind : ParenItems → SyntaxKind
group_kind items = if items.any && items.is_plain then kind.Parenthesized else list_kind items.are_pairs

-- what is in parens as a node, whose second paren may be missing
abbrev pub group_shape : Bool × SyntaxKind → Shape
group_shape x = encloses x.1 x.0

-- what comes after the first paren; answers whether the second one comes, and what all is
unfoldable pub group_rest : Parser (Bool × SyntaxKind)
group_rest = do
  colon ← eat_if (same kind.Colon)
  items ← repeat group_turn (no_items colon)
  closed ← eat_if (same kind.RightParen)
  gives (closed, group_kind items)

-- `( .. )`; answers what it is
unfoldable pub group : Parser SyntaxKind
group = do
  x ← node group_shape (within (at_newline newline.Continue) (eat >> group_rest))
  gives x.1
