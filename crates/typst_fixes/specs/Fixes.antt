-- The edits that take errors away: which text is put at which byte. Not stated: closing delimiters, and what other hints say.
use Rattle.std.specs.Prelude.{ℕ, ◌-◌, ◌&&◌, not, nat_le, nat_lt, Bool, true, false, List, [], ◌∷◌, ◌++◌, codes, length, Option, None, Some, option_and_then, option_map, option_to_list, if◌then◌else◌}
use Rattle.std.specs.List.{flat_map}
use Rattle.std.specs.Str.{bytes_eq}
use Rattle.std.specs.declared.ops.Range.{Range}
use Rattle.typst_kinds.specs.Diagnostic.{Diagnostic, Hint}
use Rattle.typst_kinds.specs.Kinds.{same}
use Rattle.typst_kinds.specs.declared.kind.SyntaxKind.{SyntaxKind}
use Rattle.typst_kinds.specs.declared.kind.SyntaxKind.TheVariants as node
use Rattle.typst_tree.specs.Tree.{Forest, none, more, Tree, text_of, trees}
use Rattle.typst_names.specs.Around.{Standing}
use Rattle.typst_names.specs.Bytes.{inner, behind}
use Rattle.typst_fixes.specs.Gaps.{is_kept}
use Rattle.typst_features.specs.Problems.{about}
use Rattle.typst_fixes.specs.Wrapped.{labelled}
use Rattle.typst_fixes.specs.declared.fixes.Edit.{Edit}
use Rattle.typst_fixes.specs.declared.fixes.Fix.{Fix}
use Rattle.typst_fixes.specs.declared.fixes.FixKind.{FixKind}
use Rattle.typst_fixes.specs.declared.fixes.FixKind.TheVariants as fix

-- ---- what is stated of a fix

-- a text in the place of some bytes, the space around it aside
pub record Change : Type 0 where
  pub range : Range ℕ
  pub text : List ℕ

-- the bytes of a problem, and the changes that take it away
pub record Made : Type 0 where
  pub problem : Range ℕ
  pub changes : List Change

abbrev pub change : Edit → Change
change e = record { range = e.range; text = e.text.now }

abbrev pub made : Fix → Made
made f = record { problem = f.problem; changes = change f.edit ∷ option_to_list (option_map change f.further) }

-- the kinds of fixes that are stated
abbrev pub is_stated : FixKind → Bool
is_stated fix.Escape = true
is_stated fix.Wrap = true
is_stated _ = false

-- of a fix, if there is one, and of some fixes, what is stated
abbrev pub stated_of : Option Fix → List Made
stated_of None = []
stated_of (Some f) = if is_stated f.kind then made f ∷ [] else []

abbrev pub stated : List Fix → List Made
stated [] = []
stated (f ∷ fs) = stated_of (Some f) ++ stated fs

-- a change that only inserts a text at a byte
abbrev pub inserted : ℕ → List ℕ → Change
inserted b text = record { range = record { start = b; end = b }; text = text }

-- ---- a backslash

-- the byte at which a hint proposes one for an error of some bytes: before them, or before the hash in front of them
abbrev pub backslash_at : List ℕ → Range ℕ → Option ℕ
backslash_at hint r =
    if bytes_eq hint (codes "try using a backslash escape: \\]") then Some r.start
    else (if bytes_eq hint (codes "try escaping the preceding hash: `\\#`") then Some (r.start - 1)
    else (if bytes_eq hint (codes "consider escaping the `*` with a backslash or opening the block comment with `/*`") then Some r.start
    else None))

-- a node with its place, its parent if it has one, the node before it in its row, and those behind it
pub record Site : Type 0 where
  pub node : Standing
  pub parent : Option Standing
  pub before : Option Standing
  pub behind : Forest

-- a backslash before byte b would stand in markup. In a row of more than 1024 nodes it isn't asked whether one of them would keep it
abbrev pub takes_backslash : Option Standing → ℕ → Bool
takes_backslash None b = false
takes_backslash (Some p) b = if same node.Markup p.node.head.kind then (if nat_lt 1024 (length (trees p.node.kids)) then true else not (is_kept (codes "\\") b p)) else false

-- A BACKSLASH IS PUT where a hint proposes it, if it would stand in markup
abbrev pub escapes : Site → Range ℕ → Option ℕ → List Made
escapes s r None = []
escapes s r (Some b) = if takes_backslash s.parent r.start then record { problem = r; changes = inserted b (codes "\\") ∷ [] } ∷ [] else []

-- ---- a label behind code

-- a hint proposes a content block
abbrev pub wants_block : List ℕ → Bool
wants_block hint = bytes_eq hint (codes "try wrapping your code in a markup block (`[ ]`)")

-- two changes that put a content block around some bytes; after `#` code is read as code
abbrev pub around : Range ℕ → List Change
around r = inserted r.start (codes "[#") ∷ (inserted r.end (codes "]") ∷ [])

abbrev pub wrapped : Range ℕ → Option (Range ℕ) → List Made
wrapped r None = []
wrapped r (Some bytes) = record { problem = r; changes = around bytes } ∷ []

-- A CONTENT BLOCK IS PUT around the code and the label between which a statement's end is missing, which has no bytes itself
abbrev pub wraps : Site → Range ℕ → List Made
wraps s r = if nat_lt r.start r.end then [] else wrapped r (option_and_then (λ n. labelled n s.behind r.end) s.before)

-- ---- all

-- what a hint about some bytes says
abbrev pub of_hint : Site → Range ℕ → Hint → List Made
of_hint s r h = if wants_block h.message then wraps s r else escapes s r (backslash_at h.message r)

-- two ranges have a byte or an end in common
abbrev pub touch : Range ℕ → Range ℕ → Bool
touch r w = nat_le r.start w.end && nat_le w.start r.end

-- what takes an error or a warning of some bytes away, if they touch a range
abbrev pub of_fault : Range ℕ → Site → Range ℕ → Diagnostic → List Made
of_fault w s r d = if touch r w then flat_map (of_hint s r) d.hints else []

-- the bytes that an error or a warning of a node is about
abbrev pub of_diagnostic : Range ℕ → Site → Diagnostic → List Made
of_diagnostic w s d = of_fault w s (about s.node.start (length (text_of s.node.node)) d.sub_range) d

-- what is done about trees side by side from byte a on, of a node before those below it
abbrev pub row : Range ℕ → Option Standing → Option Standing → ℕ → Forest → List Made
row w parent before a none = []
row w parent before a (more h ks r) =
    let n : Standing = record { start = a; node = record { head = h; kids = ks } } in
    flat_map (of_diagnostic w (record { node = n; parent = parent; before = before; behind = r })) h.diagnostics ++ (row w (Some n) None (inner a h) ks ++ row w parent (Some n) (behind a h ks) r)

-- THE FIXES that are stated, of the errors and warnings of a tree that touch a range
abbrev pub fixes : Range ℕ → Tree → List Made
fixes w t = row w None None 0 (more t.head t.kids none)
