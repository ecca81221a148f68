-- The errors and warnings of a tree, and the bytes that they are about.
use Rattle.std.specs.Prelude.{ℕ, ◌+◌, ◌++◌, List, [], map, min, length, Option, None, Some}
use Rattle.std.specs.declared.ops.Range.{Range}
use Rattle.typst_kinds.specs.Span.{Bytes}
use Rattle.typst_kinds.specs.Diagnostic.{Diagnostic}
use Rattle.typst_tree.specs.Tree.{Forest, none, more, Tree, joined, saturated}
use Rattle.typst_names.specs.Bytes.{inner, behind}
use Rattle.typst_features.specs.declared.report.Problem.{Problem}

-- an error or a warning, and the bytes that it is about
pub record Reported : Type 0 where
  pub range : Range ℕ
  pub diagnostic : Diagnostic

-- a problem, by what it borrows
abbrev pub reported : Problem → Reported
reported p = record { range = p.range; diagnostic = p.diagnostic.now }

-- of a node that begins at byte a and has n bytes, those that a diagnostic is about: all, or those that it names, as far as the node has them
abbrev pub about : ℕ → ℕ → Option Bytes → Range ℕ
about a n None = record { start = a; end = saturated (a + n) }
about a n (Some bytes) = record { start = saturated (a + min bytes.start n); end = saturated (a + min bytes.end n) }

-- what is reported of a node itself that begins at byte a and has n bytes
abbrev pub own : ℕ → ℕ → List Diagnostic → List Reported
own a n ds = map (λ d. record { range = about a n d.sub_range; diagnostic = d }) ds

-- what is reported of trees side by side from byte a on, of a node before those below it
abbrev pub row : ℕ → Forest → List Reported
row a none = []
row a (more h ks r) = own a (length (h.text ++ joined ks)) h.diagnostics ++ (row (inner a h) ks ++ row (behind a h ks) r)

-- what is reported of a tree that begins at byte a
abbrev pub node : ℕ → Tree → List Reported
node a t = own a (length (t.head.text ++ joined t.kids)) t.head.diagnostics ++ row (inner a t.head) t.kids
