-- The records of what is said of a tree's nodes.
use Rattle.std.specs.Prelude.{◌≡◌, ℕ, ◌+◌, List, [], ◌∷◌, map, Option, None, Some, length}
use Rattle.std.specs.List.{flat_map}
use Rattle.typst_kinds.specs.Diagnostic.{Diagnostic, Hint}
use Rattle.typst_kinds.specs.Span.{Bytes}
use Rattle.typst_kinds.specs.declared.diagnostic.Severity.{Severity}
use Rattle.typst_kinds.specs.declared.diagnostic.Severity.TheVariants as severity
use Rattle.typst_tree.specs.Tree.{Tree, saturated}
use Rattle.typst_tree.specs.Steps.{At, node_of, offset_of, end_of}
use Rattle.typst_flat.specs.Codes.{cut}
use Rattle.typst_flat.specs.Records.{all_of, filled}
use Rattle.typst_flat.specs.declared.records.Remark.{Remark}
use Rattle.typst_flat.specs.declared.said.Said.{Said}

-- what is said of a node, of which bytes, and how grave it is
pub record Saying : Type 0 where
  pub node : ℕ
  pub start : ℕ
  pub end : ℕ
  pub severity : ℕ
  pub message : List ℕ

abbrev pub severity_code : Severity → ℕ
severity_code severity.Error = 1
severity_code severity.Warning = 2

-- where some bytes of a node begin, or the node itself
abbrev pub start_in : At → Option Bytes → ℕ
start_in a None = offset_of a
start_in a (Some part) = saturated (offset_of a + part.start)

abbrev pub end_in : At → Option Bytes → ℕ
end_in a None = end_of a
end_in a (Some part) = saturated (offset_of a + part.end)

abbrev pub hint_of : At → Hint → Saying
hint_of a h = record { node = a.number; start = start_in a h.sub_range; end = end_in a h.sub_range; severity = 3; message = h.message }

abbrev pub diagnostic_of : At → Diagnostic → Saying
diagnostic_of a d = record { node = a.number; start = start_in a d.sub_range; end = end_in a d.sub_range; severity = severity_code d.severity; message = d.message }

-- an error or a warning, and the hints on it
abbrev pub said_by : At → Diagnostic → List Saying
said_by a d = diagnostic_of a d ∷ map (hint_of a) d.hints

-- what is said of a node
abbrev pub said_of : At → List Saying
said_of a = flat_map (said_by a) (node_of a).head.diagnostics

-- what is said of a tree's nodes
abbrev pub all_said : Tree → List Saying
all_said root = flat_map said_of (all_of root)

-- the messages in one text
abbrev pub joined : List Saying → List ℕ
joined says = flat_map (λ s. s.message) says

-- a remark whose message begins at a place
abbrev pub remark_at : ℕ → Saying → Remark
remark_at m s = record { node = cut s.node; start = cut s.start; end = cut s.end; message = cut m; message_len = cut (length s.message); severity = s.severity }

-- the remarks, where the first message begins at a place
abbrev pub remarks_from : ℕ → List Saying → List Remark
remarks_from m [] = []
remarks_from m (s ∷ says) = remark_at (saturated m) s ∷ remarks_from (m + length s.message) says

-- the remarks of a tree
abbrev pub remarks : Tree → List Remark
remarks root = remarks_from 0 (all_said root)

-- their messages
abbrev pub messages : Tree → List ℕ
messages root = joined (all_said root)

-- what is said is in the arrays, as far as it fits (of private clauses)
pub record IsWritten (says : List Saying) (said : Said) (rs rs0 : List Remark) (ms ms0 : List ℕ) : Type 0 where
  pub count : said.remarks ≡ saturated (length says)
  pub bytes : said.messages ≡ saturated (length (joined says))
  pub remarks : rs ≡ filled (remarks_from 0 says) rs0
  pub messages : ms ≡ filled (joined says) ms0
