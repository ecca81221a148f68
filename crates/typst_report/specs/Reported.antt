-- The findings of a text: its errors and warnings.
use Rattle.std.specs.Prelude.{ℕ, ◌+◌, List, [], ◌∷◌, ◌++◌, Bool, true, false, ◌||◌, ◌&&◌, nat_lt, Option, None, Some, length, take, codes, min, max, if◌then◌else◌}
use Rattle.std.specs.Str.{chars}
use Rattle.typst_kinds.specs.declared.diagnostic.Severity.{Severity}
use Rattle.typst_kinds.specs.declared.diagnostic.Severity.TheVariants as severity
use Rattle.typst_kinds.specs.Diagnostic.{Diagnostic}
use Rattle.typst_kinds.specs.Span.{Bytes}
use Rattle.typst_lines.specs.UnicodeTables.{unicode_classes}
use Rattle.typst_grammar.specs.Grammar.{tree}
use Rattle.typst_tree.specs.Tree.{Forest, none, more, Tree, joined, saturated}

-- a finding: an error or a warning, and the bytes that it is about
pub record Reported : Type 0 where
  pub diagnostic : Diagnostic
  pub start : ℕ
  pub end : ℕ

-- where a finding about a node of the bytes a to b begins: with the node, or with the part of it
-- that it is about
abbrev pub from_byte : ℕ → ℕ → Option Bytes → ℕ
from_byte a b None = a
from_byte a b (Some part) = min (saturated (a + part.start)) b

-- where a finding about a node of the bytes a to b ends
abbrev pub to_byte : ℕ → ℕ → Option Bytes → ℕ
to_byte a b None = b
to_byte a b (Some part) = max (min (saturated (a + part.end)) b) (from_byte a b (Some part))

-- the findings about a node of the bytes a to b
abbrev pub reported_of : ℕ → ℕ → List Diagnostic → List Reported
reported_of a b [] = []
reported_of a b (d ∷ ds) = record { diagnostic = d; start = from_byte a b d.sub_range; end = to_byte a b d.sub_range } ∷ reported_of a b ds

-- the findings of trees side by side from byte a on: of each node before those below it
abbrev pub reported_in : ℕ → Forest → List Reported
reported_in a none = []
reported_in a (more h ks r) =
    reported_of a (saturated (a + length (h.text ++ joined ks))) h.diagnostics
    ++ (reported_in (saturated (a + length h.text)) ks ++ reported_in (saturated (a + length (h.text ++ joined ks))) r)

-- the findings of a tree
abbrev pub reported : Tree → List Reported
reported t = reported_in 0 (more t.head t.kids none)

-- an error, and not a warning
abbrev pub is_grave : Severity → Bool
is_grave severity.Error = true
is_grave severity.Warning = false

-- the word for how grave a finding is
abbrev pub severity_word : Severity → List ℕ
severity_word severity.Error = codes "error"
severity_word severity.Warning = codes "warning"

-- an error is among some findings
abbrev pub any_error : List Reported → Bool
any_error [] = false
any_error (t ∷ ts) = is_grave t.diagnostic.severity || any_error ts

-- how many errors are among some findings
abbrev pub error_count : List Reported → ℕ
error_count [] = 0
error_count (t ∷ ts) = (if is_grave t.diagnostic.severity then 1 else 0) + error_count ts

-- the first of some findings, so many at most
abbrev pub first : Option ℕ → List Reported → List Reported
first None all = all
first (Some most) all = take most all

-- a text has an error
abbrev pub has_error : List ℕ → Bool
has_error text = any_error (reported (tree unicode_classes (chars text)))

-- a text fails: it has an error or, if warnings are denied, a warning
abbrev pub fails : Bool → List ℕ → Bool
fails denied text = has_error text || (denied && nat_lt 0 (length (reported (tree unicode_classes (chars text)))))
