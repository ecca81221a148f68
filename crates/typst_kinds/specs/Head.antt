-- What a node is without its children.
use Rattle.std.specs.Prelude.{ℕ, ◌-◌, ◌^◌, ◌||◌, min, Bool, true, false, List, [], ◌∷◌, ◌++◌, None, length, refl, if◌then◌else◌}
use Rattle.std.specs.Coded.{Coded, code_by, coded×, coded_ℕ, coded_bool, coded_list, coded_option}
use Rattle.typst_kinds.specs.Span.{SpanValue, number_of}
use Rattle.typst_kinds.specs.declared.kind.SyntaxKind.{SyntaxKind}
use Rattle.typst_kinds.specs.declared.kind.SyntaxKind.TheVariants.{Error}
use Rattle.typst_kinds.specs.contracts.kind.SyntaxKind.{the_row as kind_row}
use Rattle.typst_kinds.specs.Diagnostic.{Diagnostic, Hint, diagnostic_code, error_with, at_last, hinted}

-- a node without its children. An inner node has no text of its own, and a leaf has 0 as upper end
pub record Head : Type 0 where
  pub kind : SyntaxKind
  pub is_inner : Bool
  pub text : List ℕ
  pub span : SpanValue
  pub upper : ℕ
  pub diagnostics : List Diagnostic

-- how a head is stored in ghost fields
abbrev pub head_code : Coded Head
head_code =
    code_by (SyntaxKind × (Bool × (List ℕ × (SpanValue × (ℕ × List Diagnostic)))))
    (coded× kind_row.coded (coded× coded_bool (coded× (coded_list coded_ℕ) (coded× (coded_option (coded× coded_ℕ coded_ℕ)) (coded× coded_ℕ (coded_list diagnostic_code))))))
    (λ h. (h.kind, (h.is_inner, (h.text, (h.span, (h.upper, h.diagnostics))))))
    (λ p. record { kind = p.0; is_inner = p.1.0; text = p.1.1.0; span = p.1.1.1.0; upper = p.1.1.1.1.0; diagnostics = p.1.1.1.1.1 })
    (λ _. refl)

-- what a node keeps besides its children: its head, as `kept` limits them the length of its text
-- and the count of its nodes, and whether it is marked: it or a node below it has a diagnostic
pub record Own : Type 0 where
  pub head : Head
  pub len : ℕ
  pub descendants : ℕ
  pub is_marked : Bool

-- how what a node keeps is stored in ghost fields
abbrev pub own_code : Coded Own
own_code =
    code_by (Head × (ℕ × (ℕ × Bool))) (coded× head_code (coded× coded_ℕ (coded× coded_ℕ coded_bool))) (λ o. (o.head, (o.len, (o.descendants, o.is_marked))))
    (λ p. record { head = p.0; len = p.1.0; descendants = p.1.1.0; is_marked = p.1.1.1 })
    (λ _. refl)

-- the head without its span and its upper end
abbrev pub bare_head : Head → Head
bare_head h = record h { span = None; upper = 0 }

-- the head with a span, and with an upper end where the node is an inner one
abbrev pub located : SpanValue → ℕ → Head → Head
located sp e h = record h { span = sp; upper = if h.is_inner then e else 0 }

-- the head with a span, whose number is the upper end
abbrev pub spanned : SpanValue → Head → Head
spanned sp h = located sp (number_of sp) h

-- the head of a leaf that was just made
abbrev pub leaf_head : SyntaxKind → List ℕ → Head
leaf_head k s = record { kind = k; is_inner = false; text = s; span = None; upper = 0; diagnostics = [] }

-- the head of an inner node that was just made
abbrev pub inner_head : SyntaxKind → Head
inner_head k = record { kind = k; is_inner = true; text = []; span = None; upper = 0; diagnostics = [] }

-- the head of an error leaf that was just made
abbrev pub error_head : List ℕ → List ℕ → Head
error_head message s = record { kind = Error; is_inner = false; text = s; span = None; upper = 0; diagnostics = error_with message ∷ [] }

-- whether there is a diagnostic
abbrev pub has_any : List Diagnostic → Bool
has_any [] = false
has_any (d ∷ ds) = true

-- a count as a node keeps it: the largest says only that it is that or more
abbrev pub kept : ℕ → ℕ
kept n = min n (2 ^ 32 - 1)

-- what a leaf with this head keeps
abbrev pub leaf_own : Head → Own
leaf_own h = record { head = h; len = kept (length h.text); descendants = 1; is_marked = has_any h.diagnostics }

-- what an inner node that was just made keeps, by the length of its text, the count of its nodes,
-- and whether a node below it has a diagnostic
abbrev pub inner_own : SyntaxKind → ℕ → ℕ → Bool → Own
inner_own k len descendants is_marked = record { head = inner_head k; len = kept len; descendants = kept descendants; is_marked = is_marked }

-- what a node keeps, with another head
abbrev pub with_head : Own → Head → Own
with_head o h = record o { head = h }

-- the head with one more diagnostic
abbrev pub diagnosed : Diagnostic → Head → Head
diagnosed d h = record h { diagnostics = h.diagnostics ++ d ∷ [] }

-- what a node keeps, with one more diagnostic
abbrev pub diagnosed_own : Diagnostic → Own → Own
diagnosed_own d o = record o { head = diagnosed d o.head; is_marked = true }

-- what an inner node keeps, with other counts, and whether a node below it has a diagnostic now
abbrev pub with_counts : Own → ℕ → ℕ → Bool → Own
with_counts o len descendants is_marked = record { head = o.head; len = kept len; descendants = kept descendants; is_marked = has_any o.head.diagnostics || is_marked }

-- the head whose last diagnostic, if there is one, has one more hint
abbrev pub helped : Hint → Head → Head
helped n h = record h { diagnostics = at_last (hinted n) h.diagnostics }
