-- The errors and warnings that are shown while someone types: not those that only follow from a delimiter that nothing closes.
use Rattle.std.specs.Prelude.{ℕ, ◌&&◌, nat_le, nat_lt, Bool, true, false, List, [], ◌∷◌, ◌++◌, length, map, max, codes, if◌then◌else◌}
use Rattle.std.specs.Str.{bytes_eq}
use Rattle.std.specs.declared.ops.Range.{Range}
use Rattle.typst_kinds.specs.Diagnostic.{Diagnostic}
use Rattle.typst_kinds.specs.declared.diagnostic.Severity.{Severity}
use Rattle.typst_kinds.specs.declared.diagnostic.Severity.TheVariants.{Error, Warning}
use Rattle.typst_tree.specs.Tree.{Forest, none, more, Tree, joined}
use Rattle.typst_names.specs.Bytes.{inner, behind}
use Rattle.typst_features.specs.Problems.{Reported, about}

-- errors are grave, and warnings aren't
abbrev pub is_grave : Severity → Bool
is_grave Error = true
is_grave Warning = false

-- an error
abbrev pub is_error : Diagnostic → Bool
is_error d = is_grave d.severity

-- an error about a delimiter that nothing closes
abbrev pub is_unclosed : Diagnostic → Bool
is_unclosed d = is_error d && bytes_eq d.message (codes "unclosed delimiter")

-- a problem, and the byte at which the node ends that its node stands in
pub record Inside : Type 0 where
  pub problem : Reported
  pub end : ℕ

-- up to which byte a problem swallows what follows: a delimiter that nothing closes does so up to the end of the node that it stands in
abbrev pub swallows_to : Inside → ℕ
swallows_to p = if is_unclosed p.problem.diagnostic then p.end else 0

-- up to which byte one of some errors does
abbrev pub swallowed_to : List Inside → ℕ
swallowed_to [] = 0
swallowed_to (p ∷ ps) = max (swallows_to p) (swallowed_to ps)

-- up to which byte errors are hidden after some errors, of which the last comes first: as far as those before the last one swallow, since
-- the first error of what is swallowed is shown
abbrev pub hidden_to : List Inside → ℕ
hidden_to [] = 0
hidden_to (last ∷ before) = swallowed_to before

-- an error is in what is swallowed up to byte b, if anything is: it goes no further, also where it is empty there
abbrev pub is_swallowed : ℕ → Range ℕ → Bool
is_swallowed b r = nat_lt 0 b && nat_le r.end b

-- what is shown of problems after some errors, of which the last comes first: all warnings, and each error that isn't hidden
abbrev pub shown_after : List Inside → List Inside → List Reported
shown_after before [] = []
shown_after before (p ∷ ps) =
    if is_error p.problem.diagnostic
    then (if is_swallowed (hidden_to before) p.problem.range then [] else p.problem ∷ []) ++ shown_after (p ∷ before) ps
    else p.problem ∷ shown_after before ps

-- what is reported of a node itself that begins at byte a, has n bytes, and stands in one that ends at byte e
abbrev pub own_in : ℕ → ℕ → ℕ → List Diagnostic → List Inside
own_in e a n ds = map (λ d. record { problem = record { range = about a n d.sub_range; diagnostic = d }; end = e }) ds

-- what is reported of trees side by side from byte a on, in a node that ends at byte e: of a node before those below it
abbrev pub row_in : ℕ → ℕ → Forest → List Inside
row_in e a none = []
row_in e a (more h ks r) = own_in e a (length (h.text ++ joined ks)) h.diagnostics ++ (row_in (behind a h ks) (inner a h) ks ++ row_in e (behind a h ks) r)

-- WHAT IS SHOWN of a tree, which stands in no node
abbrev pub shown : Tree → List Reported
shown t = shown_after [] (row_in 0 0 (more t.head t.kids none))
