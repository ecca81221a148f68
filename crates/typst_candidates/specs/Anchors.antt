-- A place among the entries that is kept from one edit to the next.
use Rattle.std.specs.Prelude.{◌≡◌, ℕ, ◌+◌, ◌-◌, ◌≤◌, List, [], ◌∷◌, length, take, drop, Option, Some, None}
use Rattle.typst_candidates.specs.declared.entry.Entry.{Entry}
use Rattle.typst_candidates.specs.declared.anchor.Anchor.{Anchor}
use Rattle.typst_candidates.specs.Cursors.{inside_after, token_at}
use Rattle.typst_candidates.specs.Entries.{end_of}

-- how many blocks of a run are open after some entries, unless the run's own block ends among them
abbrev pub inside_of : ℕ → List Entry → Option ℕ
inside_of inside [] = Some inside
inside_of inside (e ∷ es) = elim (inside_after e.kind inside) as (λ _. Option ℕ) [ None ↦ None | Some further ↦ inside_of further es ]

-- the looks of some entries, after a token that begins at a byte, end at another one or before it
abbrev pub AllLooksEnd : ℕ → ℕ → List Entry → Type 0
AllLooksEnd at start [] = Unit {0}
AllLooksEnd at start (e ∷ es) = (token_at start e + e.forth ≤ at) × AllLooksEnd at (token_at start e) es

-- An anchor of entries is in no block of the run that begins after the first of them. It says where
-- it is, where the token before that run's block begins, and where at the latest the looks before
-- it end.
pub record IsAnchor (es : List Entry) (a : Anchor) : Type 0 where
  pub within : a.number ≤ length es
  pub start : a.start ≡ end_of 0 (take a.number es)
  pub order : a.start ≤ a.reach
  pub looks : AllLooksEnd a.reach 0 (take a.number es)
  pub first : a.first ≤ a.number
  pub outer : a.outer ≡ end_of 0 (take (a.first - 1) es)
  pub run : inside_of 0 (drop a.first (take a.number es)) ≡ Some 0
