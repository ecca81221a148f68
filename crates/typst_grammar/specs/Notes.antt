-- What is noted of short texts, as it follows from the definitions.
use Rattle.std.specs.Prelude.{◌≡◌, ℕ, ◌-◌, ◌^◌, List, [], ◌∷◌, Some, None, codes, map, Bool, true, false}
use Rattle.typst_lines.specs.Classes.{CharClasses, by_law}
use Rattle.typst_language.specs.declared.calls.Mark.{Mark}
use Rattle.typst_language.specs.declared.calls.Mark.TheVariants as mark
use Rattle.typst_language.specs.declared.calls.Block.TheVariants as block
use Rattle.typst_language.specs.declared.calls.Note.{Note}
use Rattle.typst_language.specs.Log.{Log, no_log, logged}
use Rattle.typst_grammar.specs.Grammar.{log, parsed, start_of}

-- a note without its state
pub record Brief : Type 0 where
  pub mark : Mark
  pub before : ℕ
  pub start : ℕ
  pub levels : ℕ
  pub reach : ℕ
  pub least : ℕ

-- a note, without its state
abbrev pub brief : Note → Brief
brief n = record { mark = n.mark; before = n.before; start = n.start; levels = n.levels; reach = n.reach; least = n.least }

-- all that was noted
abbrev pub brief_log : Log → List Brief
brief_log h = elim h.notes [ None ↦ [] | Some ns ↦ map brief ns ]

-- a mark, where the trivia before it begin and end, the levels left, and where the looks since the
-- note before it end and begin
abbrev pub noted : Mark → ℕ → ℕ → ℕ → ℕ → ℕ → Brief
noted m b s l r e = record { mark = m; before = b; start = s; levels = l; reach = r; least = e }

-- an expression, whether a line begins there, and the brackets it is in
abbrev pub piece : Bool → ℕ → Mark
piece a n = mark.Piece a n

-- what is noted of some texts
pub record Notes (beyond : CharClasses) : Type 0 where
  -- a run without an expression has one piece
  pub nothing : brief_log (log (by_law beyond) []) ≡ noted (piece true 0) 0 0 256 0 (2 ^ 64 - 1) ∷ []
  -- after the last expression its run ends
  pub letter : brief_log (log (by_law beyond) (codes "a")) ≡
      noted (piece true 0) 0 0 256 0 (2 ^ 64 - 1) ∷ noted (piece false 0) 1 1 256 2 1 ∷ []
  -- after a piece no look begins before the next token
  pub comment : brief_log (log (by_law beyond) (codes "a //cc\nb")) ≡
      noted (piece true 0) 0 0 256 0 (2 ^ 64 - 1) ∷ noted (piece true 0) 1 7 256 9 1 ∷ noted (piece false 0) 8 8 256 9 8 ∷
      []
  -- also at the end of a text that ends in a newline, with the mark after it
  pub two_lines : brief_log (log (by_law beyond) (codes "a\nb\n")) ≡
      noted (piece true 0) 0 0 256 0 (2 ^ 64 - 1) ∷ noted (piece true 0) 1 2 256 4 1 ∷ noted (piece true 0) 3 4 256 5 3 ∷
      []
  -- a block is noted where it begins, its first piece after its bracket, its run's end, and then where it ends
  pub one_block : brief_log (log (by_law beyond) (codes "@x[ab  ]")) ≡
      noted (piece true 0) 0 0 256 0 (2 ^ 64 - 1) ∷ noted (mark.Opens block.Content) 2 2 255 3 1 ∷
      noted (piece true 0) 3 3 255 3 3 ∷ noted (piece false 0) 5 7 255 8 4 ∷ noted mark.Closes 8 8 255 8 8 ∷
      noted (piece false 0) 8 8 256 9 9 ∷ []
  -- an empty run has one piece
  pub empty_block : brief_log (log (by_law beyond) (codes "@x[  ]")) ≡
      noted (piece true 0) 0 0 256 0 (2 ^ 64 - 1) ∷ noted (mark.Opens block.Content) 2 2 255 3 1 ∷
      noted (piece true 0) 3 3 255 3 3 ∷ noted mark.Closes 6 6 255 6 4 ∷ noted (piece false 0) 6 6 256 7 7 ∷
      []
  -- a star looks at the character before it
  pub stars : brief_log (log (by_law beyond) (codes "a*b* c")) ≡
      noted (piece true 0) 0 0 256 0 (2 ^ 64 - 1) ∷ noted (piece false 0) 1 1 256 4 1 ∷ noted (piece false 0) 3 3 256 5 1 ∷
      noted (piece false 0) 6 6 256 7 3 ∷ []
  -- a column looks back to the mark before the text
  pub items : brief_log (log (by_law beyond) (codes "- a\n  - b")) ≡
      noted (piece true 0) 0 0 256 0 (2 ^ 64 - 1) ∷ noted (piece false 0) 9 9 256 10 0 ∷ []
  -- each call leaves one level fewer
  pub blocks : brief_log (log (by_law beyond) (codes "@a[@b[c]]")) ≡
      noted (piece true 0) 0 0 256 0 (2 ^ 64 - 1) ∷ noted (mark.Opens block.Content) 2 2 255 3 1 ∷
      noted (piece true 0) 3 3 255 3 3 ∷ noted (mark.Opens block.Content) 5 5 254 6 4 ∷ noted (piece true 0) 6 6 254 6 6 ∷
      noted (piece false 0) 7 7 254 8 7 ∷ noted mark.Closes 8 8 254 8 8 ∷ noted (piece false 0) 8 8 255 9 9 ∷
      noted mark.Closes 9 9 255 9 9 ∷ noted (piece false 0) 9 9 256 10 10 ∷ []
  -- a sequence that met the limit of depth isn't a run
  pub deep : brief_log (logged 1 (start_of (codes "@a[b]")) no_log (parsed (by_law beyond) 1 (codes "@a[b]")).asks) ≡
      noted (piece true 0) 0 0 1 0 (2 ^ 64 - 1) ∷ noted (mark.Opens block.Content) 2 2 0 3 1 ∷
      noted mark.Closes 5 5 0 5 3 ∷ noted (piece false 0) 5 5 1 6 6 ∷ []
