-- What a block is read from.
use Rattle.std.specs.Prelude.{◌≡◌, ℕ, false}
use Rattle.typst_lines.specs.Place.{Place}
use Rattle.typst_lines.specs.Classes.{CharClasses}
use Rattle.typst_language.specs.declared.calls.Block.{Block}
use Rattle.typst_language.specs.declared.reading.State.{State}
use Rattle.typst_language.specs.Hand.{at_trivia}
use Rattle.typst_language.specs.Meaning.{Outcome}
use Rattle.typst_language.specs.Point.{point_of}
use Rattle.typst_edits.specs.Laws.{block_at}

-- Two readings are the same except for the states that they leave.
pub record SameRead (o p : Outcome (Unit {0})) : Type 0 where
  pub taken : o.taken ≡ p.taken
  pub back : o.back ≡ p.back
  pub hints : o.hints ≡ p.hints
  pub nodes : o.nodes ≡ p.nodes
  pub asks : o.asks ≡ p.asks
  pub met : o.met ≡ p.met

-- The law of a block's mode: of the state where a block begins, at no trivia, its reading needs no more than the mode in which its first token is read.
abbrev pub ModeLaw : Type 0
ModeLaw = (k : CharClasses) (levels : ℕ) (b : Block) (z : Place) (s t : State) → s.held.mode ≡ t.held.mode → at_trivia k s.held.mode z ≡ false
    → SameRead (block_at k levels b z (point_of s)) (block_at k levels b z (point_of t))
