-- What calls and blocks give, by what each of them reads.
use Rattle.std.specs.Prelude.{ℕ, zero, suc, Bool, true}
use Rattle.typst_lines.specs.Classes.{CharClasses}
use Rattle.typst_language.specs.declared.calls.Block.{Block}
use Rattle.typst_language.specs.Calls.{Call, Answer, no_answer}
use Rattle.typst_language.specs.Syntax.{Parser, ◌>>◌}
use Rattle.typst_language.specs.Steps.{peek}
use Rattle.typst_language.specs.Meaning.{Meaning, Level, plain, blockless, no_guess, run}

-- what the grammar says of calls and blocks
pub record Rules : Type 1 where
  -- what a call reads
  pub production : (call : Call) → Parser (Answer call)
  -- which blocks there are, and what each reads
  pub has : Block → Bool
  pub block_production : Block → Parser (Unit {0})

-- what a block gives, by what is read one level deeper. In it no other block is read, except there
abbrev pub blocks_of : Rules → CharClasses → ℕ → ((call : Call) → Meaning (Answer call)) → Block → Meaning (Unit {0})
blocks_of r k levels deeper b = run (blockless k levels deeper) (peek >> r.block_production b)

-- where a parser runs by these rules, by what is read one level deeper
abbrev pub level_by : Rules → CharClasses → ℕ → ((call : Call) → Meaning (Answer call)) → Level
level_by r k levels deeper = record { classes = k; levels = levels; deeper = deeper; has = r.has; blocks = blocks_of r k levels deeper; guess = no_guess }

-- what a call gives where a given number of levels are left; at the limit nothing is read, and the limit is
-- met
unfoldable pub meaning_of : Rules → CharClasses → ℕ → (call : Call) → Meaning (Answer call)
meaning_of r k zero call = λ z s. record (plain (no_answer call) s) { met = true }
meaning_of r k (suc levels) call = run (level_by r k levels (meaning_of r k levels)) (r.production call)

-- where a parser runs by these rules, with a given number of levels left
abbrev pub level_of : Rules → CharClasses → ℕ → Level
level_of r k levels = level_by r k levels (meaning_of r k levels)
