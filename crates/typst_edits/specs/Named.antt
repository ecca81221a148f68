-- A block by its name: what is read of it, and its two marks in the log.
use Rattle.std.specs.Prelude.{◌≡◌, ℕ, ◌-◌, List, [], ◌∷◌, ◌++◌}
use Rattle.typst_language.specs.declared.calls.Block.{Block}
use Rattle.typst_language.specs.declared.calls.Mark.TheVariants as mark
use Rattle.typst_language.specs.Ask.{Ask}
use Rattle.typst_language.specs.Ask.Ask.{marked}
use Rattle.typst_language.specs.Point.{state_of}
use Rattle.typst_language.specs.Meaning.{Meaning}
use Rattle.typst_edits.specs.Spot.{Spot, ended}

-- where a given number of levels are left for the whole, by what each block reads at each level
pub record Named {A : Type 0} (meant : ℕ → Block → Meaning (Unit {0})) (levels : ℕ) (c : Spot A) : Type 0 where
  -- it is read as its name says, with the levels that are left there
  pub reads : c.reads ≡ (λ y t. ended (meant (levels - c.fewer) c.name y t))
  -- directly before it stands the mark where it begins, with its state
  pub earlier : List Ask
  pub opened : c.before ≡ earlier ++ marked c.at 0 c.fewer (mark.Opens c.name) c.start ∷ []
  -- and directly after it the mark where it ends
  pub later : List Ask
  pub closed : c.after ≡ marked 0 0 c.fewer mark.Closes (state_of c.reached) ∷ later
