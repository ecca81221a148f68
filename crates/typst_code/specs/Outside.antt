-- What productions of code read where blocks may be read.
use Rattle.std.specs.Prelude.{◌≡◌, Result}
use Rattle.std.specs.declared.alloc.AllocError.{AllocError}
use Rattle.typst_language.specs.declared.calls.Block.TheVariants as block
use Rattle.typst_language.specs.Meaning.{Level}
use Rattle.typst_language.specs.Syntax.{Parser}
use Rattle.typst_language.specs.View.{View, Frame, Fits, ReadsBlock, MeansWhere}
use Rattle.typst_markup.specs.Outside.{Outside}
use Rattle.typst_lines.specs.Place.{Place}
use Rattle.typst_language.specs.declared.reading.Reading.{Reading}
use Rattle.typst_code.specs.Parens.{guess_of}
use Rattle.typst_code.specs.Sequences.{code_block}

-- each block may be read there
pub record Blocks (l : Level) : Type 0 where
  pub outside : Outside l
  pub code : ReadsBlock l block.Code code_block
  -- what is known of first readings is what they find
  pub guess : (z : Place) (outer : Reading) → l.guess l.levels z outer ≡ guess_of l z outer

-- `Means`, at a level where blocks may be read
abbrev pub MeansAround : {A : Type 0} → Frame → Parser A → View → Result A AllocError → View → Type 0
MeansAround f q old r new = MeansWhere (λ l says. Blocks l → says) Fits Fits (λ a. a) f q old r new

-- `MeansBy`, at a level where blocks may be read
abbrev pub MeansAroundBy : {A B : Type 0} → Frame → (B → A) → Parser A → View → Result B AllocError → View → Type 0
MeansAroundBy f meant q old r new = MeansWhere (λ l says. Blocks l → says) Fits Fits meant f q old r new
