-- What productions of markup read where blocks of content may be read.
use Rattle.std.specs.Prelude.{Result}
use Rattle.std.specs.declared.alloc.AllocError.{AllocError}
use Rattle.typst_language.specs.declared.calls.Block.TheVariants as block
use Rattle.typst_language.specs.Meaning.{Level}
use Rattle.typst_language.specs.Syntax.{Parser}
use Rattle.typst_language.specs.View.{View, Frame, Fits, ReadsBlock, MeansWhere}
use Rattle.typst_markup.specs.Markup.{content_block}

-- blocks of content may be read there
pub record Outside (l : Level) : Type 0 where
  pub content : ReadsBlock l block.Content content_block

-- `Means`, at a level where blocks of content may be read
abbrev pub MeansOutside : {A : Type 0} → Frame → Parser A → View → Result A AllocError → View → Type 0
MeansOutside f q old r new = MeansWhere (λ l says. Outside l → says) Fits Fits (λ a. a) f q old r new
