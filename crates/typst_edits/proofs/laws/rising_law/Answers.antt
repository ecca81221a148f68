use Rattle.typst_edits.proofs.InOrder.{in-order-law}
use Rattle.typst_edits.proofs.Nested.{nested-law}
use Rattle.typst_edits.proofs.BlockLog.{nested-block-law}
use Rattle.typst_edits.proofs.NestedInner.{nested-inner-law}
use Rattle.typst_edits.proofs.OpensApart.{opens-apart-law}
use Rattle.typst_edits.proofs.Rising.{rising-law}
use Rattle.typst_edits.proofs.laws.rising_law.Goals as goal

pub returns : goal.returns
returns c = record { order = rising-law; tokens = in-order-law; opens = opens-apart-law; nested = nested-law; nested_inner = nested-inner-law; nested_block = nested-block-law }
