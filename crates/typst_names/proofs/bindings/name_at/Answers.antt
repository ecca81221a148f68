use Rattle.std.proofs.Common.{◌∙◌, sym}
use Rattle.typst_names.proofs.NamesAt.{at_end, at_holding, at_start, at_step}
use Rattle.typst_names.proofs.bindings.name_at.Goals as goal

pub loop-index-init : goal.loop-index-init
loop-index-init c = at_start c.args.byte c.args.names.now

pub returns-then-holds : goal.returns-then-holds
returns-then-holds c =
    at_holding c.args.byte c.loop-index.index c.args.names.now _ c.loop-index.ending _ c.loop-index-test.true (sym c.holds.ensures ∙ c.if-holds.true) c.loop-index.invariant

pub loop-index-preserved : goal.loop-index-preserved
loop-index-preserved c =
    at_step c.args.byte c.loop-index.index c.args.names.now _ c.loop-index.ending c.last_ending-ending.result _ c.loop-index-test.true (sym c.holds.ensures ∙ c.if-holds.false) c.last_ending-ending.ensures c.loop-index.invariant

pub returns : goal.returns
returns c = at_end c.args.byte c.loop-index.index c.args.names.now c.loop-index.ending _ c.loop-index-test.false c.loop-index.invariant
