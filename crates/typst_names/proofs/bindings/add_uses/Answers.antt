use Rattle.typst_names.proofs.UsesFound.{hidden_step, uses_step}
use Rattle.typst_names.proofs.bindings.add_uses.Goals as goal

pub loop-name-preserved : goal.loop-name-preserved
loop-name-preserved c =
    let so_far = c.loop-name.invariant in
    record {
      found = uses_step c.args.text.now c.args.word.now c.args.until c.loop-name.name-index c.loop-name.hidden c.args.names.now _ c.loop-name.found.items c.add_if.new.found.items _ c.means.result c.loop-name-test.true c.in_ok-add_if.ensures c.means.ensures so_far.hidden so_far.found;
      hidden = hidden_step c.args.text.now c.args.word.now c.loop-name.name-index c.loop-name.hidden c.hides_up_to.result c.max-hidden.result c.args.names.now _ c.loop-name-test.true c.max-hidden.ensures c.hides_up_to.ensures so_far.hidden;
    }
