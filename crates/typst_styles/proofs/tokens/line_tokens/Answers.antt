use Rattle.typst_styles.proofs.TokenLines.{stretch-added}
use Rattle.typst_styles.proofs.tokens.line_tokens.Goals as goal

pub loop-index-preserved : goal.loop-index-preserved
loop-index-preserved c =
    stretch-added c.args.text.now c.args.tagged.now c.args.roles.now c.loop-index.index _ c.loop-index.tokens.items c.add_stretch.new.tokens.items c.role_at.result _ c.loop-index-test.true c.role_at.ensures
    c.in_ok-add_stretch.ensures c.loop-index.invariant
