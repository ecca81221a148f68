use Rattle.typst_tree.proofs.Cited.{common_steps, arith, sym, forest, count}
use Rattle.typst_tree.proofs.Numbering.{some_nodes}
use Rattle.typst_tree.proofs.Stretches.{growth_has_room, le_from}
use Rattle.typst_tree.proofs.replace.fit.Goals as goal

pub stride-requires-clause-some : goal.stride-requires-clause-some
stride-requires-clause-some c = omega (arith, c.wanted-count.ensures, some_nodes c.args.fresh.now c.requires.some)

pub stride-requires-clause-room : goal.stride-requires-clause-room
stride-requires-clause-room c =
    grind (arith, common_steps, growth_has_room c.args.own.now.head c.args.kids.now c.args.from c.args.to (count (forest c.args.fresh.now)) _ 0 c.in_ok-by.by (sym c.in_ok-by.ensures), le_from)
