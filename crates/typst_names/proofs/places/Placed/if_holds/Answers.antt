use Rattle.typst_names.proofs.Cited.{◌∙◌, sym, none}
use Rattle.typst_names.proofs.HoldingNodes.{around-passed}
use Rattle.typst_names.proofs.places.Placed.if_holds.Goals as goal

pub returns-else-holds-clause-around : goal.returns-else-holds-clause-around
returns-else-holds-clause-around c =
    around-passed c.args.byte c.args.self.start c.args.self.node.now.head c.args.self.node.now.kids none (sym c.holds.ensures ∙ c.if-holds.false)
