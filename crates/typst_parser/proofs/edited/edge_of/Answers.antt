use Rattle.typst_parser.proofs.KeptBoundaries.{root-edge}
use Rattle.typst_parser.proofs.edited.edge_of.Goals as goal

pub returns : goal.returns
returns c = λ root is. root-edge root c.args.boundary is
