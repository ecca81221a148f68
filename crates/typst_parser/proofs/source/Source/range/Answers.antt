use Rattle.typst_parser.proofs.Own.{range-own}
use Rattle.typst_parser.proofs.source.Source.range.Goals as goal

pub returns-clause-own : goal.returns-clause-own
returns-clause-own g c = λ has file. range-own c.args.self.now.id c.args.number c.args.sub_range c.args.self.now.root c.bytes_with.result c.bytes_with.ensures (c.keeps_headline.ensures has).numbers file
