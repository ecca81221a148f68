use Rattle.typst_parser.specs.Found.{linked_in}
use Rattle.typst_parser.proofs.Own.{find-own}
use Rattle.typst_parser.proofs.source.Source.find.Goals as goal

pub returns-clause-own : goal.returns-clause-own
returns-clause-own g c = λ has file. find-own c.args.self.now.id c.args.span c.args.self.now.root (linked_in c.first_with.result) c.first_with.ensures (c.keeps_headline.ensures has).numbers file
