use Rattle.typst_lines.specs.Scanner.{place}
use Rattle.typst_lexer.proofs.Loops.{trim-blank, trim-none, trim-spare}
use Rattle.typst_lexer.proofs.raw_lines.LastLine.trimmed_from.Goals as goal

pub returns-then-is_blank-clause-front : goal.returns-then-is_blank-clause-front
returns-then-is_blank-clause-front c = λ cs h. (trim-blank cs c.args.self.now h c.if-is_blank.ensures).0

pub returns-then-is_blank-clause-closing : goal.returns-then-is_blank-clause-closing
returns-then-is_blank-clause-closing c = λ cs h. (trim-blank cs c.args.self.now h c.if-is_blank.ensures).1

pub returns-then-has_spare_space-clause-front : goal.returns-then-has_spare_space-clause-front
returns-then-has_spare_space-clause-front c = λ cs h. (trim-spare cs c.args.self.now h c.if-is_blank.ensures c.if-has_spare_space.ensures (place c.uneat.new.self) c.uneat.ensures.moved).0

pub returns-then-has_spare_space-clause-closing : goal.returns-then-has_spare_space-clause-closing
returns-then-has_spare_space-clause-closing c = λ cs h. (trim-spare cs c.args.self.now h c.if-is_blank.ensures c.if-has_spare_space.ensures (place c.uneat.new.self) c.uneat.ensures.moved).1

pub returns-else-has_spare_space-clause-front : goal.returns-else-has_spare_space-clause-front
returns-else-has_spare_space-clause-front c = λ cs h. (trim-none cs c.args.self.now h c.if-is_blank.ensures c.if-has_spare_space.ensures).0

pub returns-else-has_spare_space-clause-closing : goal.returns-else-has_spare_space-clause-closing
returns-else-has_spare_space-clause-closing c = λ cs h. (trim-none cs c.args.self.now h c.if-is_blank.ensures c.if-has_spare_space.ensures).1
