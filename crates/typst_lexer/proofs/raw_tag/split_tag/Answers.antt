use Rattle.typst_lines.specs.Scanner.{place}
use Rattle.typst_lexer.proofs.Tags.{tag-before, tag-ahead}
use Rattle.typst_lexer.proofs.raw_tag.split_tag.Goals as goal

pub returns-clause-tag : goal.returns-clause-tag
returns-clause-tag c = tag-before c.args.inner.now (place c.new-s.result) (place c.eat_while.new.self) c.new-s.ensures.place c.eat_while.ensures.moved

pub returns-clause-rest : goal.returns-clause-rest
returns-clause-rest c = tag-ahead c.args.inner.now (place c.new-s.result) (place c.eat_while.new.self) c.new-s.ensures.place c.eat_while.ensures.moved
