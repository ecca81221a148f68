use Rattle.std.proofs.Common.{rules}
use Rattle.typst_cli.proofs.failure.Failure.tell.Goals as goal

pub returns-clause-whole : goal.returns-clause-whole
returns-clause-whole c = search rules

pub returns-clause-begins : goal.returns-clause-begins
returns-clause-begins c = search rules
