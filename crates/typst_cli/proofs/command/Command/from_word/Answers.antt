use Rattle.std.proofs.Common.{rules}
use Rattle.typst_cli.proofs.command.Command.from_word.Goals as goal

pub returns-in-tree : goal.returns-in-tree
returns-in-tree c = search rules
