use Rattle.std.proofs.Common.{length, ◌-◌}
use Rattle.typst_language.proofs.parser.Parser.guessed.Given as goal

abbrev pub invariant-entries : goal.invariant-entries
invariant-entries g l = Unit {0}

abbrev pub decreases-entries : goal.decreases-entries
decreases-entries g l = length l.self-inside.memo.items - l.at
