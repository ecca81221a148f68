use Rattle.std.proofs.Common.{rules}
use Rattle.typst_kinds.proofs.own.Own.same_bare.Goals as goal

pub returns-then-is_inner : goal.returns-then-is_inner
returns-then-is_inner c = search rules
