use Rattle.typst_language.proofs.Cited.{◌≡◌, length, becomes, rewrapped_each}
use Rattle.typst_language.proofs.parser.Parser.wrap_nested.Given as goal

abbrev pub invariant-froms : goal.invariant-froms
invariant-froms l = rewrapped_each l.froms.items (becomes l.kind) l.self ≡ rewrapped_each l.fn.froms.items (becomes l.kind) l.fn.self

abbrev pub decreases-froms : goal.decreases-froms
decreases-froms l = length l.froms.items
