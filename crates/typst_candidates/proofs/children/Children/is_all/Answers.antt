use Rattle.std.proofs.Common.{refl}
use Rattle.typst_candidates.proofs.Edges.{laid_length}
use Rattle.typst_candidates.proofs.children.Children.is_all.Goals as goal

pub returns-then-range-eq0 : goal.returns-then-range-eq0
returns-then-range-eq0 c = rw (laid_length c.args.self.now.at c.args.self.now.kids.now, c.if-range-eq0.true) refl
