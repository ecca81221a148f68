use Rattle.typst_candidates.proofs.Cited.{arith, sym, ◌∙◌, clings}
use Rattle.typst_candidates.proofs.Edges.{holds_here, holds_none}
use Rattle.typst_candidates.proofs.children.Children.clings_at.Goals as goal

pub returns-then-index-self : goal.returns-then-index-self
returns-then-index-self c = sym (holds_none (λ d. clings d.node) c.args.self.now.at c.args.self.now.kids.now c.args.index (omega arith))

pub returns : goal.returns
returns c = c.clings.ensures ∙ sym (holds_here (λ d. clings d.node) c.args.self.now.at c.args.self.now.kids.now c.args.index c.index-self-index.result (omega arith))
