use Rattle.typst_candidates.proofs.Cited.{arith, sym, ◌∙◌, is_hash}
use Rattle.typst_candidates.proofs.Edges.{holds_here, holds_none}
use Rattle.typst_candidates.proofs.children.Children.is_hash_at.Goals as goal

pub returns-then-index-self : goal.returns-then-index-self
returns-then-index-self c = sym (holds_none (λ d. is_hash d.node) c.args.self.now.at c.args.self.now.kids.now c.args.index (omega arith))

pub returns : goal.returns
returns c = c.is_hash.ensures ∙ sym (holds_here (λ d. is_hash d.node) c.args.self.now.at c.args.self.now.kids.now c.args.index c.index-self-index.result (omega arith))
