use Rattle.typst_candidates.proofs.Cited.{arith, sym, ap, ◌∙◌, not, ◌||◌, leads, clings, bytes_of}
use Rattle.std.proofs.lemmas.Bool.{or_left}
use Rattle.typst_candidates.proofs.Edges.{holds_none, holds_at_byte, or_right}
use Rattle.typst_candidates.proofs.children.Children.goes_on.Goals as goal

pub returns-then-edge-self : goal.returns-then-edge-self
returns-then-edge-self c = sym (holds_none (λ d. clings d.node || not (leads (bytes_of c.args.cuts.now) d)) c.args.self.now.at c.args.self.now.kids.now c.args.edge.index (omega arith))

pub returns-then-clings : goal.returns-then-clings
returns-then-clings c = c.if-clings.true ∙ sym (holds_at_byte (λ d. clings d.node || not (leads (bytes_of c.args.cuts.now) d)) c.args.self.now.at c.args.self.now.kids.now c.args.edge.index c.args.edge.byte c.index-self-edge.result (omega arith) c.requires.byte ∙ or_left _ _ (sym c.clings.ensures ∙ c.if-clings.true))

pub returns-else-clings : goal.returns-else-clings
returns-else-clings c = ap not c.leads.ensures ∙ sym (holds_at_byte (λ d. clings d.node || not (leads (bytes_of c.args.cuts.now) d)) c.args.self.now.at c.args.self.now.kids.now c.args.edge.index c.args.edge.byte c.index-self-edge.result (omega arith) c.requires.byte ∙ or_right _ _ (sym c.clings.ensures ∙ c.if-clings.false))
