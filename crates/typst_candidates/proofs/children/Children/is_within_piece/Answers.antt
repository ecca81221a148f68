use Rattle.typst_candidates.proofs.Cited.{arith, sym, ap, ◌∙◌, not, leads, bytes_of}
use Rattle.typst_candidates.proofs.Edges.{holds_none, holds_at_byte}
use Rattle.typst_candidates.proofs.children.Children.is_within_piece.Goals as goal

pub returns-then-edge-self : goal.returns-then-edge-self
returns-then-edge-self c = sym (holds_none (λ d. not (leads (bytes_of c.args.cuts.now) d)) c.args.self.now.at c.args.self.now.kids.now c.args.edge.index (omega arith))

pub returns : goal.returns
returns c = ap not c.leads.ensures ∙ sym (holds_at_byte (λ d. not (leads (bytes_of c.args.cuts.now) d)) c.args.self.now.at c.args.self.now.kids.now c.args.edge.index c.args.edge.byte c.index-self-edge.result (omega arith) c.requires.byte)
