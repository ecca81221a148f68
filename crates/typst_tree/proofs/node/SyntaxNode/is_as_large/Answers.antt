use Rattle.typst_tree.proofs.Cited.{ap, sym, ◌∙◌, arith, eq-eqb, length, text_of}
use Rattle.typst_tree.proofs.Numbering.{count_bare}
use Rattle.typst_tree.proofs.ReplacesChildren.{text_bare}
use Rattle.typst_tree.proofs.node.SyntaxNode.is_as_large.Goals as goal

pub returns-then-len : goal.returns-then-len
returns-then-len c = grind (arith, count_bare, eq-eqb)

pub returns-else-len : goal.returns-else-len
returns-else-len c = λ e.
    let same = ap length (sym (text_bare c.args.self.now) ∙ (ap text_of e ∙ text_bare c.args.other.now)) in
    eq-eqb c.len.result c.len-2.result (omega (arith, c.len.ensures, c.len-2.ensures, c.self.invariant.0, c.other.invariant.0, ap (λ t. length (text_of t)) c.self.view_is, ap (λ t. length (text_of t)) c.other.view_is, same))
