use Rattle.typst_candidates.proofs.Cited.{◌+◌, length, arith, ap, sym, ◌∙◌, trees}
use Rattle.typst_candidates.proofs.Found.{ends_of}
use Rattle.typst_candidates.proofs.Edges.{trees_forest}
use Rattle.typst_candidates.proofs.children.Children.of.Goals as goal

pub returns-clause-kids : goal.returns-clause-kids
returns-clause-kids c = sym (trees_forest c.children.result.now) ∙ ap trees c.children.ensures

pub invariant_of-result : goal.invariant_of-result
invariant_of-result c = record {
  ends = λ fits. (let ends = ends_of c.args.at _ c.args.node.now c.children.result.now (sym (trees_forest c.children.result.now) ∙ ap trees c.children.ensures) (ap (λ n. c.args.at + n) (ap length c.leaf_text.ensures)) in omega (arith, fits, ends, c.len.ensures, c.saturating_add.ensures));
}
