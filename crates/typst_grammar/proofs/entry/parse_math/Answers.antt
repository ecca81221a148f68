use Rattle.typst_grammar.proofs.Cited.{◌≡◌, ◌∙◌, true, false, ap, subst, sym, encodes-chars, chars, Tree, forest, inner_of, text_of, tree_math, binds, has_errors}
use Rattle.typst_kinds.specs.declared.kind.SyntaxKind.TheVariants as kind
use Rattle.typst_grammar.proofs.WholeMath.{leaves-math}
use Rattle.typst_grammar.proofs.Knot.{binding-math}
use Rattle.typst_grammar.proofs.entry.parse_math.Goals as goal

pub returns-clause-tree : goal.returns-clause-tree
unfolding tree_math
returns-clause-tree g c = c.in_ok-root.ensures ∙ ap (λ ts. inner_of kind.Math (forest ts)) (c.finish-nodes.ensures.nodes ∙ c.in_ok-read.ensures.nodes)

pub returns-clause-leaves : goal.returns-clause-leaves
unfolding tree_math
returns-clause-leaves g c =
    ap text_of (c.in_ok-root.ensures ∙ ap (λ ts. inner_of kind.Math (forest ts)) (c.finish-nodes.ensures.nodes ∙ c.in_ok-read.ensures.nodes))
    ∙ leaves-math (g.C.Classes.classes c.args.classes.now) (chars c.args.text.now) ∙ encodes-chars c.args.text.now c.utf8.text

pub returns-clause-binding : goal.returns-clause-binding
unfolding tree_math
returns-clause-binding g c =
    let is = c.in_ok-root.ensures ∙ ap (λ ts. inner_of kind.Math (forest ts)) (c.finish-nodes.ensures.nodes ∙ c.in_ok-read.ensures.nodes) in
    let k = g.C.Classes.classes c.args.classes.now in
    subst (λ (t : Tree). has_errors t ≡ false → binds t ≡ true) (sym is) (binding-math k (chars c.args.text.now))
