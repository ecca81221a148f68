use Rattle.typst_grammar.proofs.Cited.{◌≡◌, ◌∙◌, true, false, ap, subst, sym, List, Some, Log, encodes-chars, chars, Tree, forest, inner_of, text_of, tree, binds, has_errors, Note}
use Rattle.typst_tokens.specs.declared.hull.Hull.{Hull}
use Rattle.typst_kinds.specs.declared.kind.SyntaxKind.TheVariants as kind
use Rattle.typst_grammar.proofs.AtLevels.{noted-log}
use Rattle.typst_grammar.proofs.Whole.{leaves}
use Rattle.typst_grammar.proofs.Knot.{binding-markup}
use Rattle.typst_grammar.proofs.entry.parse_noted.Goals as goal

-- what was looked at and noted, as a log
abbrev log-of : Hull → List Note → Log
log-of u ns = record { reach = u.reach; least = u.least; notes = Some ns }

pub returns-clause-tree : goal.returns-clause-tree
unfolding tree
returns-clause-tree g c = c.in_ok-tree.ensures ∙ ap (λ ts. inner_of kind.Markup (forest ts)) (c.finish-nodes.ensures.nodes ∙ c.in_ok-read.ensures.nodes)

pub returns-clause-log : goal.returns-clause-log
returns-clause-log g c =
    ap (λ (u : Hull). log-of u c.finish-nodes.result.1.items) c.finish-nodes.ensures.hull
    ∙ noted-log (g.C.Classes.classes c.args.classes.now) (chars c.args.text.now) _ _ c.in_ok-read.ensures c.finish-nodes.ensures.notes

pub returns-clause-leaves : goal.returns-clause-leaves
unfolding tree
returns-clause-leaves g c =
    ap text_of (c.in_ok-tree.ensures ∙ ap (λ ts. inner_of kind.Markup (forest ts)) (c.finish-nodes.ensures.nodes ∙ c.in_ok-read.ensures.nodes))
    ∙ leaves (g.C.Classes.classes c.args.classes.now) (chars c.args.text.now) ∙ encodes-chars c.args.text.now c.utf8.text

pub returns-clause-binding : goal.returns-clause-binding
unfolding tree
returns-clause-binding g c =
    let is = c.in_ok-tree.ensures ∙ ap (λ ts. inner_of kind.Markup (forest ts)) (c.finish-nodes.ensures.nodes ∙ c.in_ok-read.ensures.nodes) in
    let k = g.C.Classes.classes c.args.classes.now in
    subst (λ (t : Tree). has_errors t ≡ false → binds t ≡ true) (sym is) (binding-markup k (chars c.args.text.now))
