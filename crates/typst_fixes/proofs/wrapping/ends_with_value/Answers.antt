use Rattle.typst_fixes.proofs.Cited.{rules, ◌≡◌, ap, sym, ◌∙◌, trees, ends_with_value}
use Rattle.typst_kinds.specs.declared.kind.SyntaxKind.TheVariants as node
use Rattle.typst_fixes.proofs.WayToByte.{children}
use Rattle.typst_fixes.proofs.wrapping.ends_with_value.Goals as goal

pub returns-in-LetBinding : goal.returns-in-LetBinding
returns-in-LetBinding c =
    let code = c.args.code.now in
    let is : node.LetBinding ≡ code.head.kind = search rules in
    c.has_value.ensures ∙ ap (λ ts. ends_with_value node.LetBinding ts) (children c.children.result.now code.kids c.children.ensures) ∙ ap (λ k. ends_with_value k (trees code.kids)) is
