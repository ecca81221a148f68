use Rattle.typst_fixes.proofs.Cited.{rules, ◌≡◌, true, false, length, Some, ap, sym, ◌∙◌, arith, nat_lt, not, option_map, same, standing, takes_backslash}
use Rattle.std.proofs.lemmas.Bool.Decides.{nat_tests}
use Rattle.typst_kinds.specs.declared.kind.SyntaxKind.TheVariants as node
use Rattle.typst_fixes.proofs.Backslashes.{in_long, in_short}
use Rattle.typst_fixes.proofs.fixes.Fault.takes_backslash.Goals as goal

pub returns-then-children-gt-LONG_ROW : goal.returns-then-children-gt-LONG_ROW
returns-then-children-gt-LONG_ROW c =
    let b = c.args.self.now.problem.start in
    let p = standing c.in-Some.parent in
    let is : c.args.self.now.site.parent ≡ Some c.in-Some.parent = search rules in
    let markup : same node.Markup p.node.head.kind ≡ true = ap (same node.Markup) (sym c.kind.ensures) ∙ sym c.same.ensures.same ∙ c.if-not-same.false in
    let long : nat_lt 1024 (length c.children.result.now) ≡ true = grind (arith, nat_tests, c.if-children-gt-LONG_ROW.true) in
    sym (ap (λ o. takes_backslash (option_map standing o) b) is ∙ in_long p b _ c.children.ensures markup long)

pub returns : goal.returns
returns c =
    let b = c.args.self.now.problem.start in
    let p = standing c.in-Some.parent in
    let is : c.args.self.now.site.parent ≡ Some c.in-Some.parent = search rules in
    let markup : same node.Markup p.node.head.kind ≡ true = ap (same node.Markup) (sym c.kind.ensures) ∙ sym c.same.ensures.same ∙ c.if-not-same.false in
    let short : nat_lt 1024 (length c.children.result.now) ≡ false = grind (arith, nat_tests, c.if-children-gt-LONG_ROW.false) in
    ap not c.is_kept.ensures ∙ sym (ap (λ o. takes_backslash (option_map standing o) b) is ∙ in_short p b _ c.children.ensures markup short)
