use Rattle.typst_lines.proofs.Cited.{◌≡◌, arith, rules, ap, sym, subst, ◌∙◌, nat_le, refl, IsNonDecreasingBy, line_table, Line, IsPartitionPoint-from_clause, IsPartitionedBy-leb}
use Rattle.typst_lines.proofs.TableOrder.{IsLineUpTo-read, units-ordered, table-some}
use Rattle.typst_lines.proofs.lines.Lines.line_before_utf16.Goals as goal

pub bounds-lines-saturating_sub : goal.bounds-lines-saturating_sub
bounds-lines-saturating_sub g c = grind (arith, table-some)

pub returns : goal.returns
returns g c =
    let xs = c.as_slice-lines.result.now in
    let table : xs ≡ line_table c.args.self.now = c.as_slice-lines.ensures.value ∙ c.self.invariant ∙ ap line_table c.self.view_is in
    let sorted = subst (IsNonDecreasingBy (λ (l : Line). l.utf16_idx)) (sym table) (units-ordered c.args.self.now) in
    let point = IsPartitionPoint-from_clause (λ (l : Line). nat_le l.utf16_idx c.args.utf16_idx) xs c.partition_point-after.result c.partition_point-after.ensures.partitioned
    (IsPartitionedBy-leb (λ (l : Line). l.utf16_idx) xs c.args.utf16_idx sorted) (λ a r f' k. search rules) in
    (IsLineUpTo-read c.args.self.now xs c.args.utf16_idx c.partition_point-after.result c.saturating_sub.result _ _ table c.partition_point-after.ensures.bound point c.saturating_sub.ensures refl).1
