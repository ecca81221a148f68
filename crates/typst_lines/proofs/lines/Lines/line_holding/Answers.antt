use Rattle.typst_lines.proofs.Cited.{◌≡◌, ◌-◌, arith, rules, sym, ap, ◌∙◌, subst, nat_le, count_by, IsNonDecreasingBy, line_table, line_of, Line, IsPartitionPoint-from_clause, IsPartitionedBy-leb}
use Rattle.typst_lines.proofs.TableOrder.{count_by-point, bytes-ordered, table-some}
use Rattle.typst_lines.proofs.lines.Lines.line_holding.Goals as goal

pub returns-clause-value : goal.returns-clause-value
unfolding line_of
returns-clause-value g c =
    let xs = c.as_slice.result.now in
    let table : xs ≡ line_table c.args.self.now = c.as_slice.ensures.value ∙ c.self.invariant ∙ ap line_table c.self.view_is in
    let sorted = subst (IsNonDecreasingBy (λ (l : Line). l.byte_idx)) (sym table) (bytes-ordered c.args.self.now) in
    let point = IsPartitionPoint-from_clause (λ (l : Line). nat_le l.byte_idx c.args.byte_idx) xs c.partition_point.result c.partition_point.ensures.partitioned
    (IsPartitionedBy-leb (λ (l : Line). l.byte_idx) xs c.args.byte_idx sorted) (λ a r f' k. search rules) in
    c.saturating_sub.ensures
    ∙ ap (λ n. n - 1) (sym (count_by-point _ xs _ c.partition_point.ensures.bound point) ∙ ap (count_by (λ (l : Line). nat_le l.byte_idx c.args.byte_idx)) table)

pub returns-clause-within : goal.returns-clause-within
returns-clause-within g c = grind (arith, table-some)
