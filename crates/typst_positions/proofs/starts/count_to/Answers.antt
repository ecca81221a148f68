use Rattle.std.proofs.Common.{ℕ, nat_le, rules, sym}
use Rattle.std.proofs.lemmas.List.Sorted.{IsPartitionPoint-from_clause, IsPartitionedBy-leb}
use Rattle.typst_positions.proofs.Holding.{count-point}
use Rattle.typst_positions.proofs.starts.count_to.Goals as goal

pub returns-clause-value : goal.returns-clause-value
returns-clause-value c =
    let point = IsPartitionPoint-from_clause (λ (start : ℕ). nat_le start c.args.most) _ c.partition_point.result c.partition_point.ensures.partitioned
    (IsPartitionedBy-leb (λ (start : ℕ). start) _ c.args.most c.requires) (λ a r f' k. search rules) in
    sym (count-point (λ (start : ℕ). nat_le start c.args.most) _ c.partition_point.result c.partition_point.ensures.bound point)
