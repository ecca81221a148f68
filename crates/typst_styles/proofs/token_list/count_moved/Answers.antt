use Rattle.typst_styles.proofs.Cited.{nat_lt, rules, IsPartitionPoint-from_clause, wrapped, Token}
use Rattle.typst_styles.proofs.RenewedTokens.{parted, parting}
use Rattle.typst_styles.proofs.token_list.count_moved.Goals as goal

pub returns-clause-parts : goal.returns-clause-parts
returns-clause-parts c = λ ordered.
    let d = c.args.distance in
    let point =
    IsPartitionPoint-from_clause (λ (t : Token). nat_lt (wrapped d t).start c.args.byte) _ c.partition_point.result c.partition_point.ensures.partitioned (parting (wrapped d) c.args.byte _ ordered) (λ a r f' k. search rules) in
    parted (wrapped d) c.args.byte _ c.partition_point.result point
