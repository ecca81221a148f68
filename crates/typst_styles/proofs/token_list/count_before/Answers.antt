use Rattle.typst_styles.proofs.Cited.{◌≡◌, map, nat_lt, rules, subst, sym, IsPartitionPoint-from_clause, map-id, IsParted, AreOrdered, Token}
use Rattle.typst_styles.proofs.RenewedTokens.{parted, parting}
use Rattle.typst_styles.proofs.token_list.count_before.Goals as goal

pub returns-clause-parts : goal.returns-clause-parts
returns-clause-parts c = λ ordered.
    let same : map (λ (t : Token). t) c.args.tokens.now ≡ c.args.tokens.now = map-id _ in
    let ordered_same : AreOrdered 0 (map (λ (t : Token). t) c.args.tokens.now) = subst (AreOrdered 0) (sym same) ordered in
    let point = IsPartitionPoint-from_clause (λ (t : Token). nat_lt t.start c.args.byte) _ c.partition_point.result c.partition_point.ensures.partitioned (parting (λ t. t) c.args.byte _ ordered_same) (λ a r f' k. search rules) in
    subst (λ us. IsParted c.args.byte us c.partition_point.result) same (parted (λ t. t) c.args.byte _ c.partition_point.result point)
