use Rattle.std.proofs.Common.{ltb, ltb-false, length, arith, rules}
use Rattle.std.proofs.lemmas.List.Sorted.{IsPartitionPoint-from_clause, IsPartitionedBy-ltb}
use Rattle.kc_remarks.proofs.Ordered.{last_left_out}
use Rattle.kc_remarks.proofs.attempt.before.Goals as goal

pub returns : goal.returns
returns c =
    let parted = IsPartitionedBy-ltb (λ a. a.line) _ c.args.line c.requires in
    let point = IsPartitionPoint-from_clause (λ a. ltb a.line c.args.line) _ _ c.partition_point-end.ensures.partitioned parted (λ a r q k. search rules) in
    λ life is. last_left_out life c.args.line c.args.attempts.now c.partition_point-end.result is (λ k d le lt. ltb-false _ _ (point.1 k d le lt))
