use Rattle.std.proofs.Common.{◌-◌, ◌≡◌, drop, take, leb, leb-true, length, arith, rules}
use Rattle.std.proofs.lemmas.List.{length-drop, take_all}
use Rattle.std.proofs.lemmas.List.Sorted.{IsPartitionPoint-from_clause, IsPartitionedBy-leb}
use Rattle.kc_remarks.proofs.Ordered.{first_left_out}
use Rattle.kc_remarks.proofs.attempt.after.Goals as goal

pub returns-clause-same : goal.returns-clause-same
returns-clause-same c =
    let attempts = c.args.attempts.now in
    let first = c.partition_point-first.result in
    let parted = IsPartitionedBy-leb (λ a. a.line) _ c.args.line c.requires in
    let point = IsPartitionPoint-from_clause (λ a. leb a.line c.args.line) _ _ c.partition_point-first.ensures.partitioned parted (λ a r q k. search rules) in
    let rest : take (length attempts - first) (drop first attempts) ≡ drop first attempts = take_all (length attempts - first) (drop first attempts) (omega (arith, length-drop first attempts)) in
    λ life is. rw rest (first_left_out life attempts first (λ k d lt inside. rw is (leb-true _ _ (point.0 k d (omega arith) lt))))
