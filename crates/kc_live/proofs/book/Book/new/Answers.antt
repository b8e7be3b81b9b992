use Rattle.std.specs.List.{AllByRecursion}
use Rattle.kc_model.specs.Volumes.{IsDigest}
use Rattle.kc_live.proofs.Heads.{head_first}
use Rattle.kc_live.proofs.Logs.{kept_new}
use Rattle.kc_live.proofs.book.Book.new.Goals as goal

pub of-requires-clause-header : goal.of-requires-clause-header
of-requires-clause-header c =
    let digests : AllByRecursion IsDigest c.args.config.approved = rw (c.config.ensures.value, c.in_ok-core.ensures.state) at c.see_digests.ensures in
    rw c.in_ok-core.ensures.state (head_first c.args.config c.in_ok-core.ensures.lawful.config digests)

pub invariant_of-result : goal.invariant_of-result
invariant_of-result c =
    let digests : AllByRecursion IsDigest c.args.config.approved = rw (c.config.ensures.value, c.in_ok-core.ensures.state) at c.see_digests.ensures in
    rw (c.in_ok-of.ensures, c.in_ok-core.ensures.state) (kept_new c.args.config digests c.in_ok-core.ensures.lawful)
