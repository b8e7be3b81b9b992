use Rattle.std.proofs.Common.{Err, ap, refl, arith}
use Rattle.std.proofs.lemmas.Result.{err_from_is_err_and}
use Rattle.kc_replay.specs.Replayer.{Replaying}
use Rattle.kc_faults.specs.declared.fault.TextFault.TheVariants as texts
use Rattle.kc_faults.proofs.Told.{has_texts, texts_start, texts_trace, texts_misplaced, texts_ok, replay_ok, replay_trace, replay_lacks}
use Rattle.kc_faults.proofs.Placed.{known_refused_there}
use Rattle.kc_cli.proofs.Fed.{replayed, misfed}
use Rattle.kc_cli.proofs.Replayed.{are_replayed, answered_so}
use Rattle.kc_cli.proofs.replaying.replay_texts.Goals as goal

pub returns-in_err-core-clause-texts : goal.returns-in_err-core-clause-texts
returns-in_err-core-clause-texts g c =
    let made = err_from_is_err_and c.from_residual.result c.from_residual.ensures.1 in
    rw (made.1, made.2) (texts_start _ _ _ _ c.in_err-core.field-0.0 (λ said same. c.in_err-core.ensures.config said (ap Err same)) (λ said same. c.in_err-core.ensures.state said (ap Err same)) c.in_err-core.ensures.fault refl)

pub returns-then-lacks_text-clause-texts : goal.returns-then-lacks_text-clause-texts
returns-then-lacks_text-clause-texts g c =
    texts_trace c.args.order.origin _ _ _ c.in_ok-core.field-0.core.state c.in_ok-core.field-0.expected texts.NoText c.in_ok-core.ensures.ok (λ said e. absurd cc) (λ said e. cc) (λ said e. cc) (λ e. cc, λ e. cc, λ e. cc, λ d e. cc)

pub returns-then-lacks_text-clause-replay : goal.returns-then-lacks_text-clause-replay
returns-then-lacks_text-clause-replay g c =
    let some = c.if-order-eq0.false in
    let few = c.if-order-gt-WORKER_LIMIT.false in
    let is = c.lacks_text.ensures.lacks c.if-lacks_text.true in
    replay_lacks _ _ _ _ _ c.in_ok-core.field-0.core.state c.in_ok-core.field-0.expected is.0 c.in_ok-core.ensures.ok is.1 refl (omega (arith, some)) (omega (arith, few))

pub returns-in-Err-clause-texts : goal.returns-in-Err-clause-texts
returns-in-Err-clause-texts g c =
    let is = c.in-Err.ensures.fault in
    texts_trace c.args.order.origin _ _ _ c.in_ok-core.field-0.core.state c.in_ok-core.field-0.expected c.in-Err.fault c.in_ok-core.ensures.ok (λ said same. let is = c.in-Err.ensures.trace said (ap Err same) in (known_refused_there _ _ _ said is.0, is.1)) is.config is.state is.told

pub returns-in-Some-clause-texts : goal.returns-in-Some-clause-texts
returns-in-Some-clause-texts g c =
    let start = c.in_ok-core.field-0 in
    let fed = c.in-Ok-feed_source.field-0 in
    texts_misplaced _ _ _ _ start.core.state start.expected c.in-Some.wrong c.in_ok-core.ensures.ok
    (misfed _ _ fed.header start.expected _ start.core.state c.in-Ok.replayer c.feed_source.new.replayer fed.calls.items fed.replies.items fed.digest c.in-Ok-finish.core.state c.in-Some.wrong (ap (λ (r : Replaying). r.state) c.in-Ok.ensures.start) c.in-Ok-finish.ensures.core c.in-Ok-feed_source.ensures.ok (rw c.config.ensures.value at c.in-Some.ensures))
    c.in-Ok-feed_source.ensures.ended

pub returns-in-Some-clause-replay : goal.returns-in-Some-clause-replay
returns-in-Some-clause-replay g c =
    let some = c.if-order-eq0.false in
    let few = c.if-order-gt-WORKER_LIMIT.false in
    replay_trace _ _ _ _ _ _ (omega (arith, some)) (omega (arith, few))

pub returns-in_default-fault-clause-replay : goal.returns-in_default-fault-clause-replay
returns-in_default-fault-clause-replay g c =
    let some = c.if-order-eq0.false in
    let few = c.if-order-gt-WORKER_LIMIT.false in
    replay_ok _ _ _ _ _ _ (λ wanted. has_texts _ _ c.in_ok-core.field-0.core.state c.in_ok-core.field-0.expected c.in_ok-core.ensures.ok (c.lacks_text.ensures.has c.if-lacks_text.false wanted)) (omega (arith, some)) (omega (arith, few))

pub returns-in_default-fault-clause-ok : goal.returns-in_default-fault-clause-ok
returns-in_default-fault-clause-ok g c =
    let start = c.in_ok-core.field-0 in
    let fed = c.in-Ok-feed_source.field-0 in
    rw c.after-next.ensures (are_replayed _ _ c.args.is_placed _ _ start.core.state start.expected fed.calls.items fed.replies.items c.in-Ok-finish.core.state _ c.in_ok-core.ensures.ok
    (replayed _ _ fed.header start.expected _ start.core.state c.in-Ok.replayer c.feed_source.new.replayer fed.calls.items fed.replies.items fed.digest c.in-Ok-finish.core.state c.in_ok-core.ensures.lawful (ap (λ (r : Replaying). r.state) c.in-Ok.ensures.start) c.in-Ok-finish.ensures.core c.in-Ok-feed_source.ensures.ok (rw c.config.ensures.value at c.in_default-fault.ensures)))

pub returns-in_default-fault-clause-answered : goal.returns-in_default-fault-clause-answered
returns-in_default-fault-clause-answered g c =
    let start = c.in_ok-core.field-0 in
    let fed = c.in-Ok-feed_source.field-0 in
    answered_so c.args.order.origin c.args.order.form c.args.is_placed _ _ fed.calls.items fed.replies.items c.in-Ok-finish.core.state _ _
    (are_replayed _ _ c.args.is_placed _ _ start.core.state start.expected fed.calls.items fed.replies.items c.in-Ok-finish.core.state _ c.in_ok-core.ensures.ok
    (replayed _ _ fed.header start.expected _ start.core.state c.in-Ok.replayer c.feed_source.new.replayer fed.calls.items fed.replies.items fed.digest c.in-Ok-finish.core.state c.in_ok-core.ensures.lawful (ap (λ (r : Replaying). r.state) c.in-Ok.ensures.start) c.in-Ok-finish.ensures.core c.in-Ok-feed_source.ensures.ok (rw c.config.ensures.value at c.in_default-fault.ensures)))
    (rw c.deref.ensures.value at c.of-answered.ensures)

pub returns-in_default-fault-clause-texts : goal.returns-in_default-fault-clause-texts
returns-in_default-fault-clause-texts g c = texts_ok c.args.order.origin _ _ _ c.in_ok-core.field-0.core.state c.in_ok-core.field-0.expected _ c.in_ok-core.ensures.ok
