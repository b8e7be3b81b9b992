-- What is kept of replies to traces that are read one after another is of all their calls, and so is what is written.
use Rattle.std.proofs.Common.{ℕ, ◌≡◌, ◌≤◌, ◌<◌, ◌+◌, ◌++◌, ◌∷◌, [], true, false, Bool, List, length, length-append, map, take, Option, Some, None, refl, ap, sym, ◌∙◌, subst, arith, inl, inr}
use Rattle.std.specs.Prelude.{IfSome, option_map}
use Rattle.std.specs.Borrow.{Bor}
use Rattle.std.specs.Io.KnownBytes.{Appends, IsAtEnd}
use Rattle.std.proofs.lemmas.Option.{same_Some}
use Rattle.kc_types.specs.Configuration.{Configuration}
use Rattle.kc_types.specs.Limits.{call_limit}
use Rattle.kc_types.specs.declared.call.Call.{Call}
use Rattle.kc_types.specs.declared.reply.Reply.{Reply}
use Rattle.kc_core.specs.KCore.{SeenCore}
use Rattle.kc_model.specs.State.{State}
use Rattle.kc_model.specs.Lawful.{IsLawful}
use Rattle.kc_model.specs.Next.{replies_from, state_after}
use Rattle.kc_model.specs.Custody.{first_line}
use Rattle.kc_model.proofs.Promises.{promises_kept}
use Rattle.kc_model.proofs.States.Runs.{replies_from-append, state_after-append}
use Rattle.kc_model.proofs.States.Sizes.{config-after}
use Rattle.kc_remarks.specs.declared.denials.Answered.{Answered}
use Rattle.kc_remarks.specs.Denials.{IsAnsweredBy}
use Rattle.kc_replay.specs.Replayer.{Replaying, IsFed}
use Rattle.kc_trace.specs.declared.expected.Expected.{Expected}
use Rattle.kc_trace.specs.declared.header.Header.{Header}
use Rattle.kc_trace.specs.CustodyText.{AreInLine}
use Rattle.kc_trace.specs.Expected.{IsRefusedThere}
use Rattle.kc_trace.specs.Trace.{IsTraceUnder}
use Rattle.kc_trace.specs.declared.fault.TraceFault.{TraceFault}
use Rattle.kc_trace.specs.declared.fault.TraceFault.TheVariants.{TooManyCalls}
use Rattle.kc_texts.specs.Ends.{Seen}
use Rattle.kc_texts.specs.Written.{Writes, Begins}
use Rattle.kc_faults.specs.Origins.{BeginsIn}
use Rattle.kc_cli.specs.declared.answering.LinesOrder.{LinesOrder}
use Rattle.kc_cli.specs.declared.answering.ReplayAccount.{ReplayAccount}
use Rattle.kc_cli.specs.declared.sequence.TheConstants.{CALLS_BEFORE}
use Rattle.kc_cli.specs.Answers.{AreAllAnswered}
use Rattle.kc_cli.specs.Custody.{joined, AreVolumes}
use Rattle.kc_cli.specs.Kinds.{IsNextRefused}
use Rattle.kc_cli.specs.Lines.{lines_text, IsLinesText, IsReplayOf, HasReplayed}
use Rattle.kc_cli.specs.Traced.{Traced, IsDigested}
use Rattle.kc_cli.specs.Volumes.{known, IsAdded}
use Rattle.kc_cli.proofs.Counted.{one_each}
use Rattle.kc_cli.proofs.Fed.{left_config}
use Rattle.kc_cli.proofs.Numbered.{numbered}
use Rattle.kc_cli.proofs.Volumes.{joined_last, known_are, in_line, none_entered, entered_more, next_entered}
use Rattle.kc_cli.proofs.Witnessed.{followed_needed}

-- an account before its first trace
pub none_replayed : (order : LinesOrder) (account : ReplayAccount) (core : State) → account.sequence.next ≡ account.sequence.first → IsLawful core → account.sequence.entries.items ≡ [] → account.calls.items ≡ [] → account.replies.items ≡ [] → account.replayer.state ≡ Some core → account.replayer.workers ≡ order.workers
    → HasReplayed order account core []
none_replayed order account core same lawful none calls replies left workers = record {
  of = record {
    lawful = lawful;
    volumes = [];
    read = none_entered false core.config account.sequence none;
    calls = calls;
    replies = replies;
    left = left;
    workers = workers;
    short = omega arith;
  };
  next = same;
}

-- the machine is that of the first state
pub config_left : (order : LinesOrder) (account : ReplayAccount) (m core : State) (sources : List (Option (List ℕ))) → IsReplayOf order account m sources → account.replayer.state ≡ Some core → core.config ≡ m.config
config_left order account m core sources h is =
    let left : core ≡ state_after m (joined h.volumes) = same_Some core (state_after m (joined h.volumes)) (sym is ∙ h.left) in
    ap (λ (n : State). n.config) left ∙ config-after m (joined h.volumes)

-- and so it is after calls that were fed
pub config_fed : (order : LinesOrder) (account : ReplayAccount) (m : State) (sources : List (Option (List ℕ))) (turned fed : Replaying) (calls : List Call) (given : List Reply) → HasReplayed order account m sources → turned.state ≡ account.replayer.state → IsFed turned fed calls given
    → (lent : Option (Bor SeenCore)) {r : Bor SeenCore} → lent ≡ Some r → option_map (λ (it : Bor SeenCore). it.now.state) lent ≡ fed.state → r.now.state.config ≡ m.config
config_fed order account m sources turned fed calls given h state is lent {r} some held =
    let left : fed.state ≡ Some r.now.state = sym held ∙ ap (option_map (λ (it : Bor SeenCore). it.now.state)) some in
    left_config (state_after m (joined h.of.volumes)) r.now.state turned fed calls given (state ∙ h.of.left) left is ∙ config-after m (joined h.of.volumes)

-- as many calls are kept as there are replies
pub few_kept : (kept calls : List Call) (given : List Reply) (a b : Replaying) → kept ≡ calls → IsFed a b calls given → length given ≤ call_limit → length kept ≤ call_limit
few_kept kept calls given a b is fed few = let each = ap length fed.given ∙ one_each fed.start calls in let same = ap length is in omega (arith, each, same, few)

-- one volume more, which these workers made the calls of
pub replay_read : (order : LinesOrder) (old new : ReplayAccount) (m : State) (sources : List (Option (List ℕ))) (source : Option (List ℕ)) (header : Header) (calls : List Call) (given : List Reply) (digest : Option (List ℕ)) (line count : ℕ) (follows : Bool) (turned : Replaying) (machine : Configuration) → (h : HasReplayed order old m sources)
    → new.sequence.first ≡ old.sequence.first → machine ≡ m.config → IsAdded false machine old.sequence new.sequence header digest line count → IfSome source (λ text. IsTraceUnder header text calls) → line ≡ first_line + length old.calls.items → line ≤ first_line + CALLS_BEFORE → count ≡ length calls
    → length given ≤ call_limit → IsDigested follows false (record { header = header; calls = calls }) digest → turned.state ≡ old.replayer.state → turned.workers ≡ old.replayer.workers → IsFed turned new.replayer calls given → new.calls.items ≡ old.calls.items ++ calls → new.replies.items ≡ old.replies.items ++ given
    → IsReplayOf order new m (sources ++ source ∷ []) × (follows ≡ true → HasReplayed order new m (sources ++ source ∷ []))
replay_read order old new m sources source header calls given digest line count follows turned machine h first config came traced at room long few digested state workers fed kept said =
    let before = h.of.volumes in
    let added : IsAdded false m.config old.sequence new.sequence header digest line count = subst (λ (x : Configuration). IsAdded false x old.sequence new.sequence header digest line count) config came in
    let volume : Traced = record { header = header; calls = calls } in
    let start : fed.start ≡ state_after m (joined before) = same_Some fed.start (state_after m (joined before)) (sym fed.from ∙ state ∙ h.of.left) in
    let answers : given ≡ replies_from (state_after m (joined before)) calls = fed.given ∙ ap (λ (n : State). replies_from n calls) start in
    let each : length given ≡ length calls = ap length answers ∙ one_each (state_after m (joined before)) calls in
    let so_far = ap length h.of.calls in
    let both = length-append (joined before) calls in
    let all = joined_last before volume in
    let of : IsReplayOf order new m (sources ++ source ∷ []) = record {
      lawful = h.of.lawful;
      volumes = before ++ volume ∷ [];
      read = entered_more false m.config old.sequence new.sequence sources before source volume digest line count h.of.read h.next first added traced (omega (arith, few, each)) (at ∙ ap (λ n. first_line + n) so_far) long (λ e. absurd cc);
      calls = kept ∙ ap (λ (xs : List Call). xs ++ calls) h.of.calls ∙ sym all;
      replies = said ∙ ap (λ (xs : List Reply). xs ++ given) h.of.replies ∙ ap (λ (xs : List Reply). replies_from m (joined before) ++ xs) answers ∙ sym (replies_from-append m (joined before) calls) ∙ ap (replies_from m) (sym all);
      left = fed.state ∙ ap (λ (n : State). Some (state_after n calls)) start ∙ ap Some (sym (state_after-append m (joined before) calls)) ∙ ap (λ (xs : List Call). Some (state_after m xs)) (sym all);
      workers = fed.workers ∙ workers ∙ h.of.workers;
      short = (let long_all = ap length all in omega (arith, long_all, both, so_far, at, room, few, each));
    } in
    (of, λ is. record { of = of; next = next_entered false false m.config old.sequence new.sequence before volume digest line count added (followed_needed false follows volume digest digested is) })

-- the volumes that were read have too many calls
pub many_refused : (order : LinesOrder) (account : ReplayAccount) (m : State) (sources : List (Option (List ℕ))) (source : Seen) (fault : TraceFault) (line : ℕ) → HasReplayed order account m sources → fault ≡ TooManyCalls → line ≡ first_line + length account.calls.items → first_line + CALLS_BEFORE < line
    → IsNextRefused m.config account.sequence.first sources source fault
many_refused order account m sources source fault line h same at many = record {
  volumes = h.of.volumes;
  traced = h.of.read.traced;
  fault_is = inr (same, (let so_far = ap length h.of.calls in omega (arith, at, so_far, many)));
}

-- the volume is refused where those before it led
pub next_refused : (order : LinesOrder) (account : ReplayAccount) (m : State) (sources : List (Option (List ℕ))) (source : Seen) (fault : TraceFault) → HasReplayed order account m sources → IfSome source.had (λ text. IsRefusedThere m.config account.sequence.next text fault) → IsAtEnd source.has
    → IsNextRefused m.config account.sequence.first sources source fault
next_refused order account m sources source fault h is end = record {
  volumes = h.of.volumes;
  traced = h.of.read.traced;
  fault_is = inl (subst (λ (expected : Expected). IfSome source.had (λ text. IsRefusedThere m.config expected text fault)) h.next is, end);
}

pub few_given : (order : LinesOrder) (account : ReplayAccount) (m : State) (sources : List (Option (List ℕ))) → IsReplayOf order account m sources → length account.replies.items ≤ CALLS_BEFORE + call_limit
few_given order account m sources h = let so_far = ap length h.replies ∙ one_each m (joined h.volumes) in let short = h.short in omega (arith, so_far, short)

pub replayed_in_line : (order : LinesOrder) (account : ReplayAccount) (m : State) (sources : List (Option (List ℕ))) → IsReplayOf order account m sources → AreInLine account.sequence.entries.items
replayed_in_line order account m sources h = subst AreInLine (sym h.read.entries) (in_line false first_line h.volumes)

-- the counts are of all calls
pub replay_answered : (order : LinesOrder) (account : ReplayAccount) (m : State) (start : Option (List ℕ)) (sources : List (Option (List ℕ))) (answered : Answered) (h : IsReplayOf order account m sources) → IsAnsweredBy account.replies.items answered
    → IfSome start (λ text. BeginsIn order.origin text m account.sequence.first) → AreAllAnswered order.origin start (known sources) answered
replay_answered order account m None sources answered h counted begins = tt
replay_answered order account m (Some start) sources answered h counted begins =
    by_texts (known sources) (λ texts all. rw (known_are sources texts all) at h.read.traced) (subst (λ (out : List Reply). IsAnsweredBy out answered) h.replies counted)
  where
    by_texts : (texts : Option (List (List ℕ))) → ((some : List (List ℕ)) → texts ≡ Some some → AreVolumes m.config account.sequence.first (map Some some) h.volumes) → IsAnsweredBy (replies_from m (joined h.volumes)) answered → AreAllAnswered order.origin (Some start) texts answered
    by_texts None traced counted = tt
    by_texts (Some texts) traced counted = (m, account.sequence.first, begins, h.volumes, traced texts refl, counted)

-- what is given of the account
abbrev pub given_text : Configuration → ReplayAccount → List ℕ
given_text config account = lines_text config account.sequence.entries.items account.calls.items account.replies.items

text_is : (order : LinesOrder) (account : ReplayAccount) (m : State) (start : List ℕ) (sources : List (Option (List ℕ))) (texts : List (List ℕ)) (config : Configuration) (h : IsReplayOf order account m sources) → config ≡ m.config → known sources ≡ Some texts → BeginsIn order.origin start m account.sequence.first
    → IsLinesText order.origin start texts (given_text config account)
text_is order account m start sources texts config h machine all begins = record {
  first = m;
  expected = account.sequence.first;
  begins = begins;
  volumes = h.volumes;
  traced = rw (known_are sources texts all) at h.read.traced;
  numbered = numbered m.config account.sequence.first sources h.volumes false first_line h.read.traced;
  promises = promises_kept m (joined h.volumes) h.lawful;
  written = rw (machine, h.read.entries, h.calls, h.replies) refl;
}

-- what the sink took of it is the text of all, if they are known
pub gives_lines : (order : LinesOrder) (account : ReplayAccount) (m : State) (start : Option (List ℕ)) (sources : List (Option (List ℕ))) (config : Configuration) (old new : Option (List ℕ)) (h : IsReplayOf order account m sources) → config ≡ m.config → IfSome start (λ text. BeginsIn order.origin text m account.sequence.first)
    → Appends old new (given_text config account) → Writes (IsLinesText order.origin) start (known sources) old new
gives_lines order account m None sources config old new h machine begins taken = tt
gives_lines order account m (Some start) sources config old new h machine begins taken = by_texts (known sources) (λ texts all. text_is order account m start sources texts config h machine all begins)
  where
    by_texts : (texts : Option (List (List ℕ))) → ((some : List (List ℕ)) → texts ≡ Some some → IsLinesText order.origin start some (given_text config account)) → Writes (IsLinesText order.origin) (Some start) texts old new
    by_texts None made = tt
    by_texts (Some texts) made = (given_text config account, made texts refl, taken)

pub begins_lines : (order : LinesOrder) (account : ReplayAccount) (m : State) (start : Option (List ℕ)) (sources : List (Option (List ℕ))) (config : Configuration) (old new : Option (List ℕ)) (h : IsReplayOf order account m sources) → config ≡ m.config → IfSome start (λ text. BeginsIn order.origin text m account.sequence.first)
    → ((n : ℕ) × Appends old new (take n (given_text config account))) → Begins (IsLinesText order.origin) start (known sources) old new
begins_lines order account m None sources config old new h machine begins taken = tt
begins_lines order account m (Some start) sources config old new h machine begins taken = by_texts (known sources) (λ texts all. text_is order account m start sources texts config h machine all begins)
  where
    by_texts : (texts : Option (List (List ℕ))) → ((some : List (List ℕ)) → texts ≡ Some some → IsLinesText order.origin start some (given_text config account)) → Begins (IsLinesText order.origin) (Some start) texts old new
    by_texts None made = tt
    by_texts (Some texts) made = (given_text config account, taken.0, made texts refl, taken.1)
