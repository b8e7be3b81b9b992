-- What is kept of traces that are read one after another is of all their calls, and so is what is written.
use Rattle.std.proofs.Common.{ℕ, ◌≡◌, ◌≤◌, ◌<◌, ◌+◌, ◌-◌, ◌++◌, ◌||◌, true, inl, inr, All, zero, suc, get_or, Bool, List, [], ◌∷◌, length, length-append, map, Option, Some, None, refl, ap, sym, ◌∙◌, subst, arith, append_assoc}
use Rattle.std.proofs.lemmas.List.{append-nil}
use Rattle.std.specs.Prelude.{IfSome, option_map}
use Rattle.kc_types.specs.Limits.{call_limit}
use Rattle.kc_types.specs.declared.call.Call.{Call}
use Rattle.kc_model.specs.State.{State}
use Rattle.kc_model.specs.Lawful.{IsLawful}
use Rattle.kc_model.specs.Next.{replies_from}
use Rattle.kc_model.specs.Custody.{first_line}
use Rattle.kc_remarks.specs.Remarks.{notes}
use Rattle.kc_remarks.specs.Denials.{AreCounts, IsAnsweredBy}
use Rattle.kc_remarks.specs.declared.denials.Denials.{Denials}
use Rattle.kc_remarks.specs.declared.denials.Answered.{Answered}
use Rattle.kc_trace.specs.CustodyText.{AreInLine}
use Rattle.kc_types.specs.Configuration.{Configuration}
use Rattle.kc_trace.specs.declared.expected.Expected.{Expected}
use Rattle.kc_trace.specs.Trace.{IsTraceUnder}
use Rattle.kc_trace.specs.Header.{is_host_redacted}
use Rattle.kc_trace.specs.Expected.{MayHave, IsRefusedThere, head_number, expected_after}
use Rattle.kc_trace.specs.declared.fault.TraceFault.{TraceFault}
use Rattle.kc_trace.specs.declared.fault.TraceFault.TheVariants.{TooManyCalls}
use Rattle.kc_texts.specs.Ends.{Seen}
use Rattle.std.specs.Io.KnownBytes.{IsAtEnd}
use Rattle.kc_model.proofs.States.Sizes.{config-after}
use Rattle.kc_trace.specs.declared.volume_writer.VolumeEntry.{VolumeEntry}
use Rattle.kc_texts.specs.declared.order.Origin.{Origin}
use Rattle.kc_faults.specs.Origins.{BeginsIn}
use Rattle.kc_texts.specs.Written.{Writes, Begins}
use Rattle.kc_cli.specs.declared.account.Told.{Told}
use Rattle.kc_cli.specs.declared.custody.CustodyOrder.{CustodyOrder}
use Rattle.kc_cli.specs.declared.custody.CustodyAccount.{CustodyAccount}
use Rattle.kc_cli.specs.Answers.{AreAllAnswered}
use Rattle.kc_cli.specs.Traced.{Traced, IsDigested, digest_if, expected_next, expected_last, trace_named}
use Rattle.kc_cli.specs.declared.sequence.Sequence.{Sequence}
use Rattle.kc_cli.specs.declared.sequence.TheConstants.{CALLS_BEFORE}
use Rattle.kc_cli.specs.Kinds.{IsNextRefused}
use Rattle.kc_texts.specs.Orders.{names_trace, names_start}
use Rattle.kc_cli.specs.Custody.{joined, AreVolumes, IsMadeOf, IsCustodyText, NamesStart, entry_of, entries_of, entries_in, heading_of, listed, chain_of, first_number, trace_digest, numbers_in, lacks_digest, order_by}
use Rattle.kc_cli.specs.Headings.{digests_by, heading_by}
use Rattle.kc_texts.specs.declared.order.Scope.{Scope}
use Rattle.kc_trace.specs.declared.custody_writer.Digests.{Digests}
use Rattle.kc_trace.specs.declared.custody_writer.Heading.{Heading}
use Rattle.kc_trace.specs.declared.volume_writer.Order.{Order}
use Rattle.kc_trace.specs.declared.volume_writer.Chain.{Chain}
use Rattle.kc_texts.specs.declared.order.CustodyForm.{CustodyForm}
use Rattle.kc_cli.specs.declared.ledger.Ledger.{Ledger}
use Rattle.kc_types.specs.declared.custody.Event.{Event}
use Rattle.kc_custody.specs.Within.{IsWithin}
use Rattle.kc_custody.proofs.Traced.{before-within, events-within}
use Rattle.kc_remarks.proofs.Events.{events-of-notes}
use Rattle.kc_cli.specs.Ledgers.{HasKept, Keeps, events_kept, IsGiven, IsGivenOf, GivesAccount, BeginsAccount}
use Rattle.kc_cli.specs.Volumes.{known, IsAdded, AreEntered, IsAccountOf, HasTold, HasBegun}
use Rattle.kc_cli.proofs.Placed.{next_is}
use Rattle.kc_cli.proofs.Witnessed.{named_needed, followed_needed}
use Rattle.kc_cli.proofs.Counted.{one_each, answered_by}
use Rattle.kc_cli.proofs.Headings.{headed}
use Rattle.kc_cli.proofs.Blind.{made_blind}
use Rattle.kc_cli.proofs.Ledgers.{account_given, kept_within}
use Rattle.kc_cli.proofs.Told.{is_told}
use Rattle.kc_cli.proofs.Numbered.{numbered}

-- one volume more
pub joined_last : (volumes : List Traced) (volume : Traced) → joined (volumes ++ volume ∷ []) ≡ joined volumes ++ volume.calls
joined_last [] volume = append-nil volume.calls
joined_last (one ∷ volumes) volume = ap (λ (more : List Call). one.calls ++ more) (joined_last volumes volume) ∙ sym (append_assoc one.calls (joined volumes) volume.calls)

-- what may come after the last one
pub next_last : (expected : Expected) (volumes : List Traced) (volume : Traced) → expected_last expected (volumes ++ volume ∷ []) ≡ expected_next volume
next_last expected [] volume = refl
next_last expected (one ∷ volumes) volume = next_last (expected_next one) volumes volume

pub volumes_last : (config : Configuration) (expected : Expected) (sources : List (Option (List ℕ))) (volumes : List Traced) (source : Option (List ℕ)) (volume : Traced) → AreVolumes config expected sources volumes
    → MayHave config (expected_last expected volumes) volume.header → IfSome source (λ text. IsTraceUnder volume.header text volume.calls) → length volume.calls ≤ call_limit → AreVolumes config expected (sources ++ source ∷ []) (volumes ++ volume ∷ [])
volumes_last config expected [] [] source volume are may traced few = (may, traced, few, tt)
volumes_last config expected [] (one ∷ volumes) source volume are may traced few = absurd are
volumes_last config expected (one ∷ sources) [] source volume are may traced few = absurd are
volumes_last config expected (one ∷ sources) (some ∷ volumes) source volume are may traced few = (are.0, are.1, are.2, volumes_last config (expected_next some) sources volumes source volume are.3 may traced few)

pub entries_last : (named : Bool) (line : ℕ) (volumes : List Traced) (volume : Traced) (entry : VolumeEntry) → entry.line ≡ line + length (joined volumes) → entry.calls ≡ length volume.calls → entry.number ≡ head_number volume.header → entry.is_host_redacted ≡ is_host_redacted volume.header → entry.digest ≡ trace_named named volume
    → entries_of named line volumes ++ entry ∷ [] ≡ entries_of named line (volumes ++ volume ∷ [])
entries_last named line [] volume entry at long number hidden digest =
    let here : entry.line ≡ line = omega (arith, at) in
    rw (← here, ← long, ← number, ← hidden, ← digest) refl
entries_last named line (v ∷ volumes) volume entry at long number hidden digest =
    let both = length-append v.calls (joined volumes) in
    let after : entry.line ≡ (line + length v.calls) + length (joined volumes) = omega (arith, at, both) in
    ap (λ (rest : List VolumeEntry). entry_of named line v ∷ rest) (entries_last named (line + length v.calls) volumes volume entry after long number hidden digest)

-- one volume more was read
pub entered_more : (named : Bool) (config : Configuration) (old new : Sequence) (sources : List (Option (List ℕ))) (before : List Traced) (source : Option (List ℕ)) (volume : Traced) (digest : Option (List ℕ)) (line calls : ℕ)
    → AreEntered named config old sources before → old.next ≡ expected_last old.first before → new.first ≡ old.first → IsAdded named config old new volume.header digest line calls
    → IfSome source (λ text. IsTraceUnder volume.header text volume.calls) → length volume.calls ≤ call_limit → line ≡ first_line + length (joined before) → calls ≡ length volume.calls → (named ≡ true → digest ≡ digest_if true volume)
    → AreEntered named config new (sources ++ source ∷ []) (before ++ volume ∷ [])
entered_more named config old new sources before source volume digest line calls h next first added traced few at long digested = record {
  traced =
      subst (λ (e : Expected). AreVolumes config e (sources ++ source ∷ []) (before ++ volume ∷ [])) (sym first)
      (volumes_last config old.first sources before source volume h.traced (subst (λ (e : Expected). MayHave config e volume.header) next added.may) traced few);
  entries = added.pushed ∙ ap (λ (entries : List VolumeEntry). entries ++ added.entry ∷ []) h.entries
      ∙ entries_last named first_line before volume added.entry (added.at ∙ at) (added.count ∙ long) added.number added.hidden (added.digest_is volume digested);
  counted = (let pushed = ap length added.pushed ∙ length-append old.entries.items (added.entry ∷ []) in let room = added.room in omega (arith, pushed, room));
}

-- and it is known what may come after it
pub next_entered : (asked named : Bool) (config : Configuration) (old new : Sequence) (before : List Traced) (volume : Traced) (digest : Option (List ℕ)) (line calls : ℕ) → IsAdded named config old new volume.header digest line calls → digest ≡ digest_if asked volume
    → new.next ≡ expected_last new.first (before ++ volume ∷ [])
next_entered asked named config old new before volume digest line calls added is =
    added.next ∙ ap (expected_after volume.header) is ∙ next_is asked volume ∙ sym (next_last new.first before volume)

-- an account of custody that has read one volume more
pub custody_read : (order : CustodyOrder) (old new : CustodyAccount) (m : State) (sources : List (Option (List ℕ))) (source : Option (List ℕ)) (volume : Traced) (digest : Option (List ℕ)) (follows : Bool) (machine : Configuration) (named : Bool) → (h : HasTold order old m sources) → new.order ≡ old.order → new.sequence.first ≡ old.sequence.first → machine ≡ m.config → named ≡ names_trace order.scope.named
    → IsAdded named machine old.sequence new.sequence volume.header digest old.kept.line (new.kept.line - old.kept.line) → IfSome source (λ text. IsTraceUnder volume.header text volume.calls) → length volume.calls ≤ call_limit → new.kept.line ≡ old.kept.line + length volume.calls
    → IsDigested (named || follows) named volume digest → ((before : List Call) → HasKept order.form m before old.core.state old.kept → HasKept order.form m (before ++ volume.calls) new.core.state new.kept)
    → IsAccountOf order new m (sources ++ source ∷ []) × (follows ≡ true → HasTold order new m (sources ++ source ∷ []))
custody_read order old new m sources source volume digest follows machine named h same first config is_named added traced few at digested more =
    let before = h.of.volumes in
    let line = old.kept.line in
    let count = new.kept.line - line in
    let long : count ≡ length volume.calls = omega (arith, at) in
    let here : IsAdded named m.config old.sequence new.sequence volume.header digest line count = subst (λ (x : Configuration). IsAdded named x old.sequence new.sequence volume.header digest line count) config added in
    let entered = entered_more named m.config old.sequence new.sequence sources before source volume digest line count (subst (λ (b : Bool). AreEntered b m.config old.sequence sources before) (sym is_named) h.of.read) h.next first here traced few h.of.kept.line long (named_needed named follows volume digest digested) in
    let of : IsAccountOf order new m (sources ++ source ∷ []) = record {
      ordered = same ∙ h.of.ordered;
      lawful = h.of.lawful;
      volumes = before ++ volume ∷ [];
      read = subst (λ (b : Bool). AreEntered b m.config new.sequence (sources ++ source ∷ []) (before ++ volume ∷ [])) is_named entered;
      kept = subst (λ (all : List Call). HasKept order.form m all new.core.state new.kept) (sym (joined_last before volume)) (more (joined before) h.of.kept);
    } in
    (of, λ is. record { of = of; next = next_entered named named m.config old.sequence new.sequence before volume digest line count here (followed_needed named follows volume digest digested is) })

-- the account began where it did
pub still_begun : (order : CustodyOrder) (old new : CustodyAccount) (m : State) (start : Option (List ℕ)) → new.sequence.first ≡ old.sequence.first → new.start ≡ old.start → HasBegun order old m start → HasBegun order new m start
still_begun order old new m start first same h = record {
  begins = subst (λ (e : Expected). IfSome start (λ text. BeginsIn order.origin text m e)) (sym first) h.begins;
  digest = subst (λ (e : Expected). NamesStart (names_start order.scope.named) order.origin start m e new.start) (sym first)
      (subst (λ (d : Option (List ℕ)). NamesStart (names_start order.scope.named) order.origin start m old.sequence.first d) (sym same) h.digest);
}

-- the machine is that of the first state
pub config_told : (order : CustodyOrder) (account : CustodyAccount) (m : State) (sources : List (Option (List ℕ))) → HasTold order account m sources → account.core.state.config ≡ m.config
config_told order account m sources h = ap (λ (n : State). n.config) h.of.kept.left ∙ config-after m (joined h.of.volumes)

-- the volumes that were read have too many calls
pub full_refused : (order : CustodyOrder) (account : CustodyAccount) (m : State) (sources : List (Option (List ℕ))) (source : Seen) (fault : TraceFault) → HasTold order account m sources → fault ≡ TooManyCalls → first_line + CALLS_BEFORE < account.kept.line → IsNextRefused m.config account.sequence.first sources source fault
full_refused order account m sources source fault h same many = record {
  volumes = h.of.volumes;
  traced = h.of.read.traced;
  fault_is = inr (same, (let line = h.of.kept.line in omega (arith, line, many)));
}

-- the volume is refused where those before it led
pub there_refused : (order : CustodyOrder) (account : CustodyAccount) (m : State) (sources : List (Option (List ℕ))) (source : Seen) (fault : TraceFault) → HasTold order account m sources → IfSome source.had (λ text. IsRefusedThere m.config account.sequence.next text fault) → IsAtEnd source.has
    → IsNextRefused m.config account.sequence.first sources source fault
there_refused order account m sources source fault h is end = record {
  volumes = h.of.volumes;
  traced = h.of.read.traced;
  fault_is = inl (subst (λ (expected : Expected). IfSome source.had (λ text. IsRefusedThere m.config expected text fault)) h.next is, end);
}

-- texts that are known are those of the sources
one_known : (one : List ℕ) (rest : Option (List (List ℕ))) (sources : List (Option (List ℕ))) → ((more : List (List ℕ)) → rest ≡ Some more → sources ≡ map Some more)
    → (texts : List (List ℕ)) → option_map (λ more. one ∷ more) rest ≡ Some texts → Some one ∷ sources ≡ map Some texts
one_known one None sources others texts same = absurd cc
one_known one (Some more) sources others [] same = absurd cc
one_known one (Some more) sources others (text ∷ texts) same =
    let first : one ≡ text = cc in
    let rest : more ≡ texts = cc in
    rw (first, others more refl, rest) refl

pub known_are : (sources : List (Option (List ℕ))) (texts : List (List ℕ)) → known sources ≡ Some texts → sources ≡ map Some texts
known_are [] [] same = refl
known_are [] (text ∷ texts) same = absurd cc
known_are (None ∷ sources) texts same = absurd cc
known_are (Some one ∷ sources) texts same = one_known one (known sources) sources (λ more is. known_are sources more is) texts same

-- no volume begins before the first one
not_before : (named : Bool) (line : ℕ) (volumes : List Traced) (j : ℕ) (d : VolumeEntry) → j < length (entries_of named line volumes) → line ≤ (get_or (entries_of named line volumes) j d).line
not_before named line [] j d lt = absurd (omega (arith, lt))
not_before named line (v ∷ volumes) zero d lt = omega arith
not_before named line (v ∷ volumes) (suc j) d lt =
    let rest = not_before named (line + length v.calls) volumes j d (omega (arith, lt)) in
    omega (arith, rest)

-- volumes begin on lines that do not descend
one_in_line : (e : VolumeEntry) (entries : List VolumeEntry) → ((j : ℕ) (d : VolumeEntry) → j < length entries → e.line ≤ (get_or entries j d).line) → AreInLine entries
    → (i j : ℕ) (d : VolumeEntry) → i ≤ j → j < length (e ∷ entries) → (get_or (e ∷ entries) i d).line ≤ (get_or (e ∷ entries) j d).line
one_in_line e entries first rest zero zero d le lt = omega arith
one_in_line e entries first rest zero (suc j) d le lt = first j d (omega (arith, lt))
one_in_line e entries first rest (suc i) zero d le lt = absurd (omega (arith, le))
one_in_line e entries first rest (suc i) (suc j) d le lt = rest i j d (omega (arith, le)) (omega (arith, lt))

pub in_line : (named : Bool) (line : ℕ) (volumes : List Traced) → AreInLine (entries_of named line volumes)
in_line named line [] = λ i j d le lt. absurd (omega (arith, lt))
in_line named line (v ∷ volumes) =
    let first : (j : ℕ) (d : VolumeEntry) → j < length (entries_of named (line + length v.calls) volumes) → line ≤ (get_or (entries_of named (line + length v.calls) volumes) j d).line =
    λ j d lt. (let more = not_before named (line + length v.calls) volumes j d lt in omega (arith, more)) in
    one_in_line _ (entries_of named (line + length v.calls) volumes) first (in_line named (line + length v.calls) volumes)

pub listed_in_line : (entries : List VolumeEntry) → AreInLine entries → AreInLine (listed entries)
listed_in_line [] is = is
listed_in_line (e ∷ []) is = λ i j d le lt. absurd (omega (arith, lt))
listed_in_line (e ∷ f ∷ entries) is = is

-- before the first trace
pub none_entered : (named : Bool) (config : Configuration) (sequence : Sequence) → sequence.entries.items ≡ [] → AreEntered named config sequence [] []
none_entered named config sequence none = record { traced = tt; entries = none; counted = (let long = ap length none in omega (arith, long)) }

pub none_told : (order : CustodyOrder) (account : CustodyAccount) → account.sequence.next ≡ account.sequence.first → IsLawful account.core.state → account.order ≡ order → account.sequence.entries.items ≡ [] → HasKept order.form account.core.state [] account.core.state account.kept → HasTold order account account.core.state []
none_told order account same lawful ordered none kept = record {
  of = record {
    ordered = ordered;
    lawful = lawful;
    volumes = [];
    read = none_entered (names_trace order.scope.named) account.core.state.config account.sequence none;
    kept = kept;
  };
  next = same;
}

-- what is kept is of frames and slots that there are
pub kept_is_within : (form : CustodyForm) (m : State) (calls : List Call) (ledger : Ledger) → Keeps form m (notes m calls) ledger → All (IsWithin m.config.frames) (events_kept ledger)
kept_is_within form m calls ledger kept =
    kept_within m.config.frames form m (notes m calls) ledger kept (before-within m) (subst (λ (events : List Event). All (IsWithin m.config.frames) events) (sym (events-of-notes m calls)) (events-within first_line m calls))

pub listed_short : (entries : List VolumeEntry) → length (listed entries) ≤ length entries
listed_short [] = omega arith
listed_short (e ∷ []) = omega arith
listed_short (e ∷ f ∷ entries) = omega arith

-- what was kept of the sources, as it is given
pub record IsToldOf (account : CustodyAccount) (m : State) (calls : List Call) (told : Told) : Type 0 where
  pub config : told.subject.config ≡ m.config
  pub heading : told.subject.heading ≡ heading_by account.order.scope account.order.origin account.start account.sequence.entries.items
  pub listed_are : told.subject.volumes.items ≡ listed account.sequence.entries.items
  pub count : told.subject.answered.calls ≡ length calls
  pub denials : told.subject.answered.denials ≡ account.kept.denials
  pub ledger : told.ledger ≡ account.kept.ledger

text_of : (order : CustodyOrder) (account : CustodyAccount) (m : State) (start : List ℕ) (sources : List (Option (List ℕ))) (texts : List (List ℕ)) (told : Told) (text : List ℕ) (h : IsAccountOf order account m sources) → IsToldOf account m (joined h.volumes) told
    → known sources ≡ Some texts → BeginsIn order.origin start m account.sequence.first → NamesStart (names_start order.scope.named) order.origin (Some start) m account.sequence.first account.start → IsGivenOf order.scope.vm told text
    → IsCustodyText order.origin order.form order.scope start texts text
text_of order account m start sources texts told text h is all begins digest given =
    let same = known_are sources texts all in
    let calls = joined h.volumes in
    let entries = entries_in order.scope h.volumes in
    let heading = is.heading ∙ ap (λ (o : CustodyOrder). heading_by o.scope o.origin account.start account.sequence.entries.items) h.ordered
    ∙ ap (heading_by order.scope order.origin account.start) h.read.entries ∙ headed order.scope order.origin start m account.sequence.first account.start entries digest in
    let total = ap (λ (denials : Denials). denials.total) is.denials in
    let spelled : IsGiven order.scope.vm told.subject.heading told.subject.config told.subject.volumes.items told.subject.answered.calls told.subject.answered.denials.total told.ledger text = given in
    let made : IsMadeOf order.origin order.form order.scope start m account.sequence.first h.volumes told.subject.answered.calls told.subject.answered.denials.total text =
    account_given order.form order.scope.vm (heading_of order.scope order.origin start m account.sequence.first entries) m (listed entries) told.subject.answered.calls told.subject.answered.denials.total (notes m calls) account.kept.ledger text h.kept.ledger
    (rw (is.config, heading, is.listed_are ∙ ap listed h.read.entries, is.ledger) at spelled) in
    record {
      first = m;
      expected = account.sequence.first;
      begins = begins;
      volumes = h.volumes;
      traced = rw same at h.read.traced;
      numbered = numbered m.config account.sequence.first sources h.volumes (names_trace order.scope.named) first_line h.read.traced;
      count = told.subject.answered.calls;
      refused = told.subject.answered.denials.total;
      told = notes m calls;
      custody = is_told m calls told.subject.answered.calls told.subject.answered.denials.total h.lawful is.count (total ∙ h.kept.denied);
      account = made;
      blind = made_blind order.origin order.form order.scope start m account.sequence.first h.volumes told.subject.answered.calls told.subject.answered.denials.total text h.lawful made;
    }

-- what the sink took of it is the text of all, if they are known
pub gives_custody : (order : CustodyOrder) (account : CustodyAccount) (m : State) (start : Option (List ℕ)) (sources : List (Option (List ℕ))) (told : Told) (old new : Option (List ℕ)) (h : IsAccountOf order account m sources) → IsToldOf account m (joined h.volumes) told
    → IfSome start (λ text. BeginsIn order.origin text m account.sequence.first) → NamesStart (names_start order.scope.named) order.origin start m account.sequence.first account.start → GivesAccount account.order.scope.vm told old new → Writes (IsCustodyText order.origin order.form order.scope) start (known sources) old new
gives_custody order account m None sources told old new h is begins digest given = tt
gives_custody order account m (Some start) sources told old new h is begins digest given =
    by_texts (known sources) (λ texts all. text_of order account m start sources texts told given.0 h is all begins digest (subst (λ (o : CustodyOrder). IsGivenOf o.scope.vm told given.0) h.ordered given.1))
  where
    by_texts : (texts : Option (List (List ℕ))) → ((some : List (List ℕ)) → texts ≡ Some some → IsCustodyText order.origin order.form order.scope start some given.0) → Writes (IsCustodyText order.origin order.form order.scope) (Some start) texts old new
    by_texts None made = tt
    by_texts (Some texts) made = (given.0, made texts refl, given.2)

pub begins_custody : (order : CustodyOrder) (account : CustodyAccount) (m : State) (start : Option (List ℕ)) (sources : List (Option (List ℕ))) (told : Told) (old new : Option (List ℕ)) (h : IsAccountOf order account m sources) → IsToldOf account m (joined h.volumes) told
    → IfSome start (λ text. BeginsIn order.origin text m account.sequence.first) → NamesStart (names_start order.scope.named) order.origin start m account.sequence.first account.start → BeginsAccount account.order.scope.vm told old new → Begins (IsCustodyText order.origin order.form order.scope) start (known sources) old new
begins_custody order account m None sources told old new h is begins digest given = tt
begins_custody order account m (Some start) sources told old new h is begins digest given =
    by_texts (known sources) (λ texts all. text_of order account m start sources texts told given.0 h is all begins digest (subst (λ (o : CustodyOrder). IsGivenOf o.scope.vm told given.0) h.ordered given.2))
  where
    by_texts : (texts : Option (List (List ℕ))) → ((some : List (List ℕ)) → texts ≡ Some some → IsCustodyText order.origin order.form order.scope start some given.0) → Begins (IsCustodyText order.origin order.form order.scope) (Some start) texts old new
    by_texts None made = tt
    by_texts (Some texts) made = (given.0, given.1, made texts refl, given.3)

-- the counts are of all calls
pub all_answered : (order : CustodyOrder) (account : CustodyAccount) (m : State) (start : Option (List ℕ)) (sources : List (Option (List ℕ))) (answered : Answered) (h : IsAccountOf order account m sources) → answered.calls ≡ length (joined h.volumes) → answered.denials ≡ account.kept.denials
    → IfSome start (λ text. BeginsIn order.origin text m account.sequence.first) → AreAllAnswered order.origin start (known sources) answered
all_answered order account m None sources answered h count denials begins = tt
all_answered order account m (Some start) sources answered h count denials begins =
    by_texts (known sources) (λ texts all. rw (known_are sources texts all) at h.read.traced)
    (answered_by m (joined h.volumes) answered count (subst (λ (counted : Denials). AreCounts (replies_from m (joined h.volumes)) counted) (sym denials)
    (h.kept.counted (let each = one_each m (joined h.volumes) in let at = h.kept.line in let short = h.kept.short in omega (arith, each, at, short)))))
  where
    by_texts : (texts : Option (List (List ℕ))) → ((some : List (List ℕ)) → texts ≡ Some some → AreVolumes m.config account.sequence.first (map Some some) h.volumes) → IsAnsweredBy (replies_from m (joined h.volumes)) answered → AreAllAnswered order.origin (Some start) texts answered
    by_texts None traced counted = tt
    by_texts (Some texts) traced counted = (m, account.sequence.first, begins, h.volumes, traced texts refl, counted)

-- which volumes these are is made of its parts
pub chain_so : (entries : List VolumeEntry) (count : ℕ) (judged : Order) → count ≡ length (listed entries) → judged ≡ order_by (lacks_digest entries) (numbers_in entries) → (◌≡◌ {A = Chain} (record { count = count; order = judged }) (chain_of entries))
chain_so entries count judged long by = rw (long, by) refl

-- and so is the heading
pub heading_so : (scope : Scope) (origin : Origin) (start : Option (List ℕ)) (entries : List VolumeEntry) (digests : Option Digests) (chain : Chain) → digests ≡ digests_by scope.named origin start (first_number entries) (trace_digest entries) → chain ≡ chain_of entries
    → (◌≡◌ {A = Heading} (record { digests = digests; is_unseen = scope.is_unseen; chain = chain }) (heading_by scope origin start entries))
heading_so scope origin start entries digests chain same which = rw (same, which) refl

-- the account began with the header that is expected in its first state
pub begins_there : (order : CustodyOrder) (account : CustodyAccount) (m : State) (start : Option (List ℕ)) (expected : Expected) → account.sequence.first ≡ expected → IfSome start (λ text. BeginsIn order.origin text m expected) → NamesStart (names_start order.scope.named) order.origin start m expected account.start
    → HasBegun order account m start
begins_there order account m start expected first begins digest = record {
  begins = subst (λ (e : Expected). IfSome start (λ text. BeginsIn order.origin text m e)) (sym first) begins;
  digest = subst (λ (e : Expected). NamesStart (names_start order.scope.named) order.origin start m e account.start) (sym first) digest;
}
