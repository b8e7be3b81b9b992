-- What a report leaves, by how its volumes were read and what was given.
use Rattle.std.proofs.Common.{ℕ, ◌≡◌, ◌≢◌, ◌<◌, ◌⊎◌, ◌↔◌, ◌∷◌, Bool, List, [], length, Option, Some, None, Result, Ok, Err, true, false, inl, inr, refl, ap, sym, ◌∙◌, subst, arith}
use Rattle.std.specs.Prelude.{IfOk, IfErr, IfSome, IsErrOf, OnOk, is_some}
use Rattle.std.proofs.lemmas.List.{take_all}
use Rattle.std.specs.Io.KnownBytes.{IsAtEnd}
use Rattle.kc_model.specs.State.{State}
use Rattle.kc_types.specs.Limits.{worker_limit}
use Rattle.kc_remarks.specs.declared.denials.Answered.{Answered}
use Rattle.kc_trace.specs.declared.fault.TraceFault.{TraceFault}
use Rattle.kc_trace.specs.declared.expected.Expected.{Expected}
use Rattle.kc_trace.specs.Expected.{IsRefusedThere}
use Rattle.kc_texts.specs.Ends.{Seen, ReadFailed, HasFailed}
use Rattle.kc_texts.specs.Written.{Writes, Begins}
use Rattle.kc_faults.specs.declared.fault.TextFault.{TextFault}
use Rattle.kc_faults.specs.declared.fault.TextFault.TheVariants as texts
use Rattle.kc_texts.specs.declared.order.Origin.{Origin}
use Rattle.kc_faults.specs.Origins.{BeginsIn}
use Rattle.kc_faults.specs.Outcomes.{TellsSources, TellsTexts, TellsSink}
use Rattle.kc_faults.proofs.Told.{IsLastFault, texts_ok, texts_after, texts_trace, begun_is}
use Rattle.kc_cli.specs.Answers.{AreAllAnswered}
use Rattle.kc_cli.specs.Engine.{IsReplayFault}
use Rattle.kc_cli.specs.Kinds.{Kind, TellsAccount}
use Rattle.kc_cli.specs.Volumes.{known}
use Rattle.kc_cli.proofs.Sources.{sink_ok}
use Rattle.kc_args.specs.Jobs.{Path}
use Rattle.kc_run.specs.declared.ending.Ending.{Ending}
use Rattle.kc_run.specs.declared.ending.Ending.TheVariants as endings
use Rattle.kc_run.specs.Reports.{had_by, held_by, ReadsOn, AreOpened, HasStarted, Report, report_of, ReportsTrace, ReportsVolumes, Reports}
use Rattle.kc_run.specs.Ends.{Ends}
use Rattle.kc_run.specs.Endings.{Ended, answered_as}
use Rattle.kc_run.proofs.Carried.{sink_err}

-- what is said of a text that is given, if it is given to this sink
pub record Gives {A O : Type 0} (kind : Kind A O) (account : A) (ends : Ends) (r : Result Answered TextFault) : Type 0 where
  pub answered : (order : O) (m : State) (start : Option (List ℕ)) (sources : List (Option (List ℕ))) → kind.of order account m sources → kind.begun order account m start → IfOk r (AreAllAnswered (kind.origin order) start (known sources))
  pub ok : (order : O) (m : State) (start : Option (List ℕ)) (sources : List (Option (List ℕ))) → kind.of order account m sources → kind.begun order account m start → OnOk r (Writes (kind.text order) start (known sources) ends.out.had ends.out.has)
  pub sink : (order : O) (m : State) (start : Option (List ℕ)) (sources : List (Option (List ℕ))) → kind.of order account m sources → kind.begun order account m start
      → TellsSink ends.out.failed (Begins (kind.text order) start (known sources) ends.out.had ends.out.has) ends.untouched r
  pub fault : IfErr r IsLastFault

-- no source failed
whole : (start : Seen) (sources : List Seen) → start.failed ≡ false → (HasFailed sources → ⊥) → HasFailed (start ∷ sources) → ⊥
whole start sources mark rest (inl is) = let never : false ≡ true = sym mark ∙ is in cc
whole start sources mark rest (inr is) = rest is

-- no number of workers is refused, since the account began
not_judged : {A O : Type 0} {X : Type 0} (kind : Kind A O) (order : O) (account : A) (m : State) (start : Seen) (r : Result X TextFault) → HasStarted kind order account m start → r ≢ Err texts.Workers → IsErrOf r texts.Workers ↔ ((kind.workers order ≡ 0) ⊎ (worker_limit < kind.workers order))
not_judged kind order account m start (Ok x) begun other = (λ e. absurd cc, λ bad. absurd (begun.workers bad))
not_judged kind order account m start (Err f) begun other = (λ e. absurd (other (let same : f ≡ texts.Workers = cc in cc)), λ bad. absurd (begun.workers bad))

-- an account that began names a slot that the machine has, and reports no fault
account_told : {A O : Type 0} {X : Type 0} (kind : Kind A O) (order : O) (account : A) (m : State) (start : Seen) (unread : Type 0) (x : X) → HasStarted kind order account m start → TellsAccount (kind.slot order) (kind.workers order) (kind.origin order) start.had unread (Ok x)
account_told kind order account m start unread x begun =
    record { named = begun.slot; lacking = λ n e. absurd cc; judged = not_judged kind order account m start (Ok x) begun (λ e. cc); started = λ e. absurd cc; settled = λ e. cc; actor = λ p e. cc; text = λ e. cc }

account_last : {A O : Type 0} {X : Type 0} (kind : Kind A O) (order : O) (account : A) (m : State) (start : Seen) (unread : Type 0) (f : TextFault) → HasStarted kind order account m start → IsLastFault f → TellsAccount {A = X} (kind.slot order) (kind.workers order) (kind.origin order) start.had unread (Err f)
account_last kind order account m start unread f begun (inl same) =
    record { named = tt; lacking = λ n e. absurd cc; judged = not_judged kind order account m start (Err f) begun (λ e. cc); started = λ e. absurd cc; settled = λ e. cc; actor = λ p e. cc; text = λ e. cc }
account_last kind order account m start unread f begun (inr same) =
    record { named = tt; lacking = λ n e. absurd cc; judged = not_judged kind order account m start (Err f) begun (λ e. cc); started = λ e. absurd cc; settled = λ e. cc; actor = λ p e. cc; text = λ e. cc }

account_failed : {A O : Type 0} {X : Type 0} (kind : Kind A O) (order : O) (account : A) (m : State) (start : Seen) (unread : Type 0) (f : TextFault) → HasStarted kind order account m start → IsReplayFault f → (f ≡ texts.Start → 1 < kind.workers order)
    → TellsAccount {A = X} (kind.slot order) (kind.workers order) (kind.origin order) start.had unread (Err f)
account_failed kind order account m start unread f begun is started = record {
  named = tt;
  lacking = λ n e. absurd (is.slot n (let same : f ≡ texts.NoSlot n = cc in same));
  judged = not_judged kind order account m start (Err f) begun (λ e. is.workers (let same : f ≡ texts.Workers = cc in same));
  started = λ e. (started (let same : f ≡ texts.Start = cc in same), begun_is (kind.origin order) start.had m (kind.first account) begun.begins);
  settled = λ e. is.unsettled (let same : f ≡ texts.Unsettled = cc in same);
  actor = λ p e. is.actor p (let same : f ≡ texts.BadActor p = cc in same);
  text = λ e. is.text (let same : f ≡ texts.NoText = cc in same);
}

-- nothing was written
sink_kept : {A : Type 0} (failed : Bool) (begun untouched : Type 0) (f : TextFault) → failed ≡ false → untouched → f ≢ texts.Write → TellsSink {A = A} failed begun untouched (Err f)
sink_kept failed begun untouched f mark same other = record {
  write = λ e. absurd (other (let is : f ≡ texts.Write = cc in is));
  failed_is = λ bad. absurd (let never : false ≡ true = sym mark ∙ bad in cc);
  kept = inl same;
}

sink_unused : {A : Type 0} (failed : Bool) (begun untouched : Type 0) (x : A) → failed ≡ false → TellsSink failed begun untouched (Ok x)
sink_unused failed begun untouched x mark = record { write = λ e. absurd cc; failed_is = λ bad. absurd (let never : false ≡ true = sym mark ∙ bad in cc); kept = tt }

-- all files hold what the volumes hold
all_held : {S : Type 0} {left : S → Option (List ℕ)} {failed : S → Bool} (ends : Ends) (after : List Path) (files : List Seen) → AreOpened left failed ends.held ends.refused after files → length files ≡ length after → ends.input.had ∷ had_by files ≡ ends.input.had ∷ held_by ends.held after
all_held ends after files opened long =
    ap (λ (rest : List (Option (List ℕ))). ends.input.had ∷ rest) (opened.are ∙ ap (held_by ends.held) (take_all (length files) after (omega (arith, long))))

pub volumes_given : {S : Type 0} {left : S → Option (List ℕ)} {failed : S → Bool} {A O : Type 0} (kind : Kind A O) (order : O) (old account : A) (m : State) (start : Seen) (after : List Path) (ends : Ends) (files : List Seen) (r : Result Answered TextFault) → HasStarted kind order old m start → AreOpened left failed ends.held ends.refused after files → length files ≡ length after
    → ReadsOn kind old account ends.refused (ends.input ∷ files) 1 false (Ok None) → Gives kind account ends r → ReportsVolumes left failed (report_of kind order) after start ends (answered_as r)
volumes_given {left = left} {failed = failed} kind order old account m start after ends files r begun opened long reads gives = by_result r gives
  where
    told : kind.of order account m (ends.input.had ∷ held_by ends.held after)
    told = subst (λ (held : List (Option (List ℕ))). kind.of order account m held) (all_held ends after files opened long) (reads.told refl order m [] begun.told).0

    begins : kind.begun order account m start.had
    begins = reads.begun refl order m start.had begun.begun

    unfailed : HasFailed (start ∷ ends.input ∷ files) → ⊥
    unfailed = whole start (ends.input ∷ files) begun.mark (λ bad. let e = reads.failed bad in absurd cc)

    shut : is_some ends.refused ≡ true → ⊥
    shut none = let e = reads.unopened none in absurd cc

    by_result : (r : Result Answered TextFault) → Gives kind account ends r → ReportsVolumes left failed (report_of kind order) after start ends (answered_as r)
    by_result (Ok answered) gives = record {
      files = files;
      opened = opened;
      ending = (long, (begun.ended, reads.ended refl), gives.ok order m start.had (ends.input.had ∷ held_by ends.held after) told begins, gives.answered order m start.had (ends.input.had ∷ held_by ends.held after) told begins);
      read = λ e. absurd cc;
      failed = λ bad. absurd (unfailed bad);
      unopened = λ none. absurd (shut none);
      told = texts_ok (kind.origin order) start ends.input ends.unread m (kind.first old) (endings.Answered answered) begun.begins;
      trace = λ fault e. cc;
      tells = account_told kind order old m start ends.unread (endings.Answered answered) begun;
      sink = sink_ok _ _ _ answered (endings.Answered answered) (gives.sink order m start.had (ends.input.had ∷ held_by ends.held after) told begins);
    }
    by_result (Err f) gives = record {
      files = files;
      opened = opened;
      ending = tt;
      read = λ e. absurd (last_read gives.fault e);
      failed = λ bad. absurd (unfailed bad);
      unopened = λ none. absurd (shut none);
      told = texts_after (kind.origin order) start ends.input ends.unread m (Err f) (texts_ok (kind.origin order) start ends.input ends.unread m (kind.first old) m begun.begins) gives.fault;
      trace = λ fault e. last_trace fault gives.fault e;
      tells = account_last kind order old m start ends.unread f begun gives.fault;
      sink = sink_err _ _ _ f (gives.sink order m start.had (ends.input.had ∷ held_by ends.held after) told begins);
    }
      where
        last_read : IsLastFault f → ◌≡◌ {A = Result Ending TextFault} (Err f) (Err texts.Read) → ⊥
        last_read (inl same) e = cc
        last_read (inr same) e = cc

        last_trace : (fault : TraceFault) → IsLastFault f → ◌≡◌ {A = Result Ending TextFault} (Err f) (Err (texts.Trace fault)) → ⊥
        last_trace fault (inl same) e = cc
        last_trace fault (inr same) e = cc

pub volumes_refused : {S : Type 0} {left : S → Option (List ℕ)} {failed : S → Bool} {A O : Type 0} (kind : Kind A O) (order : O) (old account : A) (m : State) (start : Seen) (after : List Path) (ends : Ends) (files : List Seen) (ending : Ending) → HasStarted kind order old m start → AreOpened left failed ends.held ends.refused after files
    → ReadsOn kind old account ends.refused (ends.input ∷ files) 1 false (Ok (Some ending)) → ends.out.failed ≡ false → ends.untouched → ReportsVolumes left failed (report_of kind order) after start ends (Ok ending)
volumes_refused kind order old account m start after ends files ending begun opened reads mark untouched = record {
  files = files;
  opened = opened;
  ending =
      (let is = reads.refuses ending refl order m [] begun.told in
      let last = is.3 in
      let number : is.1 ≡ length (ends.input ∷ files) = omega (arith, last) in
      rw is.2 (m, (kind.first old), begun.begins, number, is.4, untouched));
  read = λ e. absurd cc;
  failed = λ bad. absurd (whole start (ends.input ∷ files) begun.mark (λ bad. let e = reads.failed bad in absurd cc) bad);
  unopened = λ none. (let e = reads.unopened none in absurd cc);
  told = texts_ok (kind.origin order) start ends.input ends.unread m (kind.first old) ending begun.begins;
  trace = λ fault e. cc;
  tells = account_told kind order old m start ends.unread ending begun;
  sink = sink_unused _ _ _ ending mark;
}

pub volumes_failed : {S : Type 0} {left : S → Option (List ℕ)} {failed : S → Bool} {A O : Type 0} (kind : Kind A O) (order : O) (old account : A) (m : State) (start : Seen) (after : List Path) (ends : Ends) (files : List Seen) (f : TextFault) → HasStarted kind order old m start → AreOpened left failed ends.held ends.refused after files
    → ReadsOn kind old account ends.refused (ends.input ∷ files) 1 false (Err f) → ends.out.failed ≡ false → ends.untouched → ReportsVolumes left failed (report_of kind order) after start ends (Err f)
volumes_failed kind order old account m start after ends files f begun opened reads mark untouched = record {
  files = files;
  opened = opened;
  ending = tt;
  read = λ e. elim (reads.read (let same : f ≡ texts.Read = cc in ap Err same)) [
    | inl is ↦ inl (inr is)
    | inr none ↦ inr none
  ];
  failed = λ bad. elim bad [
    | inl is ↦ absurd (let never : false ≡ true = sym begun.mark ∙ is in cc)
    | inr some ↦ (let e = reads.failed some in let same : f ≡ texts.Read = cc in ap Err same)
  ];
  unopened = λ none. (let e = reads.unopened none in let same : f ≡ texts.Read = cc in ap Err same);
  told = record {
    config_fault = λ said e. absurd (reads.fault.config said (let same : f ≡ texts.Config said = cc in same));
    state_fault = λ said e. absurd (reads.fault.state said (let same : f ≡ texts.State said = cc in same));
    trace_fault = λ said e. absurd (reads.trace said (let same : f ≡ texts.Trace said = cc in ap Err same));
    after_start = inr (begun_is (kind.origin order) start.had m (kind.first old) begun.begins);
    begun = λ said e. begun_is (kind.origin order) start.had m (kind.first old) begun.begins;
    told = reads.fault.told;
  };
  trace = λ said e. reads.trace said (let same : f ≡ texts.Trace said = cc in ap Err same);
  tells = account_failed kind order old m start ends.unread f begun reads.fault (λ same. reads.started (ap Err same) order m [] begun.told);
  sink = sink_kept _ _ _ f mark untouched reads.fault.write;
}

-- the one trace is in the account
pub trace_given : {A O : Type 0} (kind : Kind A O) (order : O) (old account : A) (m : State) (start : Seen) (ends : Ends) (r : Result Answered TextFault) → HasStarted kind order old m start → ends.refused ≡ None → kind.of order account m (ends.input.had ∷ []) → kind.begun order account m start.had
    → IsAtEnd ends.input.has → (ends.input.failed ≡ true → ⊥) → Gives kind account ends r → ReportsTrace (report_of kind order) start ends (answered_as r)
trace_given kind order old account m start ends r begun opened told begins ended mark gives = by_result r gives
  where
    unfailed : HasFailed (start ∷ ends.input ∷ []) → ⊥
    unfailed = whole start (ends.input ∷ []) begun.mark only
      where
        only : HasFailed (ends.input ∷ []) → ⊥
        only (inl is) = mark is
        only (inr never) = never

    by_result : (r : Result Answered TextFault) → Gives kind account ends r → ReportsTrace (report_of kind order) start ends (answered_as r)
    by_result (Ok answered) gives = record {
      opened = opened;
      ending = (answered, refl, gives.answered order m start.had (ends.input.had ∷ []) told begins);
      written = gives.ok order m start.had (ends.input.had ∷ []) told begins;
      sources = record { ended = (begun.ended, (ended, tt)); read = λ e. absurd cc; failed = λ bad. absurd (unfailed bad) };
      told = texts_ok (kind.origin order) start ends.input ends.unread m (kind.first old) (endings.Answered answered) begun.begins;
      tells = account_told kind order old m start ends.unread (endings.Answered answered) begun;
      sink = sink_ok _ _ _ answered (endings.Answered answered) (gives.sink order m start.had (ends.input.had ∷ []) told begins);
    }
    by_result (Err f) gives = record {
      opened = opened;
      ending = tt;
      written = tt;
      sources = record { ended = tt; read = λ e. absurd (last_read gives.fault e); failed = λ bad. absurd (unfailed bad) };
      told = texts_after (kind.origin order) start ends.input ends.unread m (Err f) (texts_ok (kind.origin order) start ends.input ends.unread m (kind.first old) m begun.begins) gives.fault;
      tells = account_last kind order old m start ends.unread f begun gives.fault;
      sink = sink_err _ _ _ f (gives.sink order m start.had (ends.input.had ∷ []) told begins);
    }
      where
        last_read : IsLastFault f → ◌≡◌ {A = Result Ending TextFault} (Err f) (Err texts.Read) → ⊥
        last_read (inl same) e = cc
        last_read (inr same) e = cc

-- the one trace is refused, or could not be read
pub trace_failed : {A O : Type 0} (kind : Kind A O) (order : O) (old : A) (m : State) (start : Seen) (ends : Ends) (f : TextFault) → HasStarted kind order old m start → ends.refused ≡ None → (f ≡ texts.Read → ReadFailed ends.input.failed ends.input.had ends.input.has) → (ends.input.failed ≡ true → f ≡ texts.Read)
    → ((said : TraceFault) → f ≡ texts.Trace said → IfSome ends.input.had (λ text. IsRefusedThere m.config (kind.first old) text said) × IsAtEnd ends.input.has) → IsReplayFault f → (f ≡ texts.Start → 1 < kind.workers order) → ends.out.failed ≡ false → ends.untouched → ReportsTrace (report_of kind order) start ends (Err f)
trace_failed kind order old m start ends f begun opened read bad refused is started mark untouched = record {
  opened = opened;
  ending = tt;
  written = tt;
  sources = record {
    ended = tt;
    read = λ e. inr (inl (read (let same : f ≡ texts.Read = cc in same)));
    failed = λ some. elim some [
      | inl one ↦ absurd (let never : false ≡ true = sym begun.mark ∙ one in cc)
      | inr (inl one) ↦ ap Err (bad one)
      | inr (inr never) ↦ absurd never
    ];
  };
  told = texts_trace (kind.origin order) start ends.input ends.unread m (kind.first old) f begun.begins refused is.config is.state is.told;
  tells = account_failed kind order old m start ends.unread f begun is started;
  sink = sink_kept _ _ _ f mark untouched is.write;
}

-- the account could not begin
begun_account : {X : Type 0} (slot : Option ℕ) (workers : ℕ) (origin : Origin) (start : Option (List ℕ)) (unread : Type 0) (f : TextFault) → unread → TellsAccount {A = X} slot workers origin start (Unit {0}) (Err f) → {Y : Type 0} → TellsAccount {A = Y} slot workers origin start unread (Err f)
begun_account slot workers origin start unread f none h = record {
  named = tt;
  lacking = λ n e. (let is = h.lacking n (let same : f ≡ texts.NoSlot n = cc in cc) in (is.0, is.1, none));
  judged = (λ e. h.judged.0 (let same : f ≡ texts.Workers = cc in cc), λ bad. let e = h.judged.1 bad in let same : f ≡ texts.Workers = cc in cc);
  started = λ e. h.started (let same : f ≡ texts.Start = cc in cc);
  settled = λ e. h.settled (let same : f ≡ texts.Unsettled = cc in cc);
  actor = λ p e. h.actor p (let same : f ≡ texts.BadActor p = cc in cc);
  text = λ e. h.text (let same : f ≡ texts.NoText = cc in cc);
}

begun_texts : {A B : Type 0} (origin : Origin) (start trace : Seen) (unread : Type 0) (f : TextFault) → unread → ((said : TraceFault) → f ≢ texts.Trace said) → TellsTexts {A = A} origin start trace (Unit {0}) (Err f) → TellsTexts {A = B} origin start trace unread (Err f)
begun_texts origin start trace unread f none other h = record {
  config_fault = λ said e. (let is = h.config_fault said (let same : f ≡ texts.Config said = cc in cc) in (is.0, is.1, is.2, none));
  state_fault = λ said e. (let is = h.state_fault said (let same : f ≡ texts.State said = cc in cc) in (is.0, is.1, is.2, none));
  trace_fault = λ said e. absurd (other said (let same : f ≡ texts.Trace said = cc in same));
  after_start = inl none;
  begun = λ said e. absurd (other said (let same : f ≡ texts.Trace said = cc in same));
  told = h.told;
}

pub not_begun : {A : Type 0} {S : Type 0} (left : S → Option (List ℕ)) (failed : S → Bool) (report : Report) (start : Seen) (after : List Path) (ends : Ends) (f : TextFault) → ends.refused ≡ None → ends.unread → ends.input.failed ≡ false → ends.out.failed ≡ false → ends.untouched → TellsSources {A = A} (start ∷ []) (Err f)
    → ((trace : Seen) → TellsTexts {A = A} report.origin start trace (Unit {0}) (Err f)) → TellsAccount {A = A} report.slot report.workers report.origin start.had (Unit {0}) (Err f) → f ≢ texts.Write → ((said : TraceFault) → f ≢ texts.Trace said) → Reports left failed report after start ends (Err f)
not_begun left failed report start [] ends f opened unread mark out untouched sources told tells write trace = record {
  opened = opened;
  ending = tt;
  written = tt;
  sources = record {
    ended = tt;
    read = λ e. elim (sources.read (let same : f ≡ texts.Read = cc in ap Err same)) [
      | inl is ↦ inl is
      | inr never ↦ absurd never
    ];
    failed = λ bad. elim bad [
      | inl is ↦ (let e = sources.failed (inl is) in let same : f ≡ texts.Read = cc in ap Err same)
      | inr (inl is) ↦ absurd (let never : false ≡ true = sym mark ∙ is in cc)
      | inr (inr never) ↦ absurd never
    ];
  };
  told = begun_texts report.origin start ends.input ends.unread f unread trace (told ends.input);
  tells = begun_account report.slot report.workers report.origin start.had ends.unread f unread tells;
  sink = sink_kept _ _ _ f out untouched write;
}
not_begun left failed report start (path ∷ after) ends f opened unread mark out untouched sources told tells write trace = record {
  files = [];
  opened = record { files = tt; are = refl; next = rw opened tt };
  ending = tt;
  read = λ e. inl (elim (sources.read (let same : f ≡ texts.Read = cc in ap Err same)) [
    | inl is ↦ inl is
    | inr never ↦ absurd never
  ]);
  failed = λ bad. elim bad [
    | inl is ↦ (let e = sources.failed (inl is) in let same : f ≡ texts.Read = cc in ap Err same)
    | inr (inl is) ↦ absurd (let never : false ≡ true = sym mark ∙ is in cc)
    | inr (inr never) ↦ absurd never
  ];
  unopened = λ none. (let never = subst (λ (r : Option (List ℕ)). is_some r ≡ true) opened none in absurd cc);
  told = begun_texts report.origin start ends.input ends.unread f unread trace (told ends.input);
  trace = λ said e. trace said (let same : f ≡ texts.Trace said = cc in same);
  tells = begun_account report.slot report.workers report.origin start.had ends.unread f unread tells;
  sink = sink_kept _ _ _ f out untouched write;
}

-- of one trace, or of several volumes
pub one_reported : {S : Type 0} (left : S → Option (List ℕ)) (failed : S → Bool) (report : Report) (after : List Path) (start : Seen) (ends : Ends) (ended : Ended) → length after ≡ 0 → ReportsTrace report start ends ended → Reports left failed report after start ends ended
one_reported left failed report [] start ends ended none is = is
one_reported left failed report (path ∷ after) start ends ended none is = absurd (omega (arith, none))

pub all_reported : {S : Type 0} (left : S → Option (List ℕ)) (failed : S → Bool) (report : Report) (after : List Path) (start : Seen) (ends : Ends) (ended : Ended) → length after ≢ 0 → ReportsVolumes left failed report after start ends ended → Reports left failed report after start ends ended
all_reported left failed report [] start ends ended some is = absurd (some refl)
all_reported left failed report (path ∷ after) start ends ended some is = is

-- what an account has to be to be reported
pub some_begun : {A O : Type 0} (kind : Kind A O) (order : O) (account : A) (m : State) (start : Seen) → HasStarted kind order account m start → (o : O) × (n : State) × (source : Seen) × HasStarted kind o account n source
some_begun kind order account m start begun = (order, m, start, begun)

-- an account began, and no number of workers is refused
may_work : {X : Type 0} (slot : Option ℕ) (workers : ℕ) (origin : Origin) (start : Option (List ℕ)) (unread : Type 0) (x : X) → TellsAccount slot workers origin start unread (Ok x) → ((workers ≡ 0) ⊎ (worker_limit < workers)) → ⊥
may_work slot workers origin start unread x h bad = let e = h.judged.1 bad in cc

pub has_started : {A O : Type 0} {X : Type 0} (kind : Kind A O) (order : O) (account : A) (m : State) (start : Seen) (x : X) → kind.told order account m [] → kind.begun order account m start.had → IfSome start.had (λ text. BeginsIn (kind.origin order) text m (kind.first account))
    → TellsAccount (kind.slot order) (kind.workers order) (kind.origin order) start.had (Unit {0}) (Ok x) → IsAtEnd start.has → start.failed ≡ false → HasStarted kind order account m start
has_started kind order account m start x told begun begins tells ended mark = record {
  told = told;
  begun = begun;
  begins = begins;
  slot = tells.named;
  workers = may_work (kind.slot order) (kind.workers order) (kind.origin order) start.had (Unit {0}) x tells;
  ended = ended;
  mark = mark;
}

-- what is said of any trace is not said of one
abbrev unread_trace : Seen
unread_trace = record { failed = false; had = None; has = Some (0 ∷ []) }

pub none_refused : {A : Type 0} (origin : Origin) (start : Seen) (unread : Type 0) (f : TextFault) → ((trace : Seen) → TellsTexts {A = A} origin start trace unread (Err f)) → (said : TraceFault) → f ≢ texts.Trace said
none_refused origin start unread f told said same = let is = (told unread_trace).trace_fault said (ap Err same) in absurd (let never = is.1 in cc)
