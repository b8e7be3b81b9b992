-- What is said of an engine's answer is said of the ending that it is.
use Rattle.std.proofs.Common.{◌≡◌, ◌≢◌, ◌<◌, ◌⊎◌, ◌∷◌, ◌↔◌, ℕ, Bool, true, false, List, [], Option, None, Some, Result, Ok, Err, inl, inr, refl}
use Rattle.std.specs.Prelude.{IfOk, IfErr, IfSome, OnOk, IsErrOf}
use Rattle.std.specs.Io.KnownBytes.{IsAtEnd}
use Rattle.kc_types.specs.Limits.{worker_limit}
use Rattle.kc_trace.specs.declared.fault.TraceFault.{TraceFault}
use Rattle.kc_trace.specs.Trace.{IsRefused}
use Rattle.kc_remarks.specs.declared.denials.Answered.{Answered}
use Rattle.kc_config_text.specs.declared.config_text.ConfigTextFault.{ConfigTextFault}
use Rattle.kc_config_text.specs.ConfigText.{config_in}
use Rattle.kc_dump_text.specs.declared.fault.DumpFault.{DumpFault}
use Rattle.kc_dump_text.specs.Refused.{IsRefusedDump}
use Rattle.kc_texts.specs.declared.order.Origin.{Origin}
use Rattle.kc_texts.specs.declared.order.Origin.TheVariants as origins
use Rattle.kc_faults.specs.declared.fault.TextFault.{TextFault}
use Rattle.kc_faults.specs.declared.fault.TextFault.TheVariants as texts
use Rattle.kc_cli.specs.Audit.{Audits, BeginsAudit, IsDumpFault}
use Rattle.kc_texts.specs.Ends.{Seen, HasFailedRead, HasFailed}
use Rattle.kc_faults.specs.Outcomes.{TellsSources, TellsTexts, TellsReplay, TellsSink}
use Rattle.kc_texts.specs.Written.{Writes, Begins}
use Rattle.kc_faults.proofs.Told.{sources_after, texts_after, replay_after, sources_err, texts_err, replay_err}
use Rattle.kc_cli.proofs.Sources.{sink_ok}
use Rattle.kc_redact_text.specs.Redacts.{Redacts, BeginsRedaction, IsRedactFault, IsHostRedacted, IsHostRedactFault}
use Rattle.kc_redact_text.specs.declared.convert.Converted.{Converted}
use Rattle.kc_redact_text.specs.Converts.{IsFirstVolume, IsNextVolume, IsRefusedBare, IsConversion, IsSystemFault, IsConvertFault}
use Rattle.kc_texts.specs.declared.order.ReplayForm.{ReplayForm}
use Rattle.kc_cli.specs.declared.replaying.Compared.{Compared}
use Rattle.kc_cli.specs.Engine.{IsReplayText, DiffersFromLeft, wants_text}
use Rattle.kc_cli.specs.Answers.{AreAnswered}
use Rattle.kc_cli.specs.Live.{IsLiveText, CouldRun, HasBadActor}
use Rattle.kc_run.specs.declared.ending.Ending.TheVariants as endings
use Rattle.kc_run.specs.Endings.{done_as, answered_as, compared_by, compared_as, judged_as, ending_converted, converted_as}
use Rattle.kc_run.specs.Ends.{Ends}
use Rattle.kc_run.specs.Run.{IsAnswered, IsCompared, Replays, RunsLive, AuditsDump, RedactsTrace, RedactsHost, ConvertsFirst, ConvertsAfter}

pub sink_err : {A B : Type 0} (failed : Bool) (begun untouched : Type 0) (f : TextFault) → TellsSink {A = A} failed begun untouched (Err f) → TellsSink {A = B} failed begun untouched (Err f)
sink_err {A} {B} failed begun untouched f h = record {
  write = λ e. h.write (let same : f ≡ texts.Write = cc in cc);
  failed_is = λ bad. let e = h.failed_is bad in let same : f ≡ texts.Write = cc in cc;
  kept = kept h.kept;
}
  where
    kept : untouched ⊎ (◌≡◌ {A = Result A TextFault} (Err f) (Err texts.Write)) → untouched ⊎ (◌≡◌ {A = Result B TextFault} (Err f) (Err texts.Write))
    kept (inl is) = inl is
    kept (inr e) = let same : f ≡ texts.Write = cc in inr cc

pub replays : (origin : Origin) (form : ReplayForm) (blank : Bool) (workers : ℕ) (start : Seen) (ends : Ends) (r : Result Answered TextFault) → ends.refused ≡ None
    → IfOk r (AreAnswered origin start.had ends.input.had)
    → OnOk r (Writes (IsReplayText origin form blank) start.had ends.input.had ends.out.had ends.out.has) → TellsSources (start ∷ ends.input ∷ []) r → TellsTexts origin start ends.input ends.unread r → TellsReplay (wants_text form) workers origin start.had ends.unread r
    → TellsSink ends.out.failed (Begins (IsReplayText origin form blank) start.had ends.input.had ends.out.had ends.out.has) ends.untouched r → Replays origin form blank workers start None ends (answered_as r)
replays origin form blank workers start ends (Ok x) opened answered written sources told replay sink = record {
  opened = opened;
  written = written;
  answered = answered;
  compared = tt;
  sources = sources_after _ x (Ok (endings.Answered x)) sources tt;
  told = texts_after _ _ _ _ x (Ok (endings.Answered x)) told tt;
  replay = replay_after _ _ _ _ _ x (Ok (endings.Answered x)) replay tt;
  sink = sink_ok _ _ _ x (endings.Answered x) sink;
}
replays origin form blank workers start ends (Err f) opened answered written sources told replay sink = record {
  opened = opened;
  written = tt;
  answered = tt;
  compared = tt;
  sources = sources_err _ f sources;
  told = texts_err _ _ _ _ f told;
  replay = replay_err _ _ _ _ _ f replay;
  sink = sink_err _ _ _ f sink;
}

-- what is said of the calls, and of the difference, is said of the ending
counted_so : (origin : Origin) (start trace : Option (List ℕ)) (answered : Answered) (line : Option ℕ) → AreAnswered origin start trace answered → IsAnswered origin start trace (compared_by answered line)
counted_so origin start trace answered None is = is
counted_so origin start trace answered (Some line) is = is

compared_so : (origin : Origin) (blank : Bool) (start trace : Option (List ℕ)) (to : Seen) (answered : Answered) (line : Option ℕ) → DiffersFromLeft origin blank start trace to.had line → IsCompared origin blank start trace (Some to) (compared_by answered line)
compared_so origin blank start trace to answered None is = is
compared_so origin blank start trace to answered (Some line) is = is

pub compares : (origin : Origin) (form : ReplayForm) (blank : Bool) (workers : ℕ) (start to : Seen) (ends : Ends) (r : Result Compared TextFault) → ends.refused ≡ None
    → IfOk r (λ made. AreAnswered origin start.had ends.input.had made.answered)
    → OnOk r (Writes (IsReplayText origin form blank) start.had ends.input.had ends.out.had ends.out.has) → IfOk r (λ made. DiffersFromLeft origin blank start.had ends.input.had to.had made.difference)
    → TellsSources (start ∷ ends.input ∷ to ∷ []) r → TellsTexts origin start ends.input ends.unread r → TellsReplay true workers origin start.had ends.unread r
    → TellsSink ends.out.failed (Begins (IsReplayText origin form blank) start.had ends.input.had ends.out.had ends.out.has) ends.untouched r → Replays origin form blank workers start (Some to) ends (compared_as r)
compares origin form blank workers start to ends (Ok x) opened answered written differs sources told replay sink =
    let ending = compared_by x.answered x.difference in
    record {
      opened = opened;
      written = written;
      answered = counted_so origin start.had ends.input.had x.answered x.difference answered;
      compared = compared_so origin blank start.had ends.input.had to x.answered x.difference differs;
      sources = sources_after _ x (Ok ending) sources tt;
      told = texts_after _ _ _ _ x (Ok ending) told tt;
      replay = replay_after _ _ _ _ _ x (Ok ending) replay tt;
      sink = sink_ok _ _ _ x ending sink;
    }
compares origin form blank workers start to ends (Err f) opened answered written differs sources told replay sink = record {
  opened = opened;
  written = tt;
  answered = tt;
  compared = tt;
  sources = sources_err _ f sources;
  told = texts_err _ _ _ _ f told;
  replay = replay_err _ _ _ _ _ f replay;
  sink = sink_err _ _ _ f sink;
}

pub runs_live : {A : Type 0} (workers : ℕ) (config : Seen) (ends : Ends) (r : Result A TextFault) → ends.refused ≡ None
    → OnOk r (Writes IsLiveText config.had ends.input.had ends.out.had ends.out.has) → TellsSources (config ∷ ends.input ∷ []) r → TellsTexts origins.Boot config ends.input ends.unread r
    → TellsSink ends.out.failed (Begins IsLiveText config.had ends.input.had ends.out.had ends.out.has) ends.untouched r
    → (IsErrOf r texts.Workers ↔ ((workers ≡ 0) ⊎ (worker_limit < workers))) → ((program : ℕ) → r ≡ Err (texts.BadActor program) → HasBadActor config.had ends.input.had program) → ((number : ℕ) → r ≢ Err (texts.NoSlot number)) → r ≢ Err texts.NoText
    → (r ≡ Err texts.Start → CouldRun config.had ends.input.had) → (r ≡ Err texts.Unsettled → CouldRun config.had ends.input.had) → RunsLive workers config ends (done_as r)
runs_live workers config ends (Ok x) opened written sources told sink judged actor slot text started unsettled = record {
  opened = opened;
  written = written;
  done = refl;
  sources = sources_after _ x (Ok endings.Done) sources tt;
  told = texts_after _ _ _ _ x (Ok endings.Done) told tt;
  sink = sink_ok _ _ _ x endings.Done sink;
  judged = (λ e. absurd cc, λ bad. let e = judged.1 bad in absurd cc);
  actor = λ p e. absurd cc;
  slot = λ n e. cc;
  text = λ e. cc;
  started = λ e. absurd cc;
  unsettled = λ e. absurd cc;
}
runs_live workers config ends (Err f) opened written sources told sink judged actor slot text started unsettled = record {
  opened = opened;
  written = tt;
  done = tt;
  sources = sources_err _ f sources;
  told = texts_err _ _ _ _ f told;
  sink = sink_err _ _ _ f sink;
  judged = (λ e. judged.0 (let same : f ≡ texts.Workers = cc in cc), λ bad. let e = judged.1 bad in let same : f ≡ texts.Workers = cc in cc);
  actor = λ p e. actor p (let same : f ≡ texts.BadActor p = cc in cc);
  slot = λ n e. slot n (let same : f ≡ texts.NoSlot n = cc in cc);
  text = λ e. text (let same : f ≡ texts.NoText = cc in cc);
  started = λ e. started (let same : f ≡ texts.Start = cc in cc);
  unsettled = λ e. unsettled (let same : f ≡ texts.Unsettled = cc in cc);
}

pub audits_dump : (all : Bool) (ends : Ends) (r : Result Bool TextFault) → ends.refused ≡ None → IfOk r (λ sound. Audits all ends.input.had sound ends.out.had ends.out.has) → TellsSources (ends.input ∷ []) r
    → TellsSink ends.out.failed (BeginsAudit all ends.input.had ends.out.had ends.out.has) ends.untouched r → ((fault : DumpFault) → r ≡ Err (texts.Dump fault) → IfSome ends.input.had (λ text. IsRefusedDump text fault) × IsAtEnd ends.input.has)
    → IfErr r (λ fault. IsDumpFault fault ⊎ ((fault ≡ texts.Read) ⊎ (fault ≡ texts.Write))) → AuditsDump all ends (judged_as r endings.Unsound)
audits_dump all ends (Ok true) opened audited sources sink dump fault = record {
  opened = opened;
  audited = audited;
  sources = sources_after _ true (Ok endings.Done) sources tt;
  sink = sink_ok _ _ _ true endings.Done sink;
  dump = λ f e. absurd cc;
  fault = tt;
}
audits_dump all ends (Ok false) opened audited sources sink dump fault = record {
  opened = opened;
  audited = audited;
  sources = sources_after _ false (Ok endings.Unsound) sources tt;
  sink = sink_ok _ _ _ false endings.Unsound sink;
  dump = λ f e. absurd cc;
  fault = tt;
}
audits_dump all ends (Err f) opened audited sources sink dump fault = record {
  opened = opened;
  audited = tt;
  sources = sources_err _ f sources;
  sink = sink_err _ _ _ f sink;
  dump = λ said e. dump said (let same : f ≡ texts.Dump said = cc in cc);
  fault = fault;
}

pub redacts_trace : {A : Type 0} (ends : Ends) (r : Result A TextFault) → ends.refused ≡ None → OnOk r (Redacts ends.input.had ends.out.had ends.out.has) → TellsSources (ends.input ∷ []) r
    → TellsSink ends.out.failed (BeginsRedaction ends.input.had ends.out.had ends.out.has) ends.untouched r → ((fault : TraceFault) → r ≡ Err (texts.Trace fault) → IfSome ends.input.had (λ text. IsRefused text fault) × IsAtEnd ends.input.has)
    → IfErr r IsRedactFault → RedactsTrace ends (done_as r)
redacts_trace ends (Ok x) opened written sources sink trace fault = record {
  opened = opened;
  written = written;
  done = refl;
  sources = sources_after _ x (Ok endings.Done) sources tt;
  sink = sink_ok _ _ _ x endings.Done sink;
  trace = λ f e. absurd cc;
  fault = tt;
}
redacts_trace ends (Err f) opened written sources sink trace fault = record {
  opened = opened;
  written = tt;
  done = tt;
  sources = sources_err _ f sources;
  sink = sink_err _ _ _ f sink;
  trace = λ said e. trace said (let same : f ≡ texts.Trace said = cc in cc);
  fault = fault;
}

pub redacts_host : (origin : Origin) (start : Seen) (ends : Ends) (r : Result Answered TextFault) → ends.refused ≡ None
    → IfOk r (AreAnswered origin start.had ends.input.had) → OnOk r (Writes (IsHostRedacted origin) start.had ends.input.had ends.out.had ends.out.has) → TellsSources (start ∷ ends.input ∷ []) r → TellsTexts origin start ends.input ends.unread r
    → TellsSink ends.out.failed (Begins (IsHostRedacted origin) start.had ends.input.had ends.out.had ends.out.has) ends.untouched r → IfErr r IsHostRedactFault → RedactsHost origin start ends (answered_as r)
redacts_host origin start ends (Ok answered) opened counted written sources told sink fault = record {
  opened = opened;
  written = written;
  answered = (answered, refl, counted);
  sources = sources_after _ answered (Ok (endings.Answered answered)) sources tt;
  told = texts_after _ _ _ _ answered (Ok (endings.Answered answered)) told tt;
  sink = sink_ok _ _ _ answered (endings.Answered answered) sink;
  fault = tt;
}
redacts_host origin start ends (Err f) opened counted written sources told sink fault = record {
  opened = opened;
  written = tt;
  answered = tt;
  sources = sources_err _ f sources;
  told = texts_err _ _ _ _ f told;
  sink = sink_err _ _ _ f sink;
  fault = fault;
}

pub converts_first : {A : Type 0} (config : Seen) (ends : Ends) (r : Result A TextFault) → ends.refused ≡ None → OnOk r (Writes IsFirstVolume config.had ends.input.had ends.out.had ends.out.has) → TellsSources (config ∷ ends.input ∷ []) r
    → TellsSink ends.out.failed (Begins IsFirstVolume config.had ends.input.had ends.out.had ends.out.has) ends.untouched r
    → ((fault : ConfigTextFault) → r ≡ Err (texts.Config fault) → IfSome config.had (λ text. config_in text ≡ Err fault) × IsAtEnd config.has × ends.unread)
    → ((fault : TraceFault) → r ≡ Err (texts.Trace fault) → IfSome ends.input.had (λ text. IsRefusedBare text fault) × IsAtEnd ends.input.has) → IfErr r IsConvertFault → ConvertsFirst config ends (done_as r)
converts_first config ends (Ok x) opened written sources sink machine trace fault = record {
  opened = opened;
  written = written;
  done = refl;
  sources = sources_after _ x (Ok endings.Done) sources tt;
  sink = sink_ok _ _ _ x endings.Done sink;
  config = λ said e. absurd cc;
  trace = λ said e. absurd cc;
  fault = tt;
}
converts_first config ends (Err f) opened written sources sink machine trace fault = record {
  opened = opened;
  written = tt;
  done = tt;
  sources = sources_err _ f sources;
  sink = sink_err _ _ _ f sink;
  config = λ said e. machine said (let same : f ≡ texts.Config said = cc in cc);
  trace = λ said e. trace said (let same : f ≡ texts.Trace said = cc in cc);
  fault = fault;
}

pub converts_after : (before : Seen) (ends : Ends) (r : Result Converted TextFault) → ends.refused ≡ None → IfOk r (IsConversion before ends.input ends.out.had ends.out.has ends.unread ends.untouched)
    → (r ≡ Err texts.Read → HasFailedRead (before ∷ ends.input ∷ [])) → (HasFailed (before ∷ ends.input ∷ []) → r ≡ Err texts.Read)
    → TellsSink ends.out.failed (Begins IsNextVolume before.had ends.input.had ends.out.had ends.out.has) ends.untouched r → IfErr r IsSystemFault → ConvertsAfter before ends (converted_as r)
converts_after before ends (Ok converted) opened made read failed sink fault = record {
  opened = opened;
  ending = (converted, refl, made);
  read = λ e. absurd cc;
  failed = λ bad. (let e = failed bad in absurd cc);
  sink = sink_ok _ _ _ converted (ending_converted converted) sink;
  fault = tt;
}
converts_after before ends (Err f) opened made read failed sink fault = record {
  opened = opened;
  ending = tt;
  read = λ e. read (let same : f ≡ texts.Read = cc in cc);
  failed = λ bad. (let e = failed bad in let same : f ≡ texts.Read = cc in cc);
  sink = sink_err _ _ _ f sink;
  fault = fault;
}
