-- What is said of an ending if less is known of an input that was not read.
use Rattle.std.proofs.Common.{◌∷◌, Bool, ℕ, List, [], Option, None, Some, Result, Ok, Err, inl, inr}
use Rattle.std.specs.Prelude.{IfOk}
use Rattle.kc_texts.specs.declared.order.Origin.{Origin}
use Rattle.kc_faults.specs.declared.fault.TextFault.{TextFault}
use Rattle.kc_texts.specs.Ends.{Seen}
use Rattle.kc_faults.proofs.Told.{texts_unread, replay_unread}
use Rattle.kc_texts.specs.declared.order.ReplayForm.{ReplayForm}
use Rattle.kc_cli.specs.Kinds.{TellsAccount}
use Rattle.kc_args.specs.Jobs.{Path}
use Rattle.kc_run.specs.declared.ending.Ending.TheVariants as endings
use Rattle.kc_run.specs.Endings.{Ended}
use Rattle.kc_run.specs.Ends.{Ends}
use Rattle.kc_run.specs.Reports.{Report, IsVolumesEnding, ReportsTrace, ReportsVolumes, Reports}
use Rattle.kc_run.specs.Run.{IsUnopened, makes_text, Replays, ReplaysTo}

-- the ends, of which less is known if nothing was read
abbrev pub with_unread : Ends → Type 0 → Ends
with_unread ends less = record ends { unread = less }

unopened_less : (path : Path) (ends : Ends) (less : Type 0) (ended : Ended) → (ends.unread → less) → IsUnopened path ends ended → IsUnopened path (with_unread ends less) ended
unopened_less path ends less ended step h = record { fault = h.fault; ended_is = h.ended_is; opening = h.opening; unread = step h.unread; untouched = h.untouched }

-- ---- replay

replays_less : (origin : Origin) (form : ReplayForm) (blank : Bool) (workers : ℕ) (start : Seen) (to : Option Seen) (ends : Ends) (less : Type 0) (ended : Ended) → (ends.unread → less)
    → Replays origin form blank workers start to ends ended → Replays origin form blank workers start to (with_unread ends less) ended
replays_less origin form blank workers start to ends less ended step h = record {
  opened = h.opened;
  written = h.written;
  answered = h.answered;
  compared = h.compared;
  sources = h.sources;
  told = texts_unread origin start ends.input ends.unread less ended step h.told;
  replay = replay_unread (makes_text form to) workers origin start.had ends.unread less ended step h.replay;
  sink = h.sink;
}

pub replays_to_less : {S : Type 0} (left : S → Option (List ℕ)) (failed : S → Bool) (origin : Origin) (form : ReplayForm) (blank : Bool) (workers : ℕ) (to : Option Path) (start : Seen) (ends : Ends) (less : Type 0) (ended : Ended) → (ends.unread → less)
    → ReplaysTo left failed origin form blank workers to start ends ended → ReplaysTo left failed origin form blank workers to start (with_unread ends less) ended
replays_to_less left failed origin form blank workers None start ends less ended step h = replays_less origin form blank workers start None ends less ended step h
replays_to_less left failed origin form blank workers (Some path) start ends less ended step (inl h) = inl (unopened_less path ends less ended step h)
replays_to_less left failed origin form blank workers (Some path) start ends less ended step (inr (to, file, had, h)) = inr (to, file, had, replays_less origin form blank workers start (Some to) ends less ended step h)

-- ---- reports

account_less : {A : Type 0} (slot : Option ℕ) (workers : ℕ) (origin : Origin) (start : Option (List ℕ)) (unread less : Type 0) (result : Result A TextFault) → (unread → less) → TellsAccount slot workers origin start unread result → TellsAccount slot workers origin start less result
account_less slot workers origin start unread less result step h = record {
  named = h.named;
  lacking = λ number e. let is = h.lacking number e in (is.0, is.1, step is.2);
  judged = h.judged;
  started = h.started;
  settled = h.settled;
  actor = h.actor;
  text = h.text;
}

trace_less : (report : Report) (start : Seen) (ends : Ends) (less : Type 0) (ended : Ended) → (ends.unread → less) → ReportsTrace report start ends ended → ReportsTrace report start (with_unread ends less) ended
trace_less report start ends less ended step h = record {
  opened = h.opened;
  ending = h.ending;
  written = h.written;
  sources = h.sources;
  told = texts_unread report.origin start ends.input ends.unread less ended step h.told;
  tells = account_less report.slot report.workers report.origin start.had ends.unread less ended step h.tells;
  sink = h.sink;
}

-- how it ended says nothing of what was not read
ending_less : (report : Report) (start : Seen) (after : List Path) (files : List Seen) (ends : Ends) (less : Type 0) (ended : Ended) → IfOk ended (IsVolumesEnding report start after files ends) → IfOk ended (IsVolumesEnding report start after files (with_unread ends less))
ending_less report start after files ends less (Ok (endings.Answered answered)) h = h
ending_less report start after files ends less (Ok (endings.Refused volume fault)) h = h
ending_less report start after files ends less (Ok endings.Done) h = h
ending_less report start after files ends less (Ok (endings.Another answered line)) h = h
ending_less report start after files ends less (Ok endings.Unsound) h = h
ending_less report start after files ends less (Ok (endings.EmptyImage number)) h = h
ending_less report start after files ends less (Err fault) h = tt

volumes_less : {S : Type 0} (left : S → Option (List ℕ)) (failed : S → Bool) (report : Report) (after : List Path) (start : Seen) (ends : Ends) (less : Type 0) (ended : Ended) → (ends.unread → less)
    → ReportsVolumes left failed report after start ends ended → ReportsVolumes left failed report after start (with_unread ends less) ended
volumes_less left failed report after start ends less ended step h = record {
  files = h.files;
  opened = h.opened;
  ending = ending_less report start after h.files ends less ended h.ending;
  read = h.read;
  failed = h.failed;
  unopened = h.unopened;
  told = texts_unread report.origin start ends.input ends.unread less ended step h.told;
  trace = h.trace;
  tells = account_less report.slot report.workers report.origin start.had ends.unread less ended step h.tells;
  sink = h.sink;
}

pub reports_less : {S : Type 0} (left : S → Option (List ℕ)) (failed : S → Bool) (report : Report) (after : List Path) (start : Seen) (ends : Ends) (less : Type 0) (ended : Ended) → (ends.unread → less) → Reports left failed report after start ends ended → Reports left failed report after start (with_unread ends less) ended
reports_less left failed report [] start ends less ended step h = trace_less report start ends less ended step h
reports_less left failed report (path ∷ after) start ends less ended step h = volumes_less left failed report (path ∷ after) start ends less ended step h
