-- A beginning of a live run's text is given.
use Rattle.std.proofs.Common.{ℕ, ◌≡◌, ◌≤◌, ◌⊎◌, ◌∙◌, inl, inr, ap, List, length, Option, Some, None, Err, take, refl, arith, Ok}
use Rattle.std.specs.Prelude.{IfSome}
use Rattle.std.specs.Io.KnownBytes.{Appends}
use Rattle.kc_types.specs.Configuration.{Configuration}
use Rattle.kc_types.specs.declared.call.Call.{Call}
use Rattle.kc_model.specs.Boot.{boot}
use Rattle.kc_model.specs.Promises.{KeepsPromises}
use Rattle.kc_live.specs.Cuts.{KeepsOrders, MayRun}
use Rattle.kc_trace.specs.Spelling.{trace_of}
use Rattle.kc_cli.specs.Reading.{HaveRead}
use Rattle.kc_texts.specs.Written.{Begins}
use Rattle.kc_types.specs.Limits.{call_limit}
use Rattle.kc_texts.specs.Ends.{Seen}
use Rattle.kc_faults.specs.Origins.{SpellsMachine}
use Rattle.kc_faults.specs.Outcomes.{TellsTexts}
use Rattle.kc_texts.specs.declared.order.Origin.TheVariants as origins
use Rattle.kc_faults.specs.declared.fault.TextFault.{TextFault}
use Rattle.kc_trace.specs.declared.expected.Expected.TheVariants.{First}
use Rattle.kc_faults.proofs.Told.{boots, texts_trace}
use Rattle.kc_trace.specs.declared.fault.TraceFault.TheVariants as traces
use Rattle.kc_live.specs.declared.stop.LiveCause.{LiveCause}
use Rattle.kc_live.specs.declared.stop.LiveCause.TheVariants as causes
use Rattle.kc_faults.specs.declared.fault.TextFault.TheVariants as texts
use Rattle.kc_cli.specs.Live.{IsLiveText, IsLiveFault, live_fault}

pub begins_live : (config_source trace_source old new : Option (List ℕ)) (config : Configuration) (calls made : List Call) → HaveRead config_source trace_source config calls → MayRun config calls → KeepsOrders made calls → KeepsPromises (boot config) made
    → ((n : ℕ) × Appends old new (take n (trace_of made))) → Begins IsLiveText config_source trace_source old new
begins_live None trace old new config calls made read may keeps is cut = tt
begins_live (Some config_text) None old new config calls made read may keeps is cut = tt
begins_live (Some config_text) (Some trace_text) old new config calls made read may keeps is cut =
    (trace_of made, cut.0, (config, calls, record { configured = read.configured; traced = read.traced }, may, (made, keeps, is, refl)), cut.1)

-- no text is refused for what a live run of few calls is refused for
pub live_refused : {A : Type 0} (start trace : Seen) (unread : Type 0) (config : Configuration) (calls : List Call) (f : TextFault) → IfSome start.had (λ text. SpellsMachine text config) → length calls ≤ call_limit → IsLiveFault config calls f → TellsTexts {A = A} origins.Boot start trace unread (Err f)
live_refused start trace unread config calls f known few is =
    texts_trace origins.Boot start trace unread (boot config) First f (boots start.had config known)
    (λ said same. absurd (let many = (is.trace said same).1 in omega (arith, few, many))) is.config is.state
    (is.config _, λ same. (let many = (is.trace traces.Memory same).1 in omega (arith, few, many)), is.state _, is.dump)

-- what the replay of a history may end in, of a trace that may run
pub replay_fault : (config : Configuration) (calls : List Call) (cause : LiveCause) (f : TextFault) → (cause ≡ causes.Memory) ⊎ (cause ≡ causes.Start) → f ≡ live_fault cause → MayRun config calls → IsLiveFault config calls f
replay_fault config calls cause f (inl memory) is may =
    let same : f ≡ texts.Memory = is ∙ ap live_fault memory in
    record {
      workers = λ e. cc;
      read = λ e. cc;
      write = λ e. cc;
      config = λ said e. cc;
      dump = λ said e. cc;
      state = λ said e. cc;
      trace = λ said e. absurd cc;
      actor = λ p e. absurd cc;
      slot = λ n e. cc;
      text = λ e. cc;
      started = λ e. may;
      unsettled = λ e. may;
    }
replay_fault config calls cause f (inr start) is may =
    let same : f ≡ texts.Start = is ∙ ap live_fault start in
    record {
      workers = λ e. cc;
      read = λ e. cc;
      write = λ e. cc;
      config = λ said e. cc;
      dump = λ said e. cc;
      state = λ said e. cc;
      trace = λ said e. absurd cc;
      actor = λ p e. absurd cc;
      slot = λ n e. cc;
      text = λ e. cc;
      started = λ e. may;
      unsettled = λ e. may;
    }
