-- What is reported of the ends stays true in the last step of an engine.
use Rattle.std.proofs.Common.{◌≡◌, ◌≢◌, ◌⊎◌, ◌<◌, ◌≤◌, arith, ℕ, Bool, true, false, List, Option, Some, None, Result, Ok, Err, inl, inr, refl, subst}
use Rattle.std.specs.Prelude.{IfErr, IfSome, is_err, OnErr}
use Rattle.std.specs.Io.KnownBytes.{IsAtEnd}
use Rattle.kc_config_text.specs.declared.config_text.ConfigTextFault.{ConfigTextFault}
use Rattle.kc_trace.specs.declared.fault.TraceFault.{TraceFault}
use Rattle.kc_trace.specs.declared.fault.TraceFault.TheVariants.{Misplaced}
use Rattle.kc_trace.specs.declared.expected.Expected.{Expected}
use Rattle.kc_trace.specs.declared.expected.HeaderFault.{HeaderFault}
use Rattle.kc_trace.specs.declared.expected.Expected.TheVariants.{First}
use Rattle.kc_types.specs.Configuration.{Configuration, has_dump}
use Rattle.kc_types.specs.Limits.{worker_limit}
use Rattle.kc_config_text.specs.ConfigText.{config_in}
use Rattle.kc_model.specs.State.{State}
use Rattle.kc_model.specs.Boot.{boot}
use Rattle.kc_state_text.specs.declared.fault.StateFault.{StateFault}
use Rattle.kc_state_text.specs.Refused.{IsRefusedPlaced}
use Rattle.kc_texts.specs.declared.order.Origin.{Origin}
use Rattle.kc_texts.specs.declared.order.Origin.TheVariants as origins
use Rattle.kc_trace.specs.Expected.{IsRefusedThere}
use Rattle.kc_faults.specs.Origins.{SpellsMachine, BeginsIn, HasTexts, LacksTexts, IsBegun}
use Rattle.kc_faults.proofs.Placed.{known_refused_from}
use Rattle.kc_faults.specs.Outcomes.{IsStartFault, IsTold, TellsSources, TellsTexts, TellsReplay, TellsSink}
use Rattle.kc_texts.specs.Ends.{Seen}
use Rattle.kc_faults.specs.declared.fault.TextFault.{TextFault}
use Rattle.kc_faults.specs.declared.fault.TextFault.TheVariants as texts

-- the last step is refused for memory or its sink only
abbrev pub IsLastFault : TextFault → Type 0
IsLastFault fault = (fault ≡ texts.Memory) ⊎ (fault ≡ texts.Write)

pub sources_after : {A B : Type 0} (sources : List Seen) (x : A) (last : Result B TextFault) → TellsSources sources (Ok x) → IfErr last IsLastFault → TellsSources sources last
sources_after sources x (Ok y) h fault = record { ended = h.ended; read = λ e. absurd cc; failed = λ bad. let e = h.failed bad in absurd cc }
sources_after sources x (Err f) h (inl memory) = record { ended = tt; read = λ e. absurd cc; failed = λ bad. let e = h.failed bad in absurd cc }
sources_after sources x (Err f) h (inr write) = record { ended = tt; read = λ e. absurd cc; failed = λ bad. let e = h.failed bad in absurd cc }

pub texts_after : {A B : Type 0} (origin : Origin) (start trace : Seen) (unread : Type 0) (x : A) (last : Result B TextFault) → TellsTexts origin start trace unread (Ok x) → IfErr last IsLastFault → TellsTexts origin start trace unread last
texts_after origin start trace unread x (Ok y) h fault = record { config_fault = λ f e. absurd cc; state_fault = λ f e. absurd cc; trace_fault = λ f e. absurd cc; after_start = h.after_start; begun = λ f e. absurd cc; told = tt }
texts_after origin start trace unread x (Err f) h (inl memory) = record { config_fault = λ g e. absurd cc; state_fault = λ g e. absurd cc; trace_fault = λ g e. absurd cc; after_start = h.after_start; begun = λ g e. absurd cc; told = (λ e. cc, λ e. cc, λ e. cc, λ d e. cc) }
texts_after origin start trace unread x (Err f) h (inr write) = record { config_fault = λ g e. absurd cc; state_fault = λ g e. absurd cc; trace_fault = λ g e. absurd cc; after_start = h.after_start; begun = λ g e. absurd cc; told = (λ e. cc, λ e. cc, λ e. cc, λ d e. cc) }

may_be : (workers : ℕ) → 0 < workers → workers ≤ worker_limit → (workers ≡ 0) ⊎ (worker_limit < workers) → ⊥
may_be workers some few (inl none) = absurd (omega (arith, some, none))
may_be workers some few (inr many) = absurd (omega (arith, few, many))

pub replay_after : {A B : Type 0} (wanted : Bool) (workers : ℕ) (origin : Origin) (start : Option (List ℕ)) (unread : Type 0) (x : A) (last : Result B TextFault) → TellsReplay wanted workers origin start unread (Ok x) → IfErr last IsLastFault → TellsReplay wanted workers origin start unread last
replay_after wanted workers origin start unread x (Ok y) h fault =
    record { has = h.has; lacks = λ e. absurd cc; judged = (λ e. absurd cc, λ bad. let e = h.judged.1 bad in absurd cc); started = λ e. absurd cc; settled = λ e. cc; actor = λ p e. cc; slot = λ n e. cc }
replay_after wanted workers origin start unread x (Err f) h (inl memory) =
    record { has = tt; lacks = λ e. absurd cc; judged = (λ e. absurd cc, λ bad. let e = h.judged.1 bad in absurd cc); started = λ e. absurd cc; settled = λ e. cc; actor = λ p e. cc; slot = λ n e. cc }
replay_after wanted workers origin start unread x (Err f) h (inr write) =
    record { has = tt; lacks = λ e. absurd cc; judged = (λ e. absurd cc, λ bad. let e = h.judged.1 bad in absurd cc); started = λ e. absurd cc; settled = λ e. cc; actor = λ p e. cc; slot = λ n e. cc }

-- a fault from which nothing was written
pub sources_err : {A B : Type 0} (sources : List Seen) (f : TextFault) → TellsSources {A = A} sources (Err f) → TellsSources {A = B} sources (Err f)
sources_err sources f h = record { ended = tt; read = λ e. h.read (let same : f ≡ texts.Read = cc in cc); failed = λ bad. let e = h.failed bad in let same : f ≡ texts.Read = cc in cc }

pub texts_err : {A B : Type 0} (origin : Origin) (start trace : Seen) (unread : Type 0) (f : TextFault) → TellsTexts {A = A} origin start trace unread (Err f) → TellsTexts {A = B} origin start trace unread (Err f)
texts_err origin start trace unread f h = record {
  config_fault = λ g e. h.config_fault g (let same : f ≡ texts.Config g = cc in cc);
  state_fault = λ g e. h.state_fault g (let same : f ≡ texts.State g = cc in cc);
  trace_fault = λ g e. h.trace_fault g (let same : f ≡ texts.Trace g = cc in cc);
  after_start = h.after_start;
  begun = λ g e. h.begun g (let same : f ≡ texts.Trace g = cc in cc);
  told = h.told;
}

pub replay_err : {A B : Type 0} (wanted : Bool) (workers : ℕ) (origin : Origin) (start : Option (List ℕ)) (unread : Type 0) (f : TextFault) → TellsReplay {A = A} wanted workers origin start unread (Err f) → TellsReplay {A = B} wanted workers origin start unread (Err f)
replay_err wanted workers origin start unread f h = record {
  has = tt;
  lacks = λ e. h.lacks (let same : f ≡ texts.NoText = cc in cc);
  judged = (λ e. h.judged.0 (let same : f ≡ texts.Workers = cc in cc), λ bad. let e = h.judged.1 bad in let same : f ≡ texts.Workers = cc in cc);
  started = λ e. h.started (let same : f ≡ texts.Start = cc in cc);
  settled = λ e. h.settled (let same : f ≡ texts.Unsettled = cc in cc);
  actor = λ p e. h.actor p (let same : f ≡ texts.BadActor p = cc in cc);
  slot = λ n e. h.slot n (let same : f ≡ texts.NoSlot n = cc in cc);
}

-- the version of the machine that a start is on has texts, or none
pub has_texts : (origin : Origin) (start : Option (List ℕ)) (m : State) (expected : Expected) → IfSome start (λ text. BeginsIn origin text m expected) → has_dump m.config.version ≡ true → IfSome start (HasTexts origin)
has_texts origin None m expected begins has = tt
has_texts origin (Some text) m expected begins has = (m, expected, begins, has)

pub lacks_texts : (origin : Origin) (start : Option (List ℕ)) (m : State) (expected : Expected) → IfSome start (λ text. BeginsIn origin text m expected) → has_dump m.config.version ≡ false → IfSome start (LacksTexts origin)
lacks_texts origin None m expected begins none = tt
lacks_texts origin (Some text) m expected begins none = (m, expected, begins, none)

-- the number of workers is one that there may be, and all was read
pub replay_ok : {A : Type 0} (wanted : Bool) (workers : ℕ) (origin : Origin) (start : Option (List ℕ)) (unread : Type 0) (x : A) → (wanted ≡ true → IfSome start (HasTexts origin)) → 0 < workers → workers ≤ worker_limit → TellsReplay wanted workers origin start unread (Ok x)
replay_ok wanted workers origin start unread x has some few = record { has = has; lacks = λ e. absurd cc; judged = (λ e. absurd cc, λ bad. absurd (may_be workers some few bad)); started = λ e. absurd cc; settled = λ e. cc; actor = λ p e. cc; slot = λ n e. cc }

pub replay_trace : {A : Type 0} (wanted : Bool) (workers : ℕ) (origin : Origin) (start : Option (List ℕ)) (unread : Type 0) (fault : TraceFault) → 0 < workers → workers ≤ worker_limit → TellsReplay {A = A} wanted workers origin start unread (Err (texts.Trace fault))
replay_trace wanted workers origin start unread fault some few = record { has = tt; lacks = λ e. absurd cc; judged = (λ e. absurd cc, λ bad. absurd (may_be workers some few bad)); started = λ e. absurd cc; settled = λ e. cc; actor = λ p e. cc; slot = λ n e. cc }

-- a text is wanted that the version of the machine has not, and nothing was read of the trace
pub replay_lacks : {A : Type 0} (wanted : Bool) (workers : ℕ) (origin : Origin) (start : Option (List ℕ)) (unread : Type 0) (m : State) (expected : Expected) → wanted ≡ true → IfSome start (λ text. BeginsIn origin text m expected) → has_dump m.config.version ≡ false → unread → 0 < workers → workers ≤ worker_limit
    → TellsReplay {A = A} wanted workers origin start unread (Err texts.NoText)
replay_lacks wanted workers origin start unread m expected wants begins none same some few = record { has = tt; lacks = λ e. (wants, lacks_texts origin start m expected begins none, same); judged = (λ e. absurd cc, λ bad. absurd (may_be workers some few bad)); started = λ e. absurd cc; settled = λ e. cc; actor = λ p e. cc; slot = λ n e. cc }

-- less is known if the trace was not read
pub replay_unread : {A : Type 0} (wanted : Bool) (workers : ℕ) (origin : Origin) (start : Option (List ℕ)) (unread less : Type 0) (result : Result A TextFault) → (unread → less) → TellsReplay wanted workers origin start unread result → TellsReplay wanted workers origin start less result
replay_unread wanted workers origin start unread less result step h = record {
  has = h.has;
  lacks = λ e. let is = h.lacks e in (is.0, is.1, step is.2);
  judged = h.judged;
  started = h.started;
  settled = h.settled;
  actor = h.actor;
  slot = h.slot;
}

-- the sink took a beginning, and more follows from that
pub sink_more : {A : Type 0} (failed : Bool) (begun more untouched : Type 0) (result : Result A TextFault) → (begun → more) → TellsSink failed begun untouched result → TellsSink failed more untouched result
sink_more failed begun more untouched result step h = record { write = λ e. let one = h.write e in (one.0, step one.1); failed_is = h.failed_is; kept = h.kept }

-- a source that reports its text reports a start
pub begun_is : (origin : Origin) (had : Option (List ℕ)) (m : State) (expected : Expected) → IfSome had (λ text. BeginsIn origin text m expected) → IsBegun origin had
begun_is origin None m expected h = tt
begun_is origin (Some text) m expected h = (m, expected, h)

-- that of a machine is its boot state
pub boots : (had : Option (List ℕ)) (config : Configuration) → IfSome had (λ text. SpellsMachine text config) → IfSome had (λ text. BeginsIn origins.Boot text (boot config) First)
boots None config h = tt
boots (Some text) config h = (config, h, refl, refl)

-- both were read
pub texts_ok : {A : Type 0} (origin : Origin) (start trace : Seen) (unread : Type 0) (m : State) (expected : Expected) (x : A) → IfSome start.had (λ text. BeginsIn origin text m expected) → TellsTexts origin start trace unread (Ok x)
texts_ok origin start trace unread m expected x known = record { config_fault = λ f e. absurd cc; state_fault = λ f e. absurd cc; trace_fault = λ f e. absurd cc; after_start = inr (begun_is origin start.had m expected known); begun = λ f e. absurd cc; told = tt }

-- what the calls begin with was refused
pub texts_start : {A : Type 0} (origin : Origin) (start trace : Seen) (unread : Type 0) (f : TextFault) → ((said : ConfigTextFault) → f ≡ texts.Config said → (origin ≡ origins.Boot) × IfSome start.had (λ text. config_in text ≡ Err said) × IsAtEnd start.has)
    → ((said : StateFault) → f ≡ texts.State said → (origin ≡ origins.State) × IfSome start.had (λ text. IsRefusedPlaced text said) × IsAtEnd start.has) → IsStartFault f → unread → TellsTexts {A = A} origin start trace unread (Err f)
texts_start origin start trace unread f config state fault none = record {
  config_fault = λ said e. let is = config said (let same : f ≡ texts.Config said = cc in same) in (is.0, is.1, is.2, none);
  state_fault = λ said e. let is = state said (let same : f ≡ texts.State said = cc in same) in (is.0, is.1, is.2, none);
  trace_fault = λ said e. absurd (fault.trace said (let same : f ≡ texts.Trace said = cc in same));
  after_start = inl none;
  begun = λ said e. absurd (fault.trace said (let same : f ≡ texts.Trace said = cc in same));
  told = fault.reading.told;
}

-- the trace was refused, after a start
pub texts_trace : {A : Type 0} (origin : Origin) (start trace : Seen) (unread : Type 0) (m : State) (expected : Expected) (f : TextFault) → IfSome start.had (λ text. BeginsIn origin text m expected) → ((said : TraceFault) → f ≡ texts.Trace said → IfSome trace.had (λ text. IsRefusedThere m.config expected text said) × IsAtEnd trace.has)
    → ((said : ConfigTextFault) → f ≢ texts.Config said) → ((said : StateFault) → f ≢ texts.State said) → IsTold f → TellsTexts {A = A} origin start trace unread (Err f)
texts_trace origin start trace unread m expected f known refused config state told = record {
  config_fault = λ said e. absurd (config said (let same : f ≡ texts.Config said = cc in same));
  state_fault = λ said e. absurd (state said (let same : f ≡ texts.State said = cc in same));
  trace_fault = λ said e. (let is = refused said (let same : f ≡ texts.Trace said = cc in same) in (known_refused_from origin start.had m expected trace.had said known is.0, is.1));
  after_start = inr (begun_is origin start.had m expected known);
  begun = λ said e. begun_is origin start.had m expected known;
  told = told;
}

-- all was read, and the trace's header may not be there
pub texts_misplaced : {A : Type 0} (origin : Origin) (start trace : Seen) (unread : Type 0) (m : State) (expected : Expected) (wrong : HeaderFault) → IfSome start.had (λ text. BeginsIn origin text m expected) → IfSome trace.had (λ text. IsRefusedThere m.config expected text (Misplaced wrong)) → IsAtEnd trace.has
    → TellsTexts {A = A} origin start trace unread (Err (texts.Trace (Misplaced wrong)))
texts_misplaced origin start trace unread m expected wrong known refused ended =
    texts_trace origin start trace unread m expected (texts.Trace (Misplaced wrong)) known
    (λ said same. let is : Misplaced wrong ≡ said = cc in (subst (λ (fault : TraceFault). IfSome trace.had (λ text. IsRefusedThere m.config expected text fault)) is refused, ended))
    (λ said e. cc) (λ said e. cc) (λ e. cc, λ e. cc, λ e. cc, λ d e. cc)

pub on_err : {T E P : Type 0} (r : Result T E) → is_err r ≡ true → OnErr r P → P
on_err (Ok x) e h = cc
on_err (Err f) e h = h

-- ---- what was said if the trace was not read, and less is known

pub texts_unread : {A : Type 0} (origin : Origin) (start trace : Seen) (unread less : Type 0) (result : Result A TextFault) → (unread → less) → TellsTexts origin start trace unread result → TellsTexts origin start trace less result
texts_unread origin start trace unread less result step h = record {
  config_fault = λ f e. let is = h.config_fault f e in (is.0, is.1, is.2, step is.3);
  state_fault = λ f e. let is = h.state_fault f e in (is.0, is.1, is.2, step is.3);
  trace_fault = h.trace_fault;
  after_start = elim h.after_start [ inl none ↦ inl (step none) | inr begun ↦ inr begun ];
  begun = h.begun;
  told = h.told;
}
