-- How reading goes on over one volume after another.
use Rattle.std.proofs.Common.{ℕ, suc, get_or, drop, take, ap₂, ◌≡◌, ◌≢◌, ◌<◌, ◌⊎◌, ◌+◌, ◌++◌, ◌∷◌, List, [], length, length-append, Bool, Option, Some, None, Result, Ok, Err, true, false, inl, inr, refl, ap, sym, ◌∙◌, subst, arith, append_assoc}
use Rattle.std.specs.Prelude.{is_some, IfSome}
use Rattle.std.proofs.Math.Seq.{take-suc}
use Rattle.std.proofs.lemmas.List.{map-append, append-nil, drop_more}
use Rattle.std.specs.List.{AllByRecursion}
use Rattle.std.specs.Io.KnownBytes.{IsAtEnd}
use Rattle.kc_types.specs.Configuration.{Configuration}
use Rattle.kc_model.specs.State.{State}
use Rattle.kc_trace.specs.declared.fault.TraceFault.{TraceFault}
use Rattle.kc_trace.specs.declared.fault.TraceFault.TheVariants.{TooManyCalls}
use Rattle.kc_trace.specs.declared.expected.Expected.{Expected}
use Rattle.kc_trace.specs.Expected.{IsRefusedThere}
use Rattle.kc_texts.specs.Ends.{Seen, ReadFailed, HasFailedRead, HasFailed}
use Rattle.kc_faults.specs.declared.fault.TextFault.{TextFault}
use Rattle.kc_faults.specs.declared.fault.TextFault.TheVariants as texts
use Rattle.kc_cli.specs.Traced.{Traced, expected_last}
use Rattle.kc_cli.specs.Custody.{joined, AreVolumes}
use Rattle.kc_cli.specs.Engine.{IsReplayFault}
use Rattle.kc_cli.specs.Kinds.{Kind, IsNextRefused}
use Rattle.kc_cli.specs.declared.sequence.TheConstants.{CALLS_BEFORE}
use Rattle.kc_run.specs.declared.ending.Ending.{Ending}
use Rattle.kc_run.specs.declared.ending.Ending.TheVariants as endings
use Rattle.kc_args.specs.Jobs.{Path}
use Rattle.kc_run.specs.Opening.{Held, IsOfFile, IsOpenFault}
use Rattle.kc_run.specs.Reports.{had_by, held_by, IsVolumeRefused, ReadsOn, AreOpened}

-- of two lists of sources
failed_read_after : (xs ys : List Seen) → HasFailedRead ys → HasFailedRead (xs ++ ys)
failed_read_after [] ys is = is
failed_read_after (x ∷ xs) ys is = inr (failed_read_after xs ys is)

failed_before_or_after : (xs ys : List Seen) → HasFailed (xs ++ ys) → HasFailed xs ⊎ HasFailed ys
failed_before_or_after [] ys is = inr is
failed_before_or_after (x ∷ xs) ys (inl is) = inl (inl is)
failed_before_or_after (x ∷ xs) ys (inr is) = elim (failed_before_or_after xs ys is) [
  | inl one ↦ inl (inr one)
  | inr other ↦ inr other
]

all_both : (Holds : Seen → Type 0) (xs ys : List Seen) → AllByRecursion Holds xs → AllByRecursion Holds ys → AllByRecursion Holds (xs ++ ys)
all_both Holds [] ys one other = other
all_both Holds (x ∷ xs) ys one other = (one.0, all_both Holds xs ys one.1 other)

pub had_both : (xs ys : List Seen) → had_by (xs ++ ys) ≡ had_by xs ++ had_by ys
had_both xs ys = map-append (λ source. source.had) xs ys

-- a volume that is refused after others is refused after all of them
refused_after : (config : Configuration) (expected : Expected) (before : List (Option (List ℕ))) (xs ys : List Seen) (fault : TraceFault) → IsVolumeRefused config expected (before ++ had_by xs) ys fault → IsVolumeRefused config expected before (xs ++ ys) fault
refused_after config expected before xs ys fault is = record {
  traces = xs ++ is.traces;
  last = is.last;
  split = ap (λ (more : List Seen). xs ++ more) is.split ∙ sym (append_assoc xs is.traces (is.last ∷ []));
  volumes = is.volumes;
  traced = subst (λ (held : List (Option (List ℕ))). AreVolumes config expected held is.volumes) (append_assoc before (had_by xs) (had_by is.traces) ∙ ap (λ (more : List (Option (List ℕ))). before ++ more) (sym (had_both xs is.traces))) is.traced;
  fault_is = is.fault_is;
}

-- reading goes on after what was read
pub reads_then : {A O : Type 0} (kind : Kind A O) (a b c : A) (refused : Option (List ℕ)) (xs ys : List Seen) (n k : ℕ) (followed : Bool) (r : Result (Option Ending) TextFault) → ReadsOn kind a b None xs n true (Ok None) → ReadsOn kind b c refused ys k followed r → k ≡ n + length xs
    → ReadsOn kind a c refused (xs ++ ys) n followed r
reads_then {A} {O} kind a b c refused xs ys n k followed r one more at =
    let all : (before : List (Option (List ℕ))) → (before ++ had_by xs) ++ had_by ys ≡ before ++ had_by (xs ++ ys) =
    λ before. append_assoc before (had_by xs) (had_by ys) ∙ ap (λ (rest : List (Option (List ℕ))). before ++ rest) (sym (had_both xs ys)) in
    record {
      told = λ e order m before h.
          (let so = more.told e order m (before ++ had_by xs) ((one.told refl order m before h).1 refl) in (
            subst (λ (held : List (Option (List ℕ))). kind.of order c m held) (all before) so.0,
            λ is. subst (λ (held : List (Option (List ℕ))). kind.told order c m held) (all before) (so.1 is),
          ));
      begun = λ e order m start h. more.begun e order m start (one.begun refl order m start h);
      first = λ e. more.first e ∙ one.first refl;
      ended = λ e. all_both (λ source. IsAtEnd source.has) xs ys (one.ended refl) (more.ended e);
      refuses = λ ending e order m before h.
          (let is = more.refuses ending e order m (before ++ had_by xs) ((one.told refl order m before h).1 refl) in
          let long = length-append xs ys in
          let last = is.3 in
          (is.0, is.1, is.2, omega (arith, long, last, at), refused_after m.config (kind.first a) before xs ys is.0 (subst (λ (expected : Expected). IsVolumeRefused m.config expected (before ++ had_by xs) ys is.0) (one.first refl) is.4)));
      read = λ e. elim (more.read e) [
        | inl failed ↦ inl (failed_read_after xs ys failed)
        | inr none ↦ inr none
      ];
      failed = λ bad. elim (failed_before_or_after xs ys bad) [
        | inl before ↦ (let never = one.failed before in absurd cc)
        | inr after ↦ more.failed after
      ];
      unopened = more.unopened;
      fault = more.fault;
      trace = more.trace;
      started = λ e order m before h. more.started e order m (before ++ had_by xs) ((one.told refl order m before h).1 refl);
    }

-- more is to come
pub so_followed : {A O : Type 0} (kind : Kind A O) (old new : A) (refused : Option (List ℕ)) (sources : List Seen) (number : ℕ) (followed : Bool) {r : Result (Option Ending) TextFault} → ReadsOn kind old new refused sources number followed r → followed ≡ true → ReadsOn kind old new refused sources number true r
so_followed kind old new refused sources number followed {r} h is = subst (λ (f : Bool). ReadsOn kind old new refused sources number f r) is h

-- no more is to come
pub reads_last : {A O : Type 0} (kind : Kind A O) (old new : A) (refused : Option (List ℕ)) (sources : List Seen) (number : ℕ) (followed : Bool) (r : Result (Option Ending) TextFault) → ReadsOn kind old new refused sources number followed r → ReadsOn kind old new refused sources number false r
reads_last kind old new refused sources number followed r h = record {
  told = λ e order m before told. ((h.told e order m before told).0, λ is. absurd cc);
  begun = h.begun;
  first = h.first;
  ended = h.ended;
  refuses = h.refuses;
  read = h.read;
  failed = h.failed;
  unopened = h.unopened;
  fault = h.fault;
  trace = h.trace;
  started = h.started;
}

-- a volume is in the account
pub volume_told : {A O : Type 0} (kind : Kind A O) (old new : A) (source : Seen) (number : ℕ) (followed : Bool)
    → ((order : O) (m : State) (sources : List (Option (List ℕ))) → kind.told order old m sources → kind.of order new m (sources ++ source.had ∷ []) × (followed ≡ true → kind.told order new m (sources ++ source.had ∷ [])))
    → ((order : O) (m : State) (start : Option (List ℕ)) → kind.begun order old m start → kind.begun order new m start) → kind.first new ≡ kind.first old → IsAtEnd source.has → (source.failed ≡ true → ⊥) → ReadsOn kind old new None (source ∷ []) number followed (Ok None)
volume_told kind old new source number followed told begun first ended whole = record {
  told = λ e order m before h. told order m before h;
  begun = λ e. begun;
  first = λ e. first;
  ended = λ e. (ended, tt);
  refuses = λ ending e. absurd cc;
  read = λ e. absurd cc;
  failed = λ bad. elim bad [
    | inl is ↦ absurd (whole is)
    | inr never ↦ absurd never
  ];
  unopened = λ e. absurd cc;
  fault = tt;
  trace = λ said e. cc;
  started = λ e. absurd cc;
}

-- a volume is refused
pub volume_refused : {A O : Type 0} (kind : Kind A O) (old new : A) (source : Seen) (number : ℕ) (followed : Bool) (fault : TraceFault)
    → ((order : O) (m : State) (sources : List (Option (List ℕ))) → kind.told order old m sources → IsNextRefused m.config (kind.first old) sources source fault) → (source.failed ≡ true → ⊥)
    → ReadsOn kind old new None (source ∷ []) number followed (Ok (Some (endings.Refused number fault)))
volume_refused kind old new source number followed fault why whole = record {
  told = λ e. absurd cc;
  begun = λ e. absurd cc;
  first = λ e. absurd cc;
  ended = λ e. absurd cc;
  refuses = λ ending e order m before h.
      (let is = why order m before h in (
        fault,
        number,
        (let same : ending ≡ endings.Refused number fault = cc in same),
        refl,
        record {
          traces = [];
          last = source;
          split = refl;
          volumes = is.volumes;
          traced = subst (λ (held : List (Option (List ℕ))). AreVolumes m.config (kind.first old) held is.volumes) (sym (append-nil before)) is.traced;
          fault_is = is.fault_is;
        },
      ));
  read = λ e. absurd cc;
  failed = λ bad. elim bad [
    | inl is ↦ absurd (whole is)
    | inr never ↦ absurd never
  ];
  unopened = λ e. absurd cc;
  fault = tt;
  trace = λ said e. cc;
  started = λ e. absurd cc;
}

-- reading it fails
pub volume_failed : {A O : Type 0} (kind : Kind A O) (old new : A) (source : Seen) (number : ℕ) (followed : Bool) (fault : TextFault) → (fault ≡ texts.Read → ReadFailed source.failed source.had source.has) → (source.failed ≡ true → fault ≡ texts.Read) → IsReplayFault fault
    → ((said : TraceFault) → fault ≢ texts.Trace said) → (fault ≡ texts.Start → (order : O) (m : State) (sources : List (Option (List ℕ))) → kind.told order old m sources → 1 < kind.workers order) → ReadsOn kind old new None (source ∷ []) number followed (Err fault)
volume_failed kind old new source number followed fault read bad is trace started = record {
  told = λ e. absurd cc;
  begun = λ e. absurd cc;
  first = λ e. absurd cc;
  ended = λ e. absurd cc;
  refuses = λ ending e. absurd cc;
  read = λ e. inl (inl (read (let same : fault ≡ texts.Read = cc in same)));
  failed = λ some. elim some [
    | inl one ↦ (let same = bad one in cc)
    | inr never ↦ absurd never
  ];
  unopened = λ e. absurd cc;
  fault = is;
  trace = λ said e. trace said (let same : fault ≡ texts.Trace said = cc in same);
  started = λ e. started (let same : fault ≡ texts.Start = cc in same);
}

-- the fault of a file that was not opened: out of memory, or the system refused this name
abbrev pub Unopened : List ℕ → Option (List ℕ) → TextFault → Type 0
Unopened name refused fault = ((fault ≡ texts.Memory) × (refused ≡ None)) ⊎ ((fault ≡ texts.Read) × (refused ≡ Some name))

pub unopened : (path : Path) (refused : Option (List ℕ)) (fault : TextFault) → IsOpenFault path refused fault → Unopened path.now refused fault
unopened path refused texts.Read h = inr (refl, h)
unopened path refused texts.Memory h = inl (refl, h.0)
unopened path refused texts.Write h = inl (h.1, h.0)
unopened path refused texts.Start h = inl (h.1, h.0)
unopened path refused texts.Workers h = inl (h.1, h.0)
unopened path refused texts.Unsettled h = inl (h.1, h.0)
unopened path refused (texts.Config said) h = inl (h.1, h.0)
unopened path refused (texts.Trace said) h = inl (h.1, h.0)
unopened path refused (texts.Dump said) h = inl (h.1, h.0)
unopened path refused (texts.State said) h = inl (h.1, h.0)
unopened path refused (texts.BadActor program) h = inl (h.1, h.0)
unopened path refused (texts.NoSlot slot) h = inl (h.1, h.0)
unopened path refused texts.NoText h = inl (h.1, h.0)

-- after those that were read
pub open_failed : {A O : Type 0} (kind : Kind A O) (old account : A) (sources : List Seen) (number : ℕ) (name : List ℕ) (refused : Option (List ℕ)) (followed : Bool) (fault : TextFault) → ReadsOn kind old account None sources number followed (Ok None) → Unopened name refused fault
    → ReadsOn kind old account refused sources number false (Err fault)
open_failed kind old account sources number name refused followed fault reads (inl is) =
    let same = is.0 in
    let none = is.1 in
    record {
      told = λ e. absurd cc;
      begun = λ e. absurd cc;
      first = λ e. absurd cc;
      ended = λ e. absurd cc;
      refuses = λ ending e. absurd cc;
      read = λ e. absurd cc;
      failed = λ bad. (let e = reads.failed bad in absurd cc);
      unopened = λ some. (let never = subst (λ (r : Option (List ℕ)). is_some r ≡ true) none some in absurd cc);
      fault = record { workers = λ e. cc; unsettled = λ e. cc; actor = λ p e. cc; slot = λ n e. cc; text = λ e. cc; write = λ e. cc; config = λ s e. cc; state = λ s e. cc; told = (λ e. cc, λ e. cc, λ e. cc, λ d e. cc) };
      trace = λ said e. cc;
      started = λ e. absurd cc;
    }
open_failed kind old account sources number name refused followed fault reads (inr is) =
    let same = is.0 in
    let some = is.1 in
    record {
      told = λ e. absurd cc;
      begun = λ e. absurd cc;
      first = λ e. absurd cc;
      ended = λ e. absurd cc;
      refuses = λ ending e. absurd cc;
      read = λ e. inr (subst (λ (r : Option (List ℕ)). is_some r ≡ true) (sym some) refl);
      failed = λ bad. (let e = reads.failed bad in absurd cc);
      unopened = λ none. ap Err same;
      fault = record { workers = λ e. cc; unsettled = λ e. cc; actor = λ p e. cc; slot = λ n e. cc; text = λ e. cc; write = λ e. cc; config = λ s e. cc; state = λ s e. cc; told = (λ e. cc, λ e. cc, λ e. cc, λ d e. cc) };
      trace = λ said e. cc;
      started = λ e. absurd cc;
    }

-- nothing is read yet
pub none_read : {A O : Type 0} (kind : Kind A O) (account : A) (number : ℕ) → ((order : O) (m : State) (sources : List (Option (List ℕ))) → kind.told order account m sources → kind.of order account m sources) → ReadsOn kind account account None [] number true (Ok None)
none_read kind account number leads = record {
  told = λ e order m before h. (
    subst (λ (held : List (Option (List ℕ))). kind.of order account m held) (sym (append-nil before)) (leads order m before h),
    λ is. subst (λ (held : List (Option (List ℕ))). kind.told order account m held) (sym (append-nil before)) h,
  );
  begun = λ e order m start h. h;
  first = λ e. refl;
  ended = λ e. tt;
  refuses = λ ending e. absurd cc;
  read = λ e. absurd cc;
  failed = λ bad. absurd bad;
  unopened = λ e. absurd cc;
  fault = tt;
  trace = λ said e. cc;
  started = λ e. absurd cc;
}

-- one file more is opened
pub opened_more : {S : Type 0} {left : S → Option (List ℕ)} {failed : S → Bool} (held : Held) (paths : List Path) (sources : List Seen) (source : Seen) (n : ℕ) (d : Path) → AreOpened left failed held None paths sources → length sources ≡ n → n < length paths → IsOfFile left failed source → source.had ≡ held (get_or paths n d).now → AreOpened left failed held None paths (sources ++ source ∷ [])
opened_more {left = left} {failed = failed} held paths sources source n d opened at lt file same =
    let long : length (sources ++ source ∷ []) ≡ suc n = (let both = length-append sources (source ∷ []) in omega (arith, both, at)) in
    let more : held_by held (take (suc n) paths) ≡ held_by held (take n paths) ++ held (get_or paths n d).now ∷ [] = ap (held_by held) (take-suc paths n d lt) ∙ map-append (λ (path : Path). held path.now) (take n paths) (get_or paths n d ∷ []) in
    let so_far : had_by sources ≡ held_by held (take n paths) = opened.are ∙ ap (λ k. held_by held (take k paths)) at in
    record {
      files = all_both (λ one. IsOfFile left failed one) sources (source ∷ []) opened.files (file, tt);
      are = had_both sources (source ∷ []) ∙ ap₂ (λ (xs ys : List (Option (List ℕ))). xs ++ ys) so_far (ap (λ (one : Option (List ℕ)). one ∷ []) same) ∙ sym more ∙ ap (λ k. held_by held (take k paths)) (sym long);
      next = tt;
    }

-- the next one cannot be opened
pub opened_up_to : {S : Type 0} {left : S → Option (List ℕ)} {failed : S → Bool} (held : Held) (paths : List Path) (sources : List Seen) (n : ℕ) (d : Path) (refused : Option (List ℕ)) (fault : TextFault) → AreOpened left failed held None paths sources → length sources ≡ n → n < length paths → Unopened (get_or paths n d).now refused fault → AreOpened left failed held refused paths sources
opened_up_to held paths sources n d refused fault opened at lt (inl is) = rw is.1 opened
opened_up_to held paths sources n d refused fault opened at lt (inr is) = rw is.1 record {
  files = opened.files;
  are = opened.are;
  next = (get_or paths n d, drop (n + 1) paths, ap (λ k. drop k paths) at ∙ drop_more paths n d lt, refl);
}

-- nothing was read, so what is expected did not change
none_last : (config : Configuration) (expected : Expected) (volumes : List Traced) → AreVolumes config expected [] volumes → expected_last expected volumes ≡ expected
none_last config expected [] is = refl
none_last config expected (volume ∷ volumes) is = absurd is

-- nothing was read, so there were no calls
no_calls : (config : Configuration) (expected : Expected) (volumes : List Traced) → AreVolumes config expected [] volumes → length (joined volumes) ≡ 0
no_calls config expected [] is = refl
no_calls config expected (volume ∷ volumes) is = absurd is

-- the first trace is refused where the start leads
pub refused_first : (config : Configuration) (expected : Expected) (source : Seen) (fault : TraceFault) → IsNextRefused config expected [] source fault → IfSome source.had (λ text. IsRefusedThere config expected text fault) × IsAtEnd source.has
refused_first config expected source fault is = by_reason is.fault_is
  where
    by_reason : ((IfSome source.had (λ text. IsRefusedThere config (expected_last expected is.volumes) text fault) × IsAtEnd source.has) ⊎ ((fault ≡ TooManyCalls) × (CALLS_BEFORE < length (joined is.volumes)))) → IfSome source.had (λ text. IsRefusedThere config expected text fault) × IsAtEnd source.has
    by_reason (inl there) = (subst (λ (e : Expected). IfSome source.had (λ text. IsRefusedThere config e text fault)) (none_last config expected is.volumes is.traced) there.0, there.1)
    by_reason (inr full) = absurd (let none = no_calls config expected is.volumes is.traced in let many = full.1 in omega (arith, none, many))

-- what an account has to be to be read into
pub some_next : {A O : Type 0} (kind : Kind A O) (order : O) (account : A) (m : State) (sources : List (Option (List ℕ))) → kind.told order account m sources → (o : O) × (n : State) × (held : List (Option (List ℕ))) × kind.told o account n held
some_next kind order account m sources told = (order, m, sources, told)

pub some_first : {A O : Type 0} (kind : Kind A O) (order : O) (account : A) (m : State) → kind.told order account m [] → (o : O) × (n : State) × kind.told o account n []
some_first kind order account m told = (order, m, told)

-- and to be given
pub some_told : {A O : Type 0} (kind : Kind A O) (order : O) (account : A) (m : State) (sources : List (Option (List ℕ))) → kind.of order account m sources → (o : O) × (n : State) × (held : List (Option (List ℕ))) × kind.of o account n held
some_told kind order account m sources told = (order, m, sources, told)

-- all were read
pub all_told : {A O : Type 0} (kind : Kind A O) (old new : A) (refused : Option (List ℕ)) (sources : List Seen) (number : ℕ) (followed : Bool) (refusal : Option Ending) (order : O) (m : State) → ReadsOn kind old new refused sources number followed (Ok refusal) → refusal ≡ None → kind.told order old m []
    → (o : O) × (n : State) × (held : List (Option (List ℕ))) × kind.of o new n held
all_told kind old new refused sources number followed refusal order m reads none told = some_told kind order new m (had_by sources) (reads.told (ap Ok none) order m [] told).0
