-- Calls that are fed after others.
use Rattle.std.proofs.Common.{◌≡◌, ◌≤◌, ◌++◌, ◌∙◌, ℕ, Bool, true, false, List, [], length, Option, Some, None, refl, ap, subst, sym, arith, length-append}
use Rattle.std.specs.Prelude.{IsSome, IfSome}
use Rattle.std.proofs.lemmas.Option.{same_Some}
use Rattle.kc_types.specs.Limits.{call_limit}
use Rattle.kc_types.specs.Configuration.{Configuration}
use Rattle.kc_types.specs.declared.call.Call.{Call}
use Rattle.kc_types.specs.declared.reply.Reply.{Reply}
use Rattle.kc_model.specs.State.{State}
use Rattle.kc_model.specs.Lawful.{IsLawful}
use Rattle.kc_model.proofs.Lawful.LawfulTraces.{lawful-after}
use Rattle.kc_model.proofs.Promises.{promises_kept}
use Rattle.kc_model.proofs.States.Sizes.{config-after}
use Rattle.kc_model.proofs.Redaction.Blank.{audited_blank}
use Rattle.kc_snapshot.proofs.Drawn.{sound-drawn}
use Rattle.kc_trace.specs.declared.header.Header.{Header}
use Rattle.kc_trace.specs.declared.expected.Expected.{Expected}
use Rattle.kc_trace.specs.Trace.{IsTraceUnder}
use Rattle.kc_trace.specs.Expected.{MayHave, IsHeaderFault, IsRefusedThere, position_after}
use Rattle.kc_trace.specs.declared.expected.HeaderFault.{HeaderFault}
use Rattle.kc_trace.specs.declared.fault.TraceFault.TheVariants.{Misplaced}
use Rattle.kc_faults.proofs.Placed.{misplaced_there}
use Rattle.kc_texts.specs.declared.order.ReplayForm.{ReplayForm}
use Rattle.kc_texts.specs.declared.order.ReplayForm.TheVariants as forms
use Rattle.kc_trace.specs.declared.header.Header.TheVariants.{One, Two, Three}
use Rattle.kc_cli.specs.Traced.{Traced, IsDigested, position_next, digest_if}
use Rattle.kc_cli.specs.Engine.{KnowsNext, IsReplayed, IsKept, kept_more, left_as}
use Rattle.kc_model.specs.Next.{replies_from, state_after}
use Rattle.kc_model.proofs.States.Runs.{replies_from-append, state_after-append}
use Rattle.kc_replay.specs.Replayer.{Replaying, IsFed}
use Rattle.kc_cli.proofs.Counted.{one_each}

lawful-left : (blank : Bool) (m : State) → IsLawful m → IsLawful (left_as blank m)
lawful-left true m is = (audited_blank m [] is).lawful
lawful-left false m is = is

-- nothing is fed
pub fed_none : (r : Replaying) → IsSome r.state → IsFed r r [] []
fed_none r whole = by_state r.state refl whole
  where
    by_state : (state : Option State) → r.state ≡ state → IsSome state → IsFed r r [] []
    by_state (Some m) is whole = record { start = m; from = is; given = refl; state = is; fed = omega arith; workers = refl }
    by_state None is whole = absurd cc

pub fed_more : (a b c : Replaying) (xs ys : List Call) (rs ss : List Reply) → IsFed a b xs rs → IsFed b c ys ss → IsFed a c (xs ++ ys) (rs ++ ss)
fed_more a b c xs ys rs ss h k =
    let middle : k.start ≡ state_after h.start xs = same_Some k.start (state_after h.start xs) (sym k.from ∙ h.state) in
    record {
      start = h.start;
      from = h.from;
      given = ap (λ out. out ++ ss) h.given ∙ ap (λ out. replies_from h.start xs ++ out) (k.given ∙ ap (λ (m : State). replies_from m ys) middle) ∙ sym (replies_from-append h.start xs ys);
      state = k.state ∙ ap (λ (m : State). Some (state_after m ys)) middle ∙ ap Some (sym (state_after-append h.start xs ys));
      fed = omega (arith, h.fed, k.fed, length-append xs ys);
      workers = k.workers ∙ h.workers;
    }

pub still_whole : (a b : Replaying) (calls : List Call) (given : List Reply) → IsFed a b calls given → IsSome b.state
still_whole a b calls given h = rw h.state refl

-- no calls are kept, and then more
pub kept_none : (form : ReplayForm) → IsKept form [] []
kept_none forms.Lines = refl
kept_none _ = tt

pub still_kept : (form : ReplayForm) (kept calls more : List Call) → IsKept form kept calls → IsKept form (kept_more form kept more) (calls ++ more)
still_kept forms.Lines kept calls more is = ap (λ (l : List Call). l ++ more) is
still_kept _ kept calls more is = tt

-- the calls that came, and those that are kept of them
abbrev pub Came : ReplayForm → Bool → Header → Option (List ℕ) → Replaying → Replaying → List Call → List Reply → Option (List ℕ) → Type 0
Came form placed header first a b kept given digest =
    (calls : List Call) × IfSome first (λ text. IsTraceUnder header text calls) × IsFed a b calls given × IsKept form kept calls × IsDigested placed false (record { header = header; calls = calls }) digest

-- by the digest it is known where the next volume comes
pub goes_next : (placed : Bool) (volume : Traced) (digest : Option (List ℕ)) → IsDigested placed false volume digest → KnowsNext placed (position_after volume.header digest) volume
goes_next false volume digest is = tt
goes_next true volume digest is = ap (position_after volume.header) is ∙ by_header volume.header volume.calls
  where
    by_header : (header : Header) (calls : List Call) → position_after header (digest_if false (record { header = header; calls = calls })) ≡ position_next (record { header = header; calls = calls })
    by_header One calls = refl
    by_header Two calls = refl
    by_header (Three head) calls = refl

-- there are no more replies than calls
pub few_fed : (a b c : Replaying) (xs ys : List Call) (rs ss : List Reply) → IsFed a b xs rs → IsFed b c ys ss → length (xs ++ ys) ≤ call_limit → length (rs ++ ss) ≤ call_limit
few_fed a b c xs ys rs ss h k few =
    let fed = fed_more a b c xs ys rs ss h k in
    let same = ap length fed.given ∙ one_each fed.start (xs ++ ys) in
    omega (arith, same, few)

-- the machine of the core that it leaves is that of the start
pub left_config : (m core : State) (a b : Replaying) (calls : List Call) (given : List Reply) → a.state ≡ Some m → b.state ≡ Some core → IsFed a b calls given → core.config ≡ m.config
left_config m core a b calls given from to fed =
    let same : fed.start ≡ m = same_Some fed.start m (sym fed.from ∙ from) in
    let left : core ≡ state_after m calls = same_Some core (state_after m calls) (sym to ∙ fed.state ∙ ap (λ (n : State). Some (state_after n calls)) same) in
    ap (λ (n : State). n.config) left ∙ config-after m calls

-- the trace was read, and may not have its header
pub misfed : (form : ReplayForm) (placed : Bool) (header : Header) (expected : Expected) (first : Option (List ℕ)) (m : State) (a b : Replaying) (kept : List Call) (given : List Reply) (digest : Option (List ℕ)) (core : State) (wrong : HeaderFault) → a.state ≡ Some m → b.state ≡ Some core
    → Came form placed header first a b kept given digest → IsHeaderFault core.config expected header wrong → IfSome first (λ text. IsRefusedThere m.config expected text (Misplaced wrong))
misfed form placed header expected None m a b kept given digest core wrong from to h fault = tt
misfed form placed header expected (Some text) m a b kept given digest core wrong from to h fault =
    misplaced_there m.config expected header (Some text) h.0 wrong h.1 (subst (λ (config : Configuration). IsHeaderFault config expected header wrong) (left_config m core a b h.0 given from to h.2) fault)

-- the replay is of a trace that may have the header which was read
pub replayed : (form : ReplayForm) (placed : Bool) (header : Header) (expected : Expected) (first : Option (List ℕ)) (start : State) (a b : Replaying) (kept : List Call) (given : List Reply) (digest : Option (List ℕ)) (core : State) → IsLawful start → a.state ≡ Some start → b.state ≡ Some core
    → Came form placed header first a b kept given digest → MayHave core.config expected header → IfSome first (λ text. IsReplayed form placed start expected text kept given core (position_after header digest))
replayed form placed header expected None start a b kept given digest core is from to h may = tt
replayed form placed header expected (Some text) start a b kept given digest core is from to h may =
    let fed = h.2 in
    let same : fed.start ≡ start = same_Some fed.start start (sym fed.from ∙ from) in
    let left : core ≡ state_after start h.0 = same_Some core (state_after start h.0) (sym to ∙ fed.state ∙ ap (λ (m : State). Some (state_after m h.0)) same) in
    let promises = promises_kept start h.0 is in
    record {
      volume = record { header = header; calls = h.0 };
      may = subst (λ (config : Configuration). MayHave config expected header) (left_config start core a b h.0 given from to fed) may;
      traced = h.1;
      kept_are = h.3;
      given = fed.given ∙ ap (λ (m : State). replies_from m h.0) same;
      left = left;
      goes_on = goes_next placed (record { header = header; calls = h.0 }) digest h.4;
      promises = promises;
      sound = λ blank. sound-drawn (left_as blank core) (lawful-left blank core (subst IsLawful (sym left) (lawful-after start h.0 is)));
    }
