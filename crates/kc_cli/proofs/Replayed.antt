-- What was replayed is what the sink takes of it.
use Rattle.std.proofs.Common.{◌≡◌, ℕ, Bool, true, false, List, Option, Some, None, take, refl, ap, ap₂, subst, ◌∙◌}
use Rattle.std.specs.Prelude.{IfSome}
use Rattle.std.specs.Io.KnownBytes.{Appends}
use Rattle.kc_types.specs.declared.call.Call.{Call}
use Rattle.kc_types.specs.declared.reply.Reply.{Reply}
use Rattle.kc_model.specs.State.{State}
use Rattle.kc_dump.specs.Sound.{IsSound}
use Rattle.kc_snapshot.specs.Dumping.{dump_of}
use Rattle.kc_state_text.specs.StateText.{placed_state_text}
use Rattle.kc_state_text.specs.Differences.{IsDifference}
use Rattle.kc_remarks.specs.declared.denials.Answered.{Answered}
use Rattle.kc_remarks.specs.Denials.{IsAnsweredBy}
use Rattle.kc_texts.specs.declared.order.Origin.{Origin}
use Rattle.kc_trace.specs.declared.expected.Expected.{Expected}
use Rattle.kc_faults.specs.Origins.{BeginsIn}
use Rattle.kc_texts.specs.Written.{Writes, Begins}
use Rattle.kc_texts.specs.declared.order.ReplayForm.{ReplayForm}
use Rattle.kc_texts.specs.declared.order.ReplayForm.TheVariants as forms
use Rattle.kc_cli.specs.Answers.{AreAnswered}
use Rattle.kc_trace.specs.declared.header.Position.{Position}
use Rattle.kc_cli.specs.Traced.{Traced, position_next}
use Rattle.kc_cli.specs.Engine.{KnowsNext, is_placed, IsReplayed, AreReplayed, IsKept, IsReplayText, DiffersFromLeft, written_text, left_as}

-- what is known of what comes next if it is asked for
knows_for : (placed asked : Bool) (next : Option Position) (volume : Traced) → (asked ≡ true → placed ≡ true) → KnowsNext placed next volume → KnowsNext asked next volume
knows_for placed false next volume so is = tt
knows_for placed true next volume so is = subst (λ (p : Bool). KnowsNext p next volume) (so refl) is

pub are_replayed : (origin : Origin) (form : ReplayForm) (placed : Bool) (start_left trace_left : Option (List ℕ)) (start : State) (expected : Expected) (kept : List Call) (replies : List Reply) (core : State) (next : Option Position) → IfSome start_left (λ text. BeginsIn origin text start expected)
    → IfSome trace_left (λ text. IsReplayed form placed start expected text kept replies core next) → AreReplayed origin form placed start_left trace_left kept replies core next
are_replayed origin form placed None trace_left start expected kept replies core next s t = tt
are_replayed origin form placed (Some text) None start expected kept replies core next s t = tt
are_replayed origin form placed (Some text) (Some trace) start expected kept replies core next s t = (start, expected, s, t)

-- what is written of calls that were kept is written of the trace's
written_kept : (form : ReplayForm) (volume : Traced) (kept : List Call) (replies : List Reply) (next : Option Position) (core : State) → IsKept form kept volume.calls → KnowsNext (is_placed form) next volume
    → written_text form kept replies next core ≡ written_text form volume.calls replies (position_next volume) core
written_kept forms.Lines volume kept replies next core is goes = ap (λ (l : List Call). written_text forms.Lines l replies next core) is
written_kept forms.Replies volume kept replies next core is goes = refl
written_kept forms.Dump volume kept replies next core is goes = refl
written_kept forms.State volume kept replies next core is goes = ap (λ (n : Option Position). written_text forms.State kept replies n core) goes

replay_text : (origin : Origin) (form : ReplayForm) (placed blank : Bool) (start trace : List ℕ) (kept : List Call) (replies : List Reply) (core : State) (next : Option Position) → (is_placed form ≡ true → placed ≡ true) → AreReplayed origin form placed (Some start) (Some trace) kept replies core next
    → IsReplayText origin form blank start trace (written_text form kept replies next (left_as blank core))
replay_text origin form placed blank start trace kept replies core next asked h =
    let r = h.3 in
    let volume = r.volume in
    record {
      start = h.0;
      expected = h.1;
      volume = volume;
      begins = h.2;
      may = r.may;
      traced = r.traced;
      promises = r.promises;
      sound = subst (λ (m : State). IsSound (dump_of (left_as blank m))) r.left (r.sound blank);
      written = written_kept form volume kept replies next (left_as blank core) r.kept_are (knows_for placed (is_placed form) next volume asked r.goes_on)
          ∙ ap₂ (λ (out : List Reply) (m : State). written_text form volume.calls out (position_next volume) (left_as blank m)) r.given r.left;
    }

pub gives : (origin : Origin) (form : ReplayForm) (placed blank : Bool) (start trace old new : Option (List ℕ)) (kept : List Call) (replies : List Reply) (core : State) (next : Option Position) → (is_placed form ≡ true → placed ≡ true) → AreReplayed origin form placed start trace kept replies core next
    → Appends old new (written_text form kept replies next (left_as blank core)) → Writes (IsReplayText origin form blank) start trace old new
gives origin form placed blank None trace old new kept replies core next asked h taken = tt
gives origin form placed blank (Some start) None old new kept replies core next asked h taken = tt
gives origin form placed blank (Some start) (Some trace) old new kept replies core next asked h taken =
    (written_text form kept replies next (left_as blank core), replay_text origin form placed blank start trace kept replies core next asked h, taken)

pub begins : (origin : Origin) (form : ReplayForm) (placed blank : Bool) (start trace old new : Option (List ℕ)) (kept : List Call) (replies : List Reply) (core : State) (next : Option Position) → (is_placed form ≡ true → placed ≡ true) → AreReplayed origin form placed start trace kept replies core next
    → ((n : ℕ) × Appends old new (take n (written_text form kept replies next (left_as blank core)))) → Begins (IsReplayText origin form blank) start trace old new
begins origin form placed blank None trace old new kept replies core next asked h taken = tt
begins origin form placed blank (Some start) None old new kept replies core next asked h taken = tt
begins origin form placed blank (Some start) (Some trace) old new kept replies core next asked h taken =
    (written_text form kept replies next (left_as blank core), taken.0, replay_text origin form placed blank start trace kept replies core next asked h, taken.1)

-- what differs from the core's text differs from that of the state that one thread leaves
pub left_text : (origin : Origin) (form : ReplayForm) (blank : Bool) (start trace to : Option (List ℕ)) (line : Option ℕ) (kept : List Call) (replies : List Reply) (core : State) (next : Option Position) → AreReplayed origin form true start trace kept replies core next
    → IfSome to (λ text. IsDifference line text (placed_state_text next (left_as blank core))) → DiffersFromLeft origin blank start trace to line
left_text origin form blank None trace to line kept replies core next h is = tt
left_text origin form blank (Some start) None to line kept replies core next h is = tt
left_text origin form blank (Some start) (Some trace) None line kept replies core next h is = tt
left_text origin form blank (Some start) (Some trace) (Some text) line kept replies core next h is =
    let r = h.3 in (
      h.0,
      h.1,
      r.volume,
      h.2,
      r.may,
      r.traced,
      subst (λ (m : State). IsDifference line text (placed_state_text (position_next r.volume) (left_as blank m))) r.left
          (subst (λ (n : Option Position). IsDifference line text (placed_state_text n (left_as blank core))) r.goes_on is),
    )

-- what was counted of the replies was counted of that thread's
pub answered_so : (origin : Origin) (form : ReplayForm) (placed : Bool) (start trace : Option (List ℕ)) (kept : List Call) (replies : List Reply) (core : State) (next : Option Position) (answered : Answered) → AreReplayed origin form placed start trace kept replies core next
    → IsAnsweredBy replies answered → AreAnswered origin start trace answered
answered_so origin form placed None trace kept replies core next answered h counted = tt
answered_so origin form placed (Some start) None kept replies core next answered h counted = tt
answered_so origin form placed (Some start) (Some trace) kept replies core next answered h counted =
    let r = h.3 in
    (h.0, h.1, h.2, (r.volume.calls, (r.volume.header, r.may, r.traced), subst (λ (out : List Reply). IsAnsweredBy out answered) r.given counted))
