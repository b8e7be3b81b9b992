-- Traces that differ only in bytes that do not count have the same replies, events and custody.
use Rattle.std.proofs.Common.{ℕ, suc, ◌≡◌, ◌+◌, Bool, true, List, [], ◌∷◌, ◌++◌, length, refl, sym, ap, ap₂, subst, ◌∙◌}
use Rattle.kc_types.specs.declared.call.Call.{Call}
use Rattle.kc_model.specs.State.{State}
use Rattle.kc_model.specs.Next.{next, replies_from, state_after}
use Rattle.kc_model.specs.Lawful.{IsLawful}
use Rattle.kc_model.specs.Custody.{first_line}
use Rattle.kc_model.specs.Events.{events_by, events_from, changes_in}
use Rattle.kc_model.specs.Redaction.{redacted_in, DifferInCalls, keeps_images, KeepsImages, DifferInBytes, IsSameReply, AreSameReplies, BytesDecideNothing}
use Rattle.kc_model.proofs.Lawful.Keeps.{lawful-next}
use Rattle.kc_model.proofs.Custody.Events.{changes-of-events}
use Rattle.kc_model.proofs.Views.Steps.{bytes_of, IsStep, step}
use Rattle.kc_model.proofs.Views.Events.{events-told}
use Rattle.kc_model.proofs.Redaction.AsView.{view_of, is_view, to-view, from-view, calls-form, calls-may, reply-is}

-- two calls that are the same once redacted
pub record IsPair (kept : ℕ → Bool) (m n : State) (call other : Call) : Type 0 where
  pub states : DifferInBytes kept (next m call).1 (next n other).1
  pub answer : IsSameReply call (next m call).0 (next n other).0
  pub told : (k : ℕ) → events_by k n other ≡ events_by k m call

pub pair : (kept : ℕ → Bool) (m n : State) (call other : Call) → IsLawful m → IsLawful n → DifferInBytes kept m n → redacted_in kept m other ≡ redacted_in kept m call → keeps_images kept call ≡ true → IsPair kept m n call other
pair kept m n call other is other_is differ alike keeps =
    let view = view_of kept in
    let form = calls-form kept m call other alike in
    let may = calls-may kept m call other is alike in
    let both : IsStep view m call (next m call) (next n other) = subst (λ (x : Call). IsStep view m call (next m call) (next n x)) form (step view m n call (bytes_of other) (is_view kept) is other_is (to-view kept m n differ) may keeps) in
    record {
      states = from-view kept (next m call).1 (next n other).1 both.states;
      answer = reply-is kept m call (next m call).0 (next n other).0 both.answer;
      told = λ k. ap (events_by k n) (sym form) ∙ events-told view k m n call (bytes_of other) (is_view kept) is other_is (to-view kept m n differ) may keeps;
    }

-- the same without custody, from any line
record TellFrom (kept : ℕ → Bool) (m n : State) (calls others : List Call) : Type 0 where
  number : length others ≡ length calls
  replies : AreSameReplies calls (replies_from m calls) (replies_from n others)
  told : (k : ℕ) → events_from k n others ≡ events_from k m calls
  states : DifferInBytes kept (state_after m calls) (state_after n others)

tell-from : (kept : ℕ → Bool) (m n : State) (calls others : List Call) → IsLawful m → IsLawful n → DifferInBytes kept m n → DifferInCalls kept m calls others → KeepsImages kept calls → TellFrom kept m n calls others
tell-from kept m n [] [] is other_is differ same keeps = record { number = refl; replies = tt; told = λ k. refl; states = differ }
tell-from kept m n [] (other ∷ others) is other_is differ same keeps = absurd same
tell-from kept m n (call ∷ calls) [] is other_is differ same keeps = absurd same
tell-from kept m n (call ∷ calls) (other ∷ others) is other_is differ same keeps =
    let here = pair kept m n call other is other_is differ same.0 keeps.0 in
    let later = tell-from kept (next m call).1 (next n other).1 calls others (lawful-next m call is) (lawful-next n other other_is) here.states same.1 keeps.1 in
    record {
      number = ap suc later.number;
      replies = (here.answer, later.replies);
      told = λ k. ap₂ ◌++◌ (here.told k) (later.told (k + 1));
      states = later.states;
    }

pub bytes_decide_nothing : (m : State) (calls : List Call) → IsLawful m → BytesDecideNothing m calls
bytes_decide_nothing m calls is kept n others other_is differ same keeps =
    let all = tell-from kept m n calls others is other_is differ same keeps in
    record {
      number = all.number;
      replies = all.replies;
      events = all.told first_line;
      custody = sym (changes-of-events n others) ∙ ap changes_in (all.told first_line) ∙ changes-of-events m calls;
      states = all.states;
    }
