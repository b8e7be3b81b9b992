use Rattle.std.proofs.Common.{List, ℕ, suc, ◌≡◌, ◌<◌, ◌+◌, ◌-◌, length, get_or, map, refl, ap, sym, subst, ◌∙◌, arith, rules}
use Rattle.std.specs.Global.{Vec}
use Rattle.std.specs.Prelude.{◌%◌, []}
use Rattle.std.proofs.lemmas.List.{length-map, length-set}
use Rattle.kc_types.specs.declared.call.Call.{Call}
use Rattle.kc_model.specs.State.{State}
use Rattle.kc_model.specs.Resources.{Resources}
use Rattle.kc_model.specs.Footprints.{state_at}
use Rattle.kc_parts.specs.Cuts.{FitsInto, IsJoin}
use Rattle.kc_parts.specs.Parts.{Held}
use Rattle.kc_parts.specs.States.{state_of}
use Rattle.kc_core.specs.KCore.{IsCore}
use Rattle.kc_replay.specs.declared.task.Finished.{Finished}
use Rattle.kc_replay.specs.Dealing.{AreDealt, with_dealt}
use Rattle.kc_replay.specs.Wave.{Wave, IsRest, HasPlaces, IsFinishedAt, IsWave, wave_calls, footprints_at, down_from}
use Rattle.kc_replay.proofs.Dealt.{dealt-some, taken-back, dealt-fewer}
use Rattle.kc_replay.proofs.Taking.{wave-length}
use Rattle.kc_replay.proofs.Putting.{fits-wave, back-wave, core-last, back-more, kept-more}
use Rattle.kc_replay.proofs.wave.put_all.Goals as goal

pub loop-left-init : goal.loop-left-init
loop-left-init g c =
    let count = c.requires.1.1.1.0 in
    record {
      few = omega (arith, count);
      done = c.requires.1.0;
      workers = c.requires.1.1.0;
      store = rw (count, wave-length g.wave.calls g.wave.members) c.requires.1.1.1.1.0;
      places = c.requires.1.1.1.1.1.0;
      back = λ i from below. absurd (omega (arith, count, from, below));
      kept = λ k none. refl;
      size = refl;
    }

abbrev lists : List (Vec Finished) → List (List Finished)
lists vecs = map (λ list. list.items) vecs

abbrev IsDone : Wave → ℕ → Finished → Type 0
IsDone wave = IsFinishedAt wave.start wave.calls wave.footprints wave.members

-- the calls up to the last that is left
last : (R : ℕ → Finished → Type 0) (left : ℕ) (lists : List (List Finished)) → 0 < left → AreDealt R left lists → AreDealt R (suc (left - 1)) lists
last R left lists some all = let one : left ≡ suc (left - 1) = omega (arith, some) in subst (λ n. AreDealt R n lists) one all

pub take_back-reply-requires-clause-last : goal.take_back-reply-requires-clause-last
take_back-reply-requires-clause-last g c =
    let all = lists c.loop-left.lists.items in
    let size = length-map c.loop-left.lists.items (λ list. list.items) in
    let workers = c.loop-left.invariant.workers in
    subst (λ n. 0 < length (get_or all ((c.loop-left.left - 1) % n) [])) size
    (dealt-some (IsDone g.wave) (c.loop-left.left - 1) all (omega (arith, size, workers)) (last (IsDone g.wave) c.loop-left.left all c.loop-left-test.true c.loop-left.invariant.done))

-- a call was taken back: what it left, and those before it
module _ (wave : Wave) (left : ℕ) (old new : List (Vec Finished)) (finished : Finished) (more : 0 < left) (workers : 0 < length old) (len : length new ≡ length old)
    (is : lists old ≡ with_dealt (lists new) (left - 1) finished) (done : AreDealt (IsDone wave) left (lists old)) where
  some : 0 < length (lists old)
  some = rw (length-map old (λ (list : Vec Finished). list.items)) workers

  sizes : length (lists new) ≡ length (lists old)
  sizes = length-map new (λ (list : Vec Finished). list.items) ∙ len ∙ sym (length-map old (λ (list : Vec Finished). list.items))

  at : IsDone wave (left - 1) finished
  at = taken-back (IsDone wave) (left - 1) (lists old) (lists new) finished some sizes is (last (IsDone wave) left (lists old) more done)

  before : AreDealt (IsDone wave) (left - 1) (lists new)
  before = dealt-fewer (IsDone wave) (left - 1) (lists old) (lists new) finished some sizes is (last (IsDone wave) left (lists old) more done)

number-low : (calls : List Call) (members : List ℕ) (number j count : ℕ) → number ≡ get_or members j 0 → get_or members j 0 < length calls → count ≡ length calls → number < count
number-low calls members number j count is low same = omega (arith, is, low, same)

pub put_back-requires : goal.put_back-requires
put_back-requires g c =
    let p = c.loop-left.left - 1 in
    let more = c.loop-left-test.true in
    let taken = c.take_back-reply in
    let kept = c.loop-left.invariant in
    let done = at g.wave c.loop-left.left c.loop-left.lists.items taken.new.lists.items taken.result more kept.workers taken.ensures.len taken.ensures.taken kept.done in
    let few = c.loop-left.invariant.few in
    let one : c.loop-left.left ≡ p + 1 = omega (arith, more) in
    subst (λ (parts : Held). FitsInto c.loop-left.store parts) (sym c.into_parts-number.ensures.parts)
    (fits-wave g.wave.start g.wave.calls g.wave.footprints g.wave.members c.requires.0 p c.loop-left.store c.take_back-reply.result (omega (arith, more, few))
    (rw one at c.loop-left.invariant.store) done c.loop-left.invariant.places)

pub write_reply-requires : goal.write_reply-requires
write_reply-requires g c =
    let p = c.loop-left.left - 1 in
    let more = c.loop-left-test.true in
    let taken = c.take_back-reply in
    let kept = c.loop-left.invariant in
    let done = at g.wave c.loop-left.left c.loop-left.lists.items taken.new.lists.items taken.result more kept.workers taken.ensures.len taken.ensures.taken kept.done in
    let few = c.loop-left.invariant.few in
    number-low g.wave.calls g.wave.members c.into_parts-number.result.0 p (length c.loop-left.replies) (c.into_parts-number.ensures.number ∙ done.number) (c.requires.0.within p (omega (arith, more, few))) (c.loop-left.invariant.size ∙ c.requires.1.1.1.1.1.1)

pub loop-left-preserved : goal.loop-left-preserved
loop-left-preserved g c =
    let p = c.loop-left.left - 1 in
    let more = c.loop-left-test.true in
    let taken = c.take_back-reply in
    let finished = taken.result in
    let kept = c.loop-left.invariant in
    let done = at g.wave c.loop-left.left c.loop-left.lists.items taken.new.lists.items finished more kept.workers taken.ensures.len taken.ensures.taken kept.done in
    let few = c.loop-left.invariant.few in
    let len = taken.ensures.len in
    let workers = c.loop-left.invariant.workers in
    let one : c.loop-left.left ≡ p + 1 = omega (arith, more) in
    let joined : IsJoin c.loop-left.store finished.left.parts c.put_back.new.self = subst (λ (parts : Held). IsJoin c.loop-left.store parts c.put_back.new.self) c.into_parts-number.ensures.parts c.put_back.ensures.joined in
    let low : p < length g.wave.members = omega (arith, more, few) in
    let within = number-low g.wave.calls g.wave.members c.into_parts-number.result.0 p (length c.loop-left.replies) (c.into_parts-number.ensures.number ∙ done.number) (c.requires.0.within p low) (c.loop-left.invariant.size ∙ c.requires.1.1.1.1.1.1) in
    record {
      few = omega (arith, low);
      done = before g.wave c.loop-left.left c.loop-left.lists.items taken.new.lists.items finished more kept.workers taken.ensures.len taken.ensures.taken kept.done;
      workers = omega (arith, len, workers);
      store = back-wave g.wave.start g.wave.calls g.wave.footprints g.wave.members c.requires.0 p c.loop-left.store finished low (rw one at c.loop-left.invariant.store) done c.put_back.new.self joined;
      places = record { numbers = c.put_back.ensures.places ∙ c.loop-left.invariant.places.numbers; slots = rw c.put_back.ensures.slots c.loop-left.invariant.places.slots };
      back = rw c.write_reply.ensures (back-more g.wave.start g.wave.calls g.wave.footprints g.wave.members c.requires.0 c.loop-left.replies p c.into_parts-number.result.0 finished.reply low (c.into_parts-number.ensures.number ∙ done.number) within done.reply (rw one at c.loop-left.invariant.back));
      kept = λ k none. rw c.write_reply.ensures (kept-more g.wave.start g.wave.calls g.wave.footprints g.wave.members c.requires.0 c.loop-left.replies p c.into_parts-number.result.0 finished.reply low (c.into_parts-number.ensures.number ∙ done.number) within k none ∙ c.loop-left.invariant.kept k none);
      size = ap length c.write_reply.ensures ∙ length-set c.loop-left.replies c.into_parts-number.result.0 finished.reply ∙ c.loop-left.invariant.size;
    }

-- nothing is out any more
ended : (m : State) (calls : List Call) (footprints : ℕ → Resources) (members : List ℕ) (h : Held) (n : ℕ) → IsWave m calls footprints members → n ≡ 0
    → IsRest (state_at m (wave_calls calls members) (length (wave_calls calls members))) (footprints_at footprints members) (down_from n) h → HasPlaces m.config h
    → IsCore m.config h × (state_of m.config h ≡ state_at m (wave_calls calls members) (length members))
ended m calls footprints members h n wave none left places =
    let both = core-last m calls footprints members wave h (rw none at left) places in
    (both.0, subst (λ n. state_of m.config h ≡ state_at m (wave_calls calls members) n) (wave-length calls members) both.1)

pub returns-clause-core : goal.returns-clause-core
returns-clause-core g c =
    let none : c.loop-left.left ≡ 0 = search rules in
    (ended g.wave.start g.wave.calls g.wave.footprints g.wave.members c.loop-left.store c.loop-left.left c.requires.0 none c.loop-left.invariant.store c.loop-left.invariant.places).0

pub returns-clause-state : goal.returns-clause-state
returns-clause-state g c =
    let none : c.loop-left.left ≡ 0 = search rules in
    (ended g.wave.start g.wave.calls g.wave.footprints g.wave.members c.loop-left.store c.loop-left.left c.requires.0 none c.loop-left.invariant.store c.loop-left.invariant.places).1
