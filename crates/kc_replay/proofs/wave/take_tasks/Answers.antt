use Rattle.std.proofs.Common.{suc, ◌≡◌, ◌+◌, List, [], length, map, subst, sym, refl, ap, ◌∙◌, arith}
use Rattle.std.proofs.lemmas.List.{length-map, length-replicate, length-set}
use Rattle.kc_model.specs.State.{State}
use Rattle.kc_model.specs.Resources.{Resources, is_wanted}
use Rattle.kc_parts.specs.Cuts.{IsSplit}
use Rattle.kc_replay.specs.Dealing.{AreDealt}
use Rattle.kc_replay.specs.declared.task.Task.{Task}
use Rattle.kc_replay.specs.Wave.{IsRest, IsTaskAt, footprint_of, footprints_at}
use Rattle.kc_replay.proofs.Dealt.{dealt-none, dealt-more}
use Rattle.kc_replay.proofs.Taking.{left-whole, places-whole, here-wave, taken-wave}
use Rattle.kc_replay.proofs.wave.take_tasks.Goals as goal

pub loop-place-init : goal.loop-place-init
loop-place-init g c =
    let wave = c.args.wave.now in record {
      tasks = subst (λ (ls : List (List Task)). AreDealt (IsTaskAt g.start wave.calls.now (footprint_of wave.footprints.now) wave.members.now) 0 ls) (sym c.in_ok-lists.ensures) (dealt-none (IsTaskAt g.start wave.calls.now (footprint_of wave.footprints.now) wave.members.now) c.args.workers);
      workers = sym (length-map c.in_ok-lists.lists.items _) ∙ ap length c.in_ok-lists.ensures ∙ length-replicate c.args.workers [];
      store = subst (λ (s : State). IsRest s (footprints_at (footprint_of wave.footprints.now) wave.members.now) [] c.args.store.now) c.requires.1.1.1.0 (left-whole g.start.config c.args.store.now c.requires.1.1.0 (footprints_at (footprint_of wave.footprints.now) wave.members.now));
      places = places-whole g.start.config c.args.store.now c.requires.1.1.0;
    }

pub returns-in_err-lists-clause-places : goal.returns-in_err-lists-clause-places
returns-in_err-lists-clause-places g c = places-whole g.start.config c.args.store.now c.requires.1.1.0

pub take_out-requires : goal.take_out-requires
take_out-requires g c =
    here-wave g.start c.args.wave.now.calls.now (footprint_of c.args.wave.now.footprints.now) c.args.wave.now.members.now c.requires.0 c.loop-place.place c.loop-place.store c.as_slice.result.now c.loop-place-test.true (λ r. ap (λ xs. is_wanted xs r) c.as_slice.ensures.value ∙ c.in_ok-wanted.ensures.members r) c.loop-place.invariant.store

pub loop-place-preserved : goal.loop-place-preserved
loop-place-preserved g c =
    let at = c.loop-place.place in
    let wave = c.args.wave.now in
    let R = IsTaskAt g.start wave.calls.now (footprint_of wave.footprints.now) wave.members.now in
    let lists = map (λ list. list.items) c.loop-place.lists.items in
    let size : length lists ≡ c.args.workers = length-map c.loop-place.lists.items (λ list. list.items) ∙ c.loop-place.invariant.workers in
    let some = c.requires.1.1.1.1 in
    let split : IsSplit c.loop-place.store (footprints_at (footprint_of wave.footprints.now) wave.members.now at) c.take_out.new.self c.in_ok-parts.parts =
    subst (λ (test : Resources). IsSplit c.loop-place.store test c.take_out.new.self c.in_ok-parts.parts) (λ i r. (ap (λ xs. is_wanted xs r) c.as_slice.ensures.value ∙ c.in_ok-wanted.ensures.members r) i) c.in_ok-parts.ensures.ok in
    let both = taken-wave g.start wave.calls.now (footprint_of wave.footprints.now) wave.members.now c.requires.0 at c.loop-place.store c.take_out.new.self c.in_ok-parts.parts c.loop-place-test.true c.loop-place.invariant.store split in
    let dealt = c.in_ok-deal.ensures in
    let one : at + 1 ≡ suc at = omega arith in
    record {
      tasks = rw (dealt, one) (dealt-more R at lists _ (omega (arith, some, size)) c.loop-place.invariant.tasks (record { within = c.loop-place-test.true; number = refl; parts = both.0 }));
      workers = sym (length-map c.deal.new.lists.items (λ list. list.items)) ∙ ap length dealt ∙ length-set lists _ _ ∙ size;
      store = both.1;
      places = record { numbers = split.places ∙ c.loop-place.invariant.places.numbers; slots = rw split.slots c.loop-place.invariant.places.slots };
    }
