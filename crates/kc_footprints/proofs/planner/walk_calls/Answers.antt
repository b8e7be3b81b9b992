use Rattle.std.proofs.Common.{◌≡◌, ◌+◌, ◌<◌, suc, arith, refl, length, sym, ◌∙◌, ap, get_or, ℕ, List, ◌∷◌, ◌++◌, [], subst, rules}
use Rattle.std.proofs.lemmas.List.{length_push}
use Rattle.kc_footprints.specs.declared.names.Names.{Names}
use Rattle.kc_footprints.specs.Reach.{has_member, names_at, may_have}
use Rattle.kc_footprints.specs.Planner.{IsHigh, IsWritten, AreGained, has_pair, members_of}
use Rattle.kc_footprints.proofs.Plans.{going_start, going_more, high_low, in_range_all}
use Rattle.kc_footprints.proofs.Kept.{footprints_more}
use Rattle.kc_footprints.proofs.planner.walk_calls.Goals as goal

pub loop-names-init : goal.loop-names-init
loop-names-init c = record {
  going =
      rw c.in_ok-waves.ensures.items
      (going_start c.args.frames c.args.free c.args.pairs.now c.args.calls.now c.in_ok-reaches.reaches c.in_ok-planner.planner c.in_ok-reaches.ensures c.in_ok-planner.ensures.frame_waves c.in_ok-planner.ensures.principal_waves c.in_ok-planner.ensures.reach_waves);
  len = search rules;
  footprints = rw c.in_ok-footprints.ensures.items (λ k low. absurd (omega arith));
  count = search rules;
}

pub overflow_add-wave : goal.overflow_add-wave
overflow_add-wave c =
    let going = c.loop-names.invariant.going in
    let len = c.loop-names.invariant.len in
    let n : Names = names_at c.args.calls.now c.loop-names.names-index in
    let found : IsHigh (c.args.free + 1) c.args.free n c.loop-names.reaches c.loop-names.planner c.highest-wave.result = rw going.reach_len at c.highest-wave.ensures in
    let most =
    high_low c.args.frames c.args.free (has_pair c.args.pairs.now) c.args.calls.now (in_range_all c.args.frames c.args.free c.args.calls.now c.requires.range)
    c.loop-names.waves.items c.loop-names.reaches c.loop-names.planner n c.highest-wave.result (ap (names_at c.args.calls.now) (sym len)) going found in
    omega arith

pub loop-names-preserved : goal.loop-names-preserved
loop-names-preserved c =
    let waves : List ℕ = c.loop-names.waves.items in
    let footprints = c.loop-names.footprints.items in
    let high : ℕ = c.highest-wave.result in
    let start = has_pair c.args.pairs.now in
    let going = c.loop-names.invariant.going in
    let len : length waves ≡ c.loop-names.names-index = c.loop-names.invariant.len in
    let count = c.loop-names.invariant.count in
    let plus : high + 1 ≡ suc high = omega arith in
    let pushed : c.push.new.self.items ≡ waves ++ suc high ∷ [] = rw plus at c.in_ok-push.ensures.items in
    let n : Names = names_at c.args.calls.now c.loop-names.names-index in
    let found : IsHigh (c.args.free + 1) c.args.free n c.loop-names.reaches c.loop-names.planner high = rw going.reach_len at c.highest-wave.ensures in
    let written : IsWritten (c.args.free + 1) c.args.free n (suc high) c.loop-names.reaches c.loop-names.planner c.note.new.self = rw (going.reach_len, plus) at c.note.ensures.written in
    let gained : AreGained (c.args.free + 1) c.args.free n c.loop-names.reaches c.gain.new.self = rw going.exact.sets_len at c.in_ok-gain.ensures in
    let range = in_range_all c.args.frames c.args.free c.args.calls.now c.requires.range in
    record {
      going = going_more c.args.frames c.args.free start c.args.calls.now range waves c.loop-names.reaches c.loop-names.planner n high (ap (names_at c.args.calls.now) (sym len)) going found
          c.push.new.self.items c.gain.new.self c.note.new.self pushed written gained
          (c.note.ensures.frame_waves ∙ going.frame_len) (c.note.ensures.principal_waves ∙ going.principal_len) (c.note.ensures.reach_waves ∙ going.reach_len);
      len = rw pushed (length_push waves (suc high) ∙ omega arith);
      footprints = footprints_more c.args.free start c.args.calls.now c.loop-names.reaches c.gain.new.self footprints c.push-in-loop-names.new.self.items n
          (ap (names_at c.args.calls.now) (sym count)) (range c.loop-names.names-index).slot
          (λ p f. going.sets p f ∙ ap (λ (x : ℕ). may_have c.args.free start c.args.calls.now x p f) (len ∙ sym count))
          going.exact.sets_len gained.exact.sets_len gained.grown
          (rw c.footprint-footprint.ensures at c.in_ok-push-2.ensures.items) c.loop-names.invariant.footprints;
      count = rw c.in_ok-push-2.ensures.items (length_push footprints c.footprint-footprint.result ∙ ap (λ (x : ℕ). x + 1) count);
    }

pub returns-clause-plan : goal.returns-clause-plan
returns-clause-plan c = λ k low.
    let waves : List ℕ = c.loop-names.waves.items in
    let len : length waves ≡ c.loop-names.names-index = c.loop-names.invariant.len in
    let below : k < length waves = omega arith in
    c.loop-names.invariant.going.planned (λ j. get_or waves j 0) (λ j l. refl) k below

pub returns-clause-sets : goal.returns-clause-sets
returns-clause-sets c = λ p f.
    let len : length c.loop-names.waves.items ≡ c.loop-names.names-index = c.loop-names.invariant.len in
    let principal_waves : length c.loop-names.waves.items ≡ length c.args.calls.now = omega arith in
    rw c.into_sets.ensures
    (subst (λ (x : ℕ). has_member (members_of c.loop-names.reaches p) f ≡ may_have c.args.free (has_pair c.args.pairs.now) c.args.calls.now x p f) principal_waves (c.loop-names.invariant.going.sets p f))

pub returns-clause-footprints : goal.returns-clause-footprints
returns-clause-footprints c = rw c.into_sets.ensures c.loop-names.invariant.footprints
