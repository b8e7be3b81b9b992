use Rattle.std.proofs.Common.{◌≡◌, ◌≤◌, length, map, sym, ◌∙◌}
use Rattle.std.proofs.lemmas.List.{length-map}
use Rattle.kc_types.specs.Limits.{frame_limit, slot_limit}
use Rattle.kc_types.specs.Configuration.{Configuration, slot_count}
use Rattle.kc_footprints.specs.Naming.{names_of}
use Rattle.kc_footprints.specs.Plan.{wave_of}
use Rattle.kc_footprints.proofs.Waves.{names_range, waves_are}
use Rattle.kc_footprints.proofs.Exact.{footprint_is, are_there}
use Rattle.kc_footprints.proofs.trace.footprints_from.Goals as goal

pub walk_calls-requires-clause-range : goal.walk_calls-requires-clause-range
walk_calls-requires-clause-range c = λ k low.
    let names : c.as_slice.result.now ≡ map (names_of c.args.config.now) c.args.calls.now = c.as_slice.ensures.value ∙ c.in_ok-names.ensures in
    rw (c.frames.ensures.value, c.slots.ensures.value, names) (names_range c.args.config.now c.args.calls.now k (rw names at low))

pub of_walk-requires : goal.of_walk-requires
of_walk-requires c =
    let config : Configuration = c.args.config.now in
    let slots : c.slots.result ≡ slot_count config = c.slots.ensures.value in
    let few_frames : config.frames ≤ frame_limit = rw c.frames.ensures.value at c.frames.ensures.few in
    let few_slots : slot_count config ≤ slot_limit = rw slots at c.slots.ensures.few in
    let names : c.as_slice.result.now ≡ map (names_of config) c.args.calls.now = c.as_slice.ensures.value ∙ c.in_ok-names.ensures in
    let count : length c.in_ok-walk.walk.footprints.items ≡ length c.args.calls.now = (rw names at c.in_ok-walk.ensures.count) ∙ length-map c.args.calls.now (names_of config) in
    are_there config c.args.calls.now c.args.owned.now c.in_ok-walk.walk.sets.items c.in_ok-walk.walk.footprints.items
    (rw (slots, names) at c.in_ok-walk.ensures.footprints) count c.requires.frames few_frames few_slots
    (rw slots at c.in_ok-walk.ensures.size) (rw (slots, names) at c.in_ok-walk.ensures.sets) c.in_ok-walk.ensures.once

pub returns : goal.returns
returns c = λ start in_it owned.
    let config : Configuration = c.args.config.now in
    let is : config ≡ start.config = sym in_it in
    let slots : c.slots.result ≡ slot_count config = c.slots.ensures.value in
    let names : c.as_slice.result.now ≡ map (names_of config) c.args.calls.now = c.as_slice.ensures.value ∙ c.in_ok-names.ensures in
    let count : length c.in_ok-walk.walk.footprints.items ≡ length c.args.calls.now = (rw names at c.in_ok-walk.ensures.count) ∙ length-map c.args.calls.now (names_of config) in
    record {
      count = rw c.of_walk.ensures.calls count;
      touches = λ k r low.
          rw (c.of_walk.ensures.sets, c.of_walk.ensures.calls)
          (footprint_is start c.args.calls.now c.args.owned.now owned c.in_ok-walk.walk.sets.items c.in_ok-walk.walk.footprints.items
          (rw (slots, names, is) at c.in_ok-walk.ensures.footprints) count k r low);
      waves_count = rw c.of_walk.ensures.waves ((rw names at c.in_ok-walk.ensures.len) ∙ length-map c.args.calls.now (names_of config));
      waves =
          rw c.of_walk.ensures.waves
          (waves_are start c.args.calls.now c.args.owned.now (wave_of c.in_ok-walk.walk.waves.items) owned
          (rw (slots, names, is) at c.in_ok-walk.ensures.plan));
    }
