use Rattle.std.proofs.Common.{◌≡◌, length, map, sym, ap, subst, ◌∙◌, arith}
use Rattle.kc_replay.specs.Dealing.{AreDealt}
use Rattle.kc_types.specs.Configuration.{Configuration}
use Rattle.kc_model.specs.State.{State}
use Rattle.kc_model.specs.Footprints.{state_at}
use Rattle.kc_parts.specs.States.{state_of}
use Rattle.kc_core.specs.KCore.{IsCore}
use Rattle.kc_replay.specs.declared.crew.WaveCalls.{WaveCalls}
use Rattle.kc_replay.specs.Wave.{Wave, IsWave, IsRest, IsTaskAt, IsFinishedAt, footprint_of, wave_calls, wave_from, footprints_at, down_from}
use Rattle.kc_replay.specs.Working.{IsTaskOf, Finishes}
use Rattle.kc_replay.proofs.Dealt.{all-dealt, dealt-through}
use Rattle.kc_replay.proofs.Taking.{wave-length, able-at, finished-at}
use Rattle.kc_replay.proofs.Putting.{switched}
use Rattle.kc_replay.proofs.Zips.{zip_length}
use Rattle.kc_replay.proofs.wave.share_out.Goals as goal

-- what is known of the wave holds of the one that is given
pub given-wave : (seen : Wave) (m : State) (given : WaveCalls) → seen ≡ wave_from m given → IsWave seen.start seen.calls seen.footprints seen.members → IsWave seen.start given.calls.now (footprint_of given.footprints.now) given.members.now
given-wave seen m given is wave = subst (λ (x : Wave). IsWave seen.start x.calls x.footprints x.members) is wave

pub its-config : (seen : Wave) (m : State) (given : WaveCalls) → seen ≡ wave_from m given → m.config ≡ seen.start.config
its-config seen m given is = sym (ap (λ (x : Wave). x.start.config) is)

pub take_tasks-requires : goal.take_tasks-requires
take_tasks-requires g c =
    let r = c.requires.1.1.1.1 in
    let given = c.args.wave.now in
    let config : c.args.config.now ≡ g.seen.start.config = its-config g.seen (state_of c.args.config.now c.args.store.now) given r.0 in (
      given-wave g.seen (state_of c.args.config.now c.args.store.now) given r.0 r.1.0,
      (
        subst (λ (x : Wave). length given.footprints.now.calls ≡ length x.calls) r.0 r.1.1.0,
        (
          subst (λ (config : Configuration). IsCore config c.args.store.now) config r.1.1.1.0,
          (subst (λ (config : Configuration). state_of config c.args.store.now ≡ g.seen.start) config (sym (ap (λ (x : Wave). x.start) r.0)), r.1.1.1.1.1),
        ),
      ),
    )

pub run_workers-requires-after_bounds : goal.run_workers-requires-after_bounds
run_workers-requires-after_bounds g c =
    let r = c.requires.1.1.1.1 in
    let given = c.args.wave.now in
    let config : c.args.config.now ≡ g.seen.start.config = its-config g.seen (state_of c.args.config.now c.args.store.now) given r.0 in
    let wave = given-wave g.seen (state_of c.args.config.now c.args.store.now) given r.0 r.1.0 in
    λ κs bounds.
    all-dealt (λ list. list.items) (IsTaskAt g.seen.start given.calls.now (footprint_of given.footprints.now) given.members.now) (length given.members.now) c.in_ok-tasks.tasks.items c.in_ok-tasks.ensures.tasks (IsTaskOf c.args.config.now given.calls.now)
    (λ i task at. subst (λ (config : Configuration). IsTaskOf config given.calls.now task) (sym config) (able-at g.seen.start given.calls.now (footprint_of given.footprints.now) given.members.now wave i task at.within at))

pub put_all-requires : goal.put_all-requires
put_all-requires g c =
    let r = c.requires.1.1.1.1 in
    let given = c.args.wave.now in
    let config : c.args.config.now ≡ g.seen.start.config = its-config g.seen (state_of c.args.config.now c.args.store.now) given r.0 in
    let wave = given-wave g.seen (state_of c.args.config.now c.args.store.now) given r.0 r.1.0 in
    let finished =
    dealt-through (λ list. list.items) (λ list. list.items) (IsTaskAt g.seen.start given.calls.now (footprint_of given.footprints.now) given.members.now) (Finishes c.args.config.now given.calls.now) (IsFinishedAt g.seen.start given.calls.now (footprint_of given.footprints.now) given.members.now)
    (λ i task one at is. finished-at g.seen.start given.calls.now (footprint_of given.footprints.now) given.members.now wave i task one at.within at (subst (λ (config : Configuration). Finishes config given.calls.now task one) config is))
    (length given.members.now) c.in_ok-tasks.tasks.items c.in_ok-finished.finished.items c.in_ok-tasks.ensures.tasks c.in_ok-finished.ensures in
    let same = zip_length _ c.in_ok-tasks.tasks.items c.in_ok-finished.finished.items c.in_ok-finished.ensures ∙ c.in_ok-tasks.ensures.workers in
    let some = r.1.1.1.1.1 in
    let left =
    subst (λ n. IsRest (state_at g.seen.start (wave_calls given.calls.now given.members.now) n) (footprints_at (footprint_of given.footprints.now) given.members.now) (down_from (length given.members.now)) c.take_tasks.new.store)
    (wave-length given.calls.now given.members.now) (switched g.seen.start given.calls.now (footprint_of given.footprints.now) given.members.now wave c.take_tasks.new.store c.in_ok-tasks.ensures.store) in
    let is = sym r.0 in (
      r.1.0,
      (
        subst (λ (x : Wave). AreDealt (IsFinishedAt g.seen.start x.calls x.footprints x.members) (length given.members.now) (map (λ list. list.items) c.in_ok-finished.finished.items)) is finished,
        (
          omega (arith, same, some),
          (
            ap (λ (x : Wave). length x.members) is,
            (
              subst (λ (x : Wave). IsRest (state_at g.seen.start (wave_calls x.calls x.members) (length x.members)) (footprints_at x.footprints x.members) (down_from (length x.members)) c.take_tasks.new.store) is left,
              (c.in_ok-tasks.ensures.places, r.1.1.1.1.0),
            ),
          ),
        ),
      ),
    )
