use Rattle.std.proofs.Common.{ℕ, suc, ◌≡◌, ◌≤◌, ◌+◌, List, length, sym, ap, subst, ◌∙◌, arith, rules}
use Rattle.std.proofs.lemmas.Result.{err_from_is_err_and}
use Rattle.kc_types.specs.Configuration.{Configuration}
use Rattle.kc_types.specs.declared.call.Call.{Call}
use Rattle.kc_model.specs.State.{State}
use Rattle.kc_model.proofs.Blind.HostBlind.{shows_nothing}
use Rattle.kc_footprints.specs.Commuting.{IsWaves}
use Rattle.kc_footprints.specs.Plan.{wave_of, highest, AreCallsOf}
use Rattle.kc_footprints.specs.Footprints.{AreFootprints}
use Rattle.kc_footprints.specs.Spans.{Footprints}
use Rattle.kc_footprints.proofs.Listing.{at_most}
use Rattle.kc_replay.specs.Wave.{IsWiped, footprint_of}
use Rattle.kc_replay.proofs.Onward.{up-to-none, up-to-config, up-to-all, up-to-next, wave-next, written-whole}
use Rattle.kc_replay.proofs.segment.replay_waves.Goals as goal

-- the plan's waves are the longest chains
longest : (m : State) (calls : List Call) (footprints : Footprints) (plan : List ℕ) → AreFootprints m calls footprints → plan ≡ footprints.waves → IsWaves m calls (wave_of plan)
longest m calls footprints plan are is = subst (λ (waves : List ℕ). IsWaves m calls (wave_of waves)) (sym is) are.waves

-- the calls of a wave
in-wave : (m : State) (calls : List Call) (footprints : Footprints) (plan : List ℕ) (done : ℕ) (members : List ℕ) → AreFootprints m calls footprints → plan ≡ footprints.waves → AreCallsOf (wave_of plan) (length plan) (done + 1) members
    → AreCallsOf (wave_of plan) (length calls) (suc done) members
in-wave m calls footprints plan done members are is of =
    let one : done + 1 ≡ suc done = omega arith in
    let count : length plan ≡ length calls = ap (λ (waves : List ℕ). length waves) is ∙ are.waves_count in
    subst (λ n. AreCallsOf (wave_of plan) n (suc done) members) count (subst (λ w. AreCallsOf (wave_of plan) (length plan) w members) one of)

pub loop-done-init : goal.loop-done-init
loop-done-init g c =
    up-to-none c.args.core.state c.args.calls.now c.requires.lawful (wave_of c.args.prepared.plan) (longest c.args.core.state c.args.calls.now c.args.prepared.footprints c.args.prepared.plan c.requires.footprints c.requires.plan) c.args.prepared.replies.items c.requires.long

pub take_wave-requires-clause-wave : goal.take_wave-requires-clause-wave
take_wave-requires-clause-wave g c κs within =
    let are = in-wave c.args.core.state c.args.calls.now c.args.prepared.footprints c.args.prepared.plan c.loop-done.done c.calls_in.result.now c.requires.footprints c.requires.plan c.calls_in.ensures.members in
    wave-next c.args.core.state c.args.calls.now c.requires.lawful (wave_of c.args.prepared.plan) (longest c.args.core.state c.args.calls.now c.args.prepared.footprints c.args.prepared.plan c.requires.footprints c.requires.plan) (footprint_of c.args.prepared.footprints) (λ k r low. c.requires.footprints.touches k r low)
    c.loop-done.done c.loop-done.store.state c.loop-done.replies.items c.loop-done.invariant c.calls_in.result.now are

pub returns-in_err-store-clause-wiped : goal.returns-in_err-store-clause-wiped
returns-in_err-store-clause-wiped g c =
    let made = err_from_is_err_and c.from_residual.result c.from_residual.ensures.1 in
    let same = up-to-config c.args.core.state c.args.calls.now (wave_of c.args.prepared.plan) c.loop-done.done c.loop-done.store.state c.loop-done.replies.items c.loop-done.invariant in
    rw (made.1, made.2) (subst (λ (config : Configuration). IsWiped config c.in_err-store.field-0.0.left) same c.in_err-store.ensures.wiped)

pub loop-done-preserved : goal.loop-done-preserved
loop-done-preserved g c =
    let replied = rw c.deref_mut.ensures.value at c.in_ok-store.ensures.replies in
    let are = in-wave c.args.core.state c.args.calls.now c.args.prepared.footprints c.args.prepared.plan c.loop-done.done c.calls_in.result.now c.requires.footprints c.requires.plan c.calls_in.ensures.members in
    let one : c.loop-done.done + 1 ≡ suc c.loop-done.done = omega arith in
    let size : c.loop-done.replies.len ≡ length c.take_wave.new.replies = search rules in
    rw (one, written-whole c.take_wave.new.replies c.loop-done.replies.items c.loop-done.replies.len size)
    (up-to-next c.args.core.state c.args.calls.now c.requires.lawful (wave_of c.args.prepared.plan) (longest c.args.core.state c.args.calls.now c.args.prepared.footprints c.args.prepared.plan c.requires.footprints c.requires.plan) (footprint_of c.args.prepared.footprints) (λ k r low. c.requires.footprints.touches k r low)
    c.loop-done.done c.loop-done.store.state c.loop-done.replies.items c.loop-done.invariant c.calls_in.result.now are c.in_ok-store.store.state c.take_wave.new.replies replied c.in_ok-store.ensures.state)

pub returns-clause-replayed : goal.returns-clause-replayed
returns-clause-replayed g c =
    let all : highest c.args.prepared.plan ≤ c.loop-done.done = search rules in
    let end =
    up-to-all c.args.core.state c.args.calls.now c.requires.lawful (wave_of c.args.prepared.plan) (longest c.args.core.state c.args.calls.now c.args.prepared.footprints c.args.prepared.plan c.requires.footprints c.requires.plan) c.loop-done.done c.loop-done.store.state c.loop-done.replies.items
    (λ k low. let last = at_most c.args.prepared.plan k in omega (arith, last, all)) c.loop-done.invariant in
    record { replies = end.0; state = end.1; blind = shows_nothing c.args.core.state c.loop-done.store.state c.args.calls.now c.loop-done.replies.items c.requires.lawful end.0 end.1 }
