use Rattle.std.proofs.Common.{ap, sym, subst, ◌∙◌}
use Rattle.kc_dump.specs.Ranges.{IsDump}
use Rattle.kc_dump.specs.Sound.{IsSound}
use Rattle.kc_snapshot.specs.Form.{in_form}
use Rattle.kc_snapshot.proofs.InForm.{lawful_in, dump_in}
use Rattle.kc_snapshot.proofs.Made.{slots-made}
use Rattle.kc_snapshot.proofs.InRange.{dump-in-range}
use Rattle.kc_snapshot.proofs.Drawn.{sound-drawn}
use Rattle.kc_snapshot.proofs.dumping.dump_with.Goals as goal

pub new-requires : goal.new-requires
new-requires c =
    let m = c.args.core.now.state in
    let form = c.args.digests.now.form in
    let lawful = c.config-config.ensures.lawful in
    let config = c.config-config.ensures.value in
    let version = c.version.ensures ∙ ap (λ x. x.version) config in
    let core = c.core.ensures.value ∙ ap (λ x. x.core) config in
    let leaves = c.leaves.ensures.value ∙ ap (λ x. x.leaves) config in
    let slots = c.in_ok-slots.ensures ∙ slots-made m lawful in
    rw (version, core, leaves, c.free_ends.ensures, slots, c.in_ok-frames.ensures) (subst IsDump (dump_in form m) (dump-in-range (in_form form m) (lawful_in form m lawful)))

pub returns-clause-dump : goal.returns-clause-dump
returns-clause-dump c =
    let m = c.args.core.now.state in
    let form = c.args.digests.now.form in
    let lawful = c.config-config.ensures.lawful in
    let config = c.config-config.ensures.value in
    let version = c.version.ensures ∙ ap (λ x. x.version) config in
    let core = c.core.ensures.value ∙ ap (λ x. x.core) config in
    let leaves = c.leaves.ensures.value ∙ ap (λ x. x.leaves) config in
    let slots = c.in_ok-slots.ensures ∙ slots-made m lawful in
    c.new.ensures ∙ rw (version, core, leaves, c.free_ends.ensures, slots, c.in_ok-frames.ensures) (sym (dump_in form m))

pub returns-clause-sound : goal.returns-clause-sound
returns-clause-sound c = subst IsSound (sym (returns-clause-dump c)) (sound-drawn (in_form c.args.digests.now.form c.args.core.now.state) (lawful_in c.args.digests.now.form c.args.core.now.state c.config-config.ensures.lawful))
