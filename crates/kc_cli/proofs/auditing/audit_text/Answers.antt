use Rattle.std.proofs.Common.{rules, ◌≡◌, ◌∙◌, true, sym, refl, inr}
use Rattle.std.specs.Io.KnownBytes.{Appends}
use Rattle.kc_faults.proofs.Told.{on_err}
use Rattle.kc_cli.proofs.Reported.{audits, begins_audit}
use Rattle.kc_cli.proofs.auditing.audit_text.Goals as goal

pub returns-in-Ok-clause-ok : goal.returns-in-Ok-clause-ok
returns-in-Ok-clause-ok g c =
    let audit = c.in_ok-sound.ensures.ok in
    let given : Appends (g.K.Sink.taken c.args.out.now) (g.K.Sink.taken c.write_whole.new.sink) c.deref-2.result.now = search rules in
    audits _ _ _ _ _ _ _ _ c.in_ok-text.ensures.ok c.in_ok-text.ensures.ended (rw c.deref.ensures.value at audit) (rw c.deref-2.ensures.value at given)

pub returns-clause-sink : goal.returns-clause-sink
returns-clause-sink g c =
    let audit = c.in_ok-sound.ensures.ok in
    let failed : g.K.Sink.failed c.write_whole.new.sink ≡ true = search rules in
    let cut = on_err c.write_whole.result (sym c.write_whole.ensures.mark ∙ failed) c.write_whole.ensures.begun in
    record {
      write = λ e. (failed, begins_audit _ _ _ _ _ _ _ _ c.in_ok-text.ensures.ok c.in_ok-text.ensures.ended (rw c.deref.ensures.value at audit) (rw c.deref-2.ensures.value at cut));
      failed_is = λ bad. refl;
      kept = inr refl;
    }
