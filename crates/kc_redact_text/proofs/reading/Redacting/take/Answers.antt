use Rattle.std.proofs.Common.{◌+◌, length, refl, rules}
use Rattle.kc_core.specs.KCore.{state_in}
use Rattle.kc_redact_text.specs.declared.reading.Redacting.{Redacting}
use Rattle.kc_redact_text.proofs.Taken.{taken_ok, taken_err}
use Rattle.kc_redact_text.proofs.reading.Redacting.take.Goals as goal

pub returns-in-Ok-push_each-clause-ok : goal.returns-in-Ok-push_each-clause-ok
returns-in-Ok-push_each-clause-ok c =
    let before = c.args.self.now in
    let after : Redacting = record { reader = c.read_calls.new.reader; total = before.total + length c.args.piece.now; calls = c.push_each.new.calls; denials = c.push_each.new.denials } in
    taken_ok (state_in c.args.core.now) (state_in c.push_each.new.core) before after c.args.piece.now c.in-Ok.more.items c.in-Ok.ensures.answer c.in-Ok.ensures.ok refl c.in-Ok-push_each.ensures.calls c.in-Ok-push_each.ensures.core c.in-Ok-push_each.ensures.counted

pub returns-in-Err : goal.returns-in-Err
returns-in-Err c =
    let before = c.args.self.now in
    let after : Redacting = record { reader = c.read_calls.new.reader; total = before.total + length c.args.piece.now; calls = before.calls; denials = before.denials } in
    record {
      ok = taken_err (state_in c.args.core.now) (state_in c.args.core.now) before after c.args.piece.now c.in-Err.field-0 c.in-Err.ensures.answer (search rules) (search rules) refl c.in-Err.ensures.kept refl refl refl;
      total = refl;
      few = search rules;
      read = λ e. absurd cc;
    }
