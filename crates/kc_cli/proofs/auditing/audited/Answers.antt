use Rattle.std.proofs.Common.{rules, ◌≡◌, ◌∙◌, ℕ, List, [], length, ap, ap₂}
use Rattle.std.specs.Prelude.{◌↔◌, IsTrue}
use Rattle.kc_audit.specs.declared.finding.Finding.{Finding}
use Rattle.kc_audit.specs.Report.{written_of}
use Rattle.kc_cli.proofs.auditing.audited.Goals as goal

pub returns-clause-ok : goal.returns-clause-ok
returns-clause-ok g c =
    let same : c.deref.result.now ≡ c.in-Ok.found.items = search rules in
    let shown : c.frames.result.now ≡ c.in_ok-dump.dump.frames = search rules in
    let none : IsTrue c.is_nothing.result ↔ (c.in-Ok.found.items ≡ []) = rw c.deref-2.ensures.value at c.is_nothing.ensures in
    record {
      dump = c.in_ok-dump.dump;
      found = c.in-Ok.found.items;
      read = search rules;
      findings = search rules;
      reported = c.in-Ok-written.ensures ∙ ap₂ (λ (found : List Finding) (frames : ℕ). written_of c.args.all found frames) same (ap length shown);
      nothing = none;
      in_order = (λ sound. c.in-Ok.ensures.sound.0 (none.0 sound), λ sound. none.1 (c.in-Ok.ensures.sound.1 sound));
    }
