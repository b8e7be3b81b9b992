use Rattle.std.proofs.Common.{◌∙◌, sym, ap}
use Rattle.sha2.specs.Sha256.{sha256}
use Rattle.kc_session.specs.Session.{kept_of}
use Rattle.kc_session.proofs.Traced.{lines_are_witnessed, lines_are_redacted}
use Rattle.kc_session.proofs.session.Session.digest.Goals as goal

pub returns-clause-digest : goal.returns-clause-digest
returns-clause-digest c =
    let kept = kept_of c.self.inside.journal c.self.inside.changes.items in
    rw (← c.self.view_is) (c.digest.ensures.digest ∙ ap sha256 (sym (lines_are_witnessed kept c.digest.ensures.header)))

pub returns-clause-redaction : goal.returns-clause-redaction
returns-clause-redaction c =
    let kept = kept_of c.self.inside.journal c.self.inside.changes.items in
    rw (← c.self.view_is) (lines_are_redacted kept c.digest.ensures.header c.self.invariant c.digest.ensures.short)
