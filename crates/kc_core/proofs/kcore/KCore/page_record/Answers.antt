use Rattle.std.proofs.Common.{◌≡◌, refl}
use Rattle.kc_core.proofs.Shown.{record-shown}
use Rattle.kc_core.proofs.kcore.KCore.page_record.Goals as goal

pub returns-clause-value : goal.returns-clause-value
returns-clause-value c =
    let is : c.in_ok-frame.frame ≡ c.args.frame = c.in_ok-frame.ensures.value in
    rw (← c.self.view_is, ← is) (record-shown c.self.inside.config c.self.inside.parts c.self.invariant c.in_ok-frame.frame c.page_record.result (rw is (c.in_ok-frame.ensures.valid.0 refl)) c.page_record.ensures)
