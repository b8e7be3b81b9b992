use Rattle.std.proofs.Common.{◌≡◌, refl, sym, ap}
use Rattle.kc_model.specs.State.{Frame}
use Rattle.kc_parts.specs.Chunks.{page_of}
use Rattle.kc_core.proofs.Shown.{frame-shown}
use Rattle.kc_core.proofs.kcore.KCore.bytes.Goals as goal

pub returns-in-Some-clause-value : goal.returns-in-Some-clause-value
returns-in-Some-clause-value c =
    let is : c.in_ok-frame.frame ≡ c.args.frame = c.in_ok-frame.ensures.value in
    rw (← c.self.view_is, ← is) (sym (ap (λ (frame : Frame). frame.bytes) (frame-shown c.self.inside.config c.self.inside.parts c.self.invariant c.in_ok-frame.frame (page_of c.in-Some.page) (rw is (c.in_ok-frame.ensures.valid.0 refl)) (sym c.in-Some.ensures))))
