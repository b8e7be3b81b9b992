use Rattle.std.proofs.Common.{◌∙◌, sym}
use Rattle.kc_core.specs.KCore.{state_in}
use Rattle.kc_redact_text.proofs.Made.{kept-then, after-then, counts-then}
use Rattle.kc_redact_text.proofs.reading.push_each.Goals as goal

pub loop-call-preserved : goal.loop-call-preserved
loop-call-preserved c =
    let before = c.loop-call.invariant in
    record {
      kept = kept-then (state_in c.args.core.now) (state_in c.loop-call.core) _ _ _ c.loop-call.yielded c.in-Some.call _ before.kept before.made c.in_ok-redacted.ensures.call c.in_ok-push.ensures.items;
      made = c.in_ok-redacted.ensures.core ∙ sym (after-then (state_in c.args.core.now) (state_in c.loop-call.core) c.loop-call.yielded c.in-Some.call before.made);
      counted = counts-then (state_in c.args.core.now) (state_in c.loop-call.core) c.loop-call.yielded c.in-Some.call c.args.denials.now c.loop-call.denials _ before.made before.counted c.in_ok-redacted.ensures.counted;
    }
