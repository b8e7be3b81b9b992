use Rattle.kc_audit.proofs.Following.{ends-early, misfits, goes-on}
use Rattle.kc_audit.proofs.chain.walks.Goals as goal

pub returns-in_default : goal.returns-in_default
returns-in_default c = ends-early _ _ _ _ _ _ _ c.loop-step-test.true (rw c.in_default.is at c.loop-step.invariant)

pub returns-then-not-fits : goal.returns-then-not-fits
returns-then-not-fits c = misfits _ _ _ _ _ _ _ _ c.loop-step-test.true (rw c.in-Some.is at c.loop-step.invariant) _ c.if-not-fits.true c.fits.ensures.fits

pub loop-step-preserved : goal.loop-step-preserved
loop-step-preserved c =
    rw c.index.ensures.value (goes-on _ _ _ _ _ _ _ _ _ c.loop-step-test.true (c.fits.ensures.within c.if-not-fits.false) (rw c.in-Some.is at c.loop-step.invariant) (c.fits.ensures.fits.0 c.if-not-fits.false))
