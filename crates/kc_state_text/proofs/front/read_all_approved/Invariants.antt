use Rattle.kc_model.specs.Volumes.{IsDigest}
use Rattle.kc_state_text.specs.StateText.{approved_line}
use Rattle.kc_state_text.specs.Reading.{AreRead}
use Rattle.kc_state_text.proofs.front.read_all_approved.Given as goal

-- those so far
abbrev pub invariant-loop-number : goal.invariant-loop-number
invariant-loop-number l = AreRead IsDigest approved_line l.number l.text l.digests.items l.rest
