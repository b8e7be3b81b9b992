use Rattle.std.proofs.Common.{◌≡◌, ◌++◌, take}
use Rattle.std.specs.List.{flat_map}
use Rattle.kc_state_text.specs.StateText.{approved_line}
use Rattle.kc_state_text.proofs.writing.push_approved.Given as goal

abbrev pub invariant-loop-digest : goal.invariant-loop-digest
invariant-loop-digest l = l.text.items ≡ l.initial.text.items ++ flat_map approved_line (take l.digest-index l.digests)
