use Rattle.std.proofs.Common.{◌≡◌, map, take}
use Rattle.kc_footprints.specs.Naming.{names_of}
use Rattle.kc_footprints.proofs.trace.names_of_all.Given as goal

abbrev pub invariant-loop-call : goal.invariant-loop-call
invariant-loop-call l = l.names.items ≡ map (names_of l.config) (take l.call-index l.calls)
