use Rattle.std.proofs.Common.{◌≡◌, ◌-◌}
use Rattle.kc_links.specs.Chain.{spelled}
use Rattle.kc_parts.specs.Parts.{links_of}
use Rattle.kc_parts.specs.Emptying.{all_scrubbed}
use Rattle.kc_parts.proofs.parts.Parts.scrub_list.Given as goal

abbrev pub invariant-loop : goal.invariant-loop
invariant-loop l = all_scrubbed l.self (spelled (links_of l.self) (l.end - l.counter) l.at) ≡ all_scrubbed l.initial.self (spelled (links_of l.initial.self) l.end l.initial.at)
