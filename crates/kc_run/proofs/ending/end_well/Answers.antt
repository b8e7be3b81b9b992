use Rattle.std.proofs.Common.{rules, ◌≡◌}
use Rattle.kc_run.specs.Faults.{empty_line}
use Rattle.kc_run.proofs.ending.end_well.Goals as goal

pub returns-in-Refused-clause-reported : goal.returns-in-Refused-clause-reported
returns-in-Refused-clause-reported g c = rw c.in-Refused.is record { whole = c.tell_volume.ensures.line; begun = λ bad. c.tell_volume.ensures.begun }

pub returns-in-EmptyImage-clause-reported : goal.returns-in-EmptyImage-clause-reported
returns-in-EmptyImage-clause-reported g c =
    let text : c.as_str-in-EmptyImage.result.now ≡ empty_line c.in-EmptyImage.number = search rules in
    rw c.in-EmptyImage.is record { whole = rw text at c.say-in-EmptyImage.ensures.whole; begun = rw text at c.say-in-EmptyImage.ensures.begun }
