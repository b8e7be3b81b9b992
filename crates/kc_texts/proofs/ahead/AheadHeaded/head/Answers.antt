use Rattle.std.proofs.Common.{◌≡◌, drop, Ok, ap, ◌∙◌, sym}
use Rattle.kc_trace.specs.declared.header.Header.TheVariants.{Three}
use Rattle.kc_texts.proofs.ReadAhead.{found_head, no_head}
use Rattle.kc_texts.proofs.ahead.AheadHeaded.head.Goals as goal

pub returns-in-Ok-Some-Three-default-clause-head : goal.returns-in-Ok-Some-Three-default-clause-head
returns-in-Ok-Some-Three-default-clause-head g c =
    let found = c.in-Ok-Some-Three-default in
    let ahead : c.split_at.result.1.now ≡ drop c.fill.new.self.position c.fill.new.self.ahead.items = rw c.as_slice.ensures.value at c.split_at.ensures.back in
    let is = rw (found.field-0-is, found.field-0-0-0-is) at found.ensures.found in
    found_head _ _ _ found.head is.0 (sym ahead ∙ is.1)

pub returns-in-Ok-None-clause-head : goal.returns-in-Ok-None-clause-head
returns-in-Ok-None-clause-head g c =
    let ahead : c.split_at.result.1.now ≡ drop c.fill.new.self.position c.fill.new.self.ahead.items = rw c.as_slice.ensures.value at c.split_at.ensures.back in
    no_head _ _ c.in_ok-fill.ensures.enough (λ head rest is e. c.in-Ok-None.ensures.none (ap Ok c.in-Ok-None.field-0-is) (Three head) rest is (ahead ∙ e))
