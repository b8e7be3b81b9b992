use Rattle.std.proofs.Common.{◌≡◌, refl, arith, rules}
use Rattle.kc_types.specs.Refusals.{number_of}
use Rattle.kc_types.specs.declared.reply.Reply.TheVariants as reply
use Rattle.kc_remarks.proofs.Counts.{number_low, after_other, after_frame, after_denial}
use Rattle.kc_remarks.proofs.denials.Denials.note.Goals as goal

pub count-requires : goal.count-requires
count-requires c = let low = number_low c.in-Refused.refusal in omega (arith, low)

pub returns-in-Refused-clause-counted : goal.returns-in-Refused-clause-counted
returns-in-Refused-clause-counted c = λ replies h.
    let low = number_low c.in-Refused.refusal in
    let same : c.from.result ≡ number_of c.in-Refused.refusal = search rules in
    rw c.in-Refused.is (after_denial replies (reply.Refused c.in-Refused.refusal) (number_of c.in-Refused.refusal) c.args.self.now c.count.new.self (λ i. refl) refl refl (omega (arith, low)) c.count.ensures.total (rw same at c.count.ensures.reasons) c.count.ensures.frames h)

pub returns-in-Rejected-clause-counted : goal.returns-in-Rejected-clause-counted
returns-in-Rejected-clause-counted c = λ replies h.
    rw c.in-Rejected.is (after_denial replies (reply.Rejected c.in-Rejected.field-0) 0 c.args.self.now c.count-in-Rejected.new.self (λ i. refl) refl refl (omega arith) c.count-in-Rejected.ensures.total c.count-in-Rejected.ensures.reasons c.count-in-Rejected.ensures.frames h)

pub returns-in-Frame-clause-counted : goal.returns-in-Frame-clause-counted
returns-in-Frame-clause-counted c = λ replies h.
    rw c.in-Frame.is (after_frame replies c.in-Frame.field-0 c.args.self.now c.count_frame.new.self c.count_frame.ensures.total c.count_frame.ensures.reasons c.count_frame.ensures.frames h)

pub returns-in_default-clause-counted : goal.returns-in_default-clause-counted
returns-in_default-clause-counted c = λ replies h. after_other replies c.args.reply.now c.args.self.now (search rules) (search rules) h
