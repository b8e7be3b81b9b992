use Rattle.std.proofs.Common.{◌≡◌, ◌++◌, ◌∙◌, sym, ap, ap₂, append-nil, List, Option}
use Rattle.std.specs.Option.{option_to_list}
use Rattle.kc_types.specs.declared.reply.Reply.{Reply}
use Rattle.kc_types.specs.declared.custody.Event.{Event}
use Rattle.kc_model.specs.Events.{events_by}
use Rattle.kc_remarks.specs.declared.remark.NamedFrame.{NamedFrame}
use Rattle.kc_remarks.specs.Attempts.{attempt_told, attempts_in}
use Rattle.kc_remarks.specs.Remarks.{notes_by}
use Rattle.kc_remarks.proofs.Attempts.{of-call}
use Rattle.kc_custody.proofs.noting.summarize_call.Goals as goal
use Rattle.kc_custody.proofs.noting.summarize_call.Goals.{in-Some+in_ok-push, in_default}

pub returns-clause-attempts : goal.returns-clause-attempts
returns-clause-attempts c =
    let found = c.attempt_told.ensures ∙ ap₂ (λ (named : Option NamedFrame) (reply : Reply). attempt_told c.args.line named reply) c.named_by-named.ensures c.in_ok-reply.ensures.reply in
    let all : attempts_in (notes_by c.args.line c.args.core.now.state c.args.call.now) ≡ option_to_list c.attempt_told.result = of-call _ _ _ ∙ ap option_to_list (sym found) in
    rw all (elim c.match-attempt_told.branch [
      | in-Some+in_ok-push w ↦ rw (w.attempts-is, w.in-Some.is) w.in_ok-push.ensures.items
      | in_default w ↦ rw (w.attempts-is, w.in_default.is) (sym (append-nil c.args.attempts.now.items))
    ])

pub returns-clause-lives : goal.returns-clause-lives
returns-clause-lives c =
    let all = c.in_ok-reply.ensures.told ∙ ap (λ (xs : List Event). xs ++ events_by c.args.line c.args.core.now.state c.args.call.now) c.new-events.ensures.items in
    rw (← all) c.in_ok-note_all.ensures
