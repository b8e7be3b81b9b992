use Rattle.std.proofs.Common.{ap, sym, ◌∙◌, ◌++◌}
use Rattle.kc_trace.proofs.Pushed.{three}
use Rattle.kc_trace.proofs.HeadWords.{head_ended}
use Rattle.kc_trace.proofs.header_writer.push_head.Goals as goal

pub returns-clause-items : goal.returns-clause-items
returns-clause-items c =
    three c.args.text.now.items c.push_machine.new.text.items c.push_all_approved.new.text.items c.push_last.new.text.items _ _ _
    c.push_machine.ensures.items (rw c.approved.ensures.value at c.push_all_approved.ensures.items) c.push_last.ensures.items
    ∙ ap (λ rest. c.args.text.now.items ++ rest) (sym (head_ended c.args.head.now))
