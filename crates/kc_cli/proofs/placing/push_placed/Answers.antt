use Rattle.std.proofs.Common.{◌≡◌, ◌<◌, ◌≢◌, length, ap, rules}
use Rattle.std.proofs.Math.ListN.{set}
use Rattle.kc_texts.proofs.Volumes.{begun}
use Rattle.kc_trace.specs.AnswerText.{answer_line}
use Rattle.kc_cli.proofs.Commas.{answer_longer}
use Rattle.kc_cli.proofs.placing.push_placed.Goals as goal

pub returns-clause-line : goal.returns-clause-line
returns-clause-line c =
    let front = c.push_place.new.text.items in
    let whole = c.push_answer-2.new.text.items in
    let line = answer_line c.args.line c.args.call.now c.args.reply.now in
    let some : length c.args.volumes.now ≢ 0 = search rules in
    let at : c.len-start.result ≡ length front = search rules in
    let longer : length front < length whole = answer_longer front whole c.args.line c.args.call.now c.args.reply.now c.push_answer-2.ensures.line in
    begun c.args.volumes.now c.args.line c.args.text.now.items front whole line _ some
    (rw c.volume_of.ensures at c.push_place.ensures.items) c.push_answer-2.ensures.line longer (ap (λ n. set whole n 44) at)
