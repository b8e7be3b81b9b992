use Rattle.std.proofs.Common.{codes, ◌++◌, [], ◌∷◌}
use Rattle.kc_trace.specs.Spelling.{line_of}
use Rattle.kc_trace.specs.ReplyText.{reply_line_of}
use Rattle.kc_trace.specs.CustodyText.{member}
use Rattle.kc_trace.proofs.Pushed.{six}
use Rattle.kc_trace.proofs.answer_writer.push_answer.Goals as goal

pub returns-clause-line : goal.returns-clause-line
returns-clause-line c =
    six c.args.text.now.items c.push_member.new.text.items c.push_bytes.new.text.items c.push_line.new.text.items c.push_bytes-2.new.text.items c.push_reply_words.new.text.items c.push_bytes-3.new.text.items
    (member (codes "{\"line\":") c.args.line) (codes ",\"call\":\"") (line_of c.args.call.now) (codes "\",\"reply\":\"") (reply_line_of c.args.reply.now) (codes "\"}" ++ 10 ∷ [])
    c.push_member.ensures.items c.push_bytes.ensures.items c.push_line.ensures.items c.push_bytes-2.ensures.items c.push_reply_words.ensures.words c.push_bytes-3.ensures.items
