use Rattle.std.proofs.Common.{◌≡◌, take}
use Rattle.kc_trace.specs.ReplyText.{reply_text_of}
use Rattle.kc_trace.proofs.reply_writer.write_replies.Given as goal

-- the text of the replies so far
abbrev pub invariant-loop-reply : goal.invariant-loop-reply
invariant-loop-reply l = l.text.items ≡ reply_text_of (take l.reply-index l.replies)
