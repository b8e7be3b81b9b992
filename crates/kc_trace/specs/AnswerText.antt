-- How calls are spelled with their replies: one JSON object (RFC 8259) on each line.
use Rattle.std.specs.Prelude.{ℕ, ◌+◌, List, [], ◌∷◌, ◌++◌, codes, length, min, slice_index_or}
use Rattle.std.specs.List.{flat_map, range_with_len}
use Rattle.kc_types.specs.declared.call.Call.{Call}
use Rattle.kc_types.specs.declared.reply.Reply.{Reply}
use Rattle.kc_types.specs.declared.reply.Reply.TheVariants.{Done}
use Rattle.kc_model.specs.Footprints.{call_at}
use Rattle.kc_model.specs.Custody.{first_line}
use Rattle.kc_trace.specs.Spelling.{line_of, longest_call}
use Rattle.kc_trace.specs.ReplyText.{reply_line_of, longest_reply}
use Rattle.kc_trace.specs.CustodyText.{member}

-- the line of a call that is on this line of its trace, and of its reply, both spelled as in traces and reply texts
abbrev pub answer_line : ℕ → Call → Reply → List ℕ
answer_line line call reply = member (codes "{\"line\":") line ++ (codes ",\"call\":\"" ++ (line_of call ++ (codes "\",\"reply\":\"" ++ (reply_line_of reply ++ (codes "\"}" ++ 10 ∷ [])))))

-- more bytes than the longest such line has
abbrev pub longest_answer : ℕ
longest_answer = longest_call + longest_reply + 64

-- the line of the call at this place of a trace, and of its reply
abbrev pub answer_at : List Call → List Reply → ℕ → List ℕ
answer_at calls replies k = answer_line (first_line + k) (call_at calls k) (slice_index_or replies k Done)

-- the text of a trace's calls with their replies
abbrev pub answer_text_of : List Call → List Reply → List ℕ
answer_text_of calls replies = flat_map (answer_at calls replies) (range_with_len 0 (min (length calls) (length replies)))
