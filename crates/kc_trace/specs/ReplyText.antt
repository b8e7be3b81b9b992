-- How each reply is spelled.
use Rattle.std.specs.Prelude.{ℕ, List, [], ◌∷◌, ◌++◌, codes}
use Rattle.std.specs.List.{flat_map, join_with_byte}
use Rattle.std.specs.Fmt.{decimal}
use Rattle.hex.specs.Hex.{encode_lower}
use Rattle.kc_types.specs.declared.reply.Reply.{Reply}
use Rattle.kc_types.specs.declared.reply.Reply.TheVariants.{Done, Frame, Image, Data, Fault, Rejected, Refused}
use Rattle.kc_types.specs.Refusals.{name_of}

-- the words of a reply's line: its name, and what it holds
abbrev pub reply_words_of : Reply → List (List ℕ)
reply_words_of Done = codes "done" ∷ []
reply_words_of (Frame frame) = codes "frame" ∷ decimal frame ∷ []
reply_words_of (Image image) = codes "image" ∷ decimal image ∷ []
reply_words_of (Data bytes) = codes "data" ∷ encode_lower bytes ∷ []
reply_words_of (Fault gfn) = codes "fault" ∷ decimal gfn ∷ []
reply_words_of (Rejected image) = codes "rejected" ∷ decimal image ∷ []
reply_words_of (Refused refusal) = codes "refused" ∷ name_of refusal ∷ []

-- the line of a reply, without its newline
abbrev pub reply_line_of : Reply → List ℕ
reply_line_of reply = join_with_byte 32 (reply_words_of reply)

-- the length of the longest line of a reply, with its newline: `data`, and 4,096 bytes
abbrev pub longest_reply : ℕ
longest_reply = 8198

-- the one spelling of a list of replies: a line for each, with no header
abbrev pub reply_text_of : List Reply → List ℕ
reply_text_of replies = flat_map (λ reply. reply_line_of reply ++ 10 ∷ []) replies
