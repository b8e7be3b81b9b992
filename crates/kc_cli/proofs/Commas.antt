-- The lines of calls with their replies, and what comes before them.
use Rattle.std.proofs.Common.{ℕ, ◌≡◌, ◌<◌, ◌++◌, ◌∙◌, List, length, length-append, ap, ap₂, append_assoc, arith}
use Rattle.kc_types.specs.Configuration.{Configuration}
use Rattle.kc_types.specs.declared.call.Call.{Call}
use Rattle.kc_types.specs.declared.reply.Reply.{Reply}
use Rattle.kc_trace.specs.AnswerText.{answer_line}
use Rattle.kc_trace.specs.CustodyText.{volumes_text}
use Rattle.kc_trace.specs.declared.volume_writer.Chain.{Chain}
use Rattle.kc_trace.specs.declared.volume_writer.VolumeEntry.{VolumeEntry}
use Rattle.kc_cli.specs.Custody.{chain_of, listed}
use Rattle.kc_cli.specs.Lines.{replies_line, placed_answers, lines_text}

-- such a line is not empty
pub answer_longer : (front whole : List ℕ) (line : ℕ) (call : Call) (reply : Reply) → whole ≡ front ++ answer_line line call reply → length front < length whole
answer_longer front whole line call reply is =
    let both = ap length is in
    let long = length-append front (answer_line line call reply) in
    omega (arith, both, long)

-- what comes before the lines, and the lines
pub lines_so : (chain : Chain) (config : Configuration) (volumes entries : List VolumeEntry) (front : List ℕ) (calls : List Call) (replies : List Reply) → front ≡ replies_line chain config ++ volumes_text volumes → chain ≡ chain_of entries → volumes ≡ listed entries
    → front ++ placed_answers volumes calls replies ≡ lines_text config entries calls replies
lines_so chain config volumes entries front calls replies before which named =
    ap (λ (text : List ℕ). text ++ placed_answers volumes calls replies) before ∙ append_assoc (replies_line chain config) (volumes_text volumes) (placed_answers volumes calls replies)
    ∙ ap₂ (λ (c : Chain) (es : List VolumeEntry). replies_line c config ++ (volumes_text es ++ placed_answers es calls replies)) which named
