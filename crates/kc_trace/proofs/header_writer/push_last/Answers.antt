use Rattle.std.proofs.Common.{◌∷◌, [], codes, ◌++◌, ap, sym, ◌∙◌, append_assoc}
use Rattle.std.specs.List.{flat_map, join_with_byte}
use Rattle.kc_trace.specs.Header.{position_words, redaction_words}
use Rattle.kc_trace.proofs.Pushed.{three}
use Rattle.kc_trace.proofs.HeadWords.{last_joined}
use Rattle.kc_trace.proofs.header_writer.push_last.Goals as goal

pub returns-clause-items : goal.returns-clause-items
returns-clause-items c =
    let words = join_with_byte 32 (codes "volume" ∷ position_words c.args.position) in
    let redaction = flat_map (λ word. 32 ∷ word) (redaction_words c.args.is_host_redacted) in
    three c.args.text.now.items c.push_words.new.text.items c.push_redaction.new.text.items c.push_bytes.new.text.items words redaction (10 ∷ [])
    c.push_words.ensures.items c.push_redaction.ensures.items c.push_bytes.ensures.items
    ∙ ap (λ rest. c.args.text.now.items ++ rest) (sym (append_assoc words redaction (10 ∷ [])) ∙ ap (λ line. line ++ 10 ∷ []) (sym (last_joined c.args.position c.args.is_host_redacted)))
