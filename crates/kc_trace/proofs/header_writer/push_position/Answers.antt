use Rattle.std.proofs.Common.{◌∷◌, [], codes, ◌++◌, ap, sym, ◌∙◌, append_assoc}
use Rattle.std.specs.List.{join_with_byte}
use Rattle.kc_trace.specs.Header.{position_words}
use Rattle.kc_trace.proofs.HeadWords.{position_joined}
use Rattle.kc_trace.proofs.header_writer.push_position.Goals as goal

pub returns-clause-items : goal.returns-clause-items
returns-clause-items c =
    let words = join_with_byte 32 (codes "volume" ∷ position_words c.args.position) in
    c.push_bytes.ensures.items
    ∙ ap (λ text. text ++ 10 ∷ []) c.push_words.ensures.items
    ∙ append_assoc c.args.text.now.items words (10 ∷ [])
    ∙ ap (λ line. c.args.text.now.items ++ (line ++ 10 ∷ [])) (sym (position_joined c.args.position))
