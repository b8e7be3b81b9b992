use Rattle.std.proofs.Common.{ℕ, List, ◌++◌, ◌∙◌, ap}
use Rattle.kc_dump_text.specs.DumpText.{dump_text}
use Rattle.kc_snapshot.specs.Form.{in_form}
use Rattle.kc_state_text.specs.StateText.{front_begin, placed_text}
use Rattle.kc_state_text.specs.Pieces.{page_lines}
use Rattle.kc_state_text.proofs.ToCome.{whole_in}
use Rattle.kc_state_text.proofs.pieces.StatePieces.begun.Goals as goal

pub returns : goal.returns
returns c =
    let m = c.args.core.now.state in
    let n = in_form c.args.form m in
    ap (λ (front : List ℕ). front ++ (page_lines n 0 ++ c.all-2.result)) (c.all.ensures ∙ c.in_ok-front.ensures)
    ∙ ap (λ (dump : List ℕ). placed_text c.args.position (front_begin m) ++ (page_lines n 0 ++ dump)) (c.all-2.ensures ∙ c.in_ok-dump.ensures.text ∙ ap dump_text c.requires)
    ∙ whole_in c.args.form c.args.position m
