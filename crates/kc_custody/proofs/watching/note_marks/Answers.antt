use Rattle.std.proofs.Common.{rules, ◌≡◌, List, [], ◌∷◌, ◌++◌, ap, ◌∙◌}
use Rattle.std.specs.Prelude.{Some, None, OnOk}
use Rattle.std.proofs.lemmas.Result.{on_ok_weaker}
use Rattle.std.specs.Option.{option_to_list}
use Rattle.kc_types.specs.declared.custody.FrameChange.{FrameChange}
use Rattle.kc_model.specs.Next.{next}
use Rattle.kc_custody.specs.Marks.{mark_of, changed_from}
use Rattle.kc_custody.specs.Movable.{movable}
use Rattle.kc_custody.proofs.Told.{told-only}
use Rattle.kc_custody.proofs.watching.note_marks.Goals as goal

pub returns-in-Some-Some : goal.returns-in-Some-Some
returns-in-Some-Some c =
    let new = (next c.args.core.now.state c.args.call.now).1 in
    let same : movable c.args.core.now.state c.args.call.now ≡ option_to_list (Some c.in-Some-Some.frame) = search rules in
    let told = told-only c.args.line c.args.core.now.state c.args.call.now (Some c.in-Some-Some.frame) c.only_frame.ensures.lawful same in
    let mark = mark_of c.args.line c.args.core.now.state c.in-Some-Some.frame in
    let noted : OnOk c.note_frame.result (c.note_frame.new.marks.items ≡ c.args.marks.now.items ++ mark ∷ []) = search rules in
    let none = c.requires in
    on_ok_weaker c.note_frame.result (λ is. ap (changed_from new) (is ∙ ap (λ (ms : List FrameChange). ms ++ mark ∷ []) none) ∙ told) noted

pub returns-in-Some-None : goal.returns-in-Some-None
returns-in-Some-None c =
    let new = (next c.args.core.now.state c.args.call.now).1 in
    let same : movable c.args.core.now.state c.args.call.now ≡ option_to_list None = search rules in
    let told = told-only c.args.line c.args.core.now.state c.args.call.now None c.only_frame.ensures.lawful same in
    ap (changed_from new) c.requires ∙ told
