use Rattle.std.proofs.Common.{ℕ, List, map, ap, ◌∙◌}
use Rattle.std.proofs.lemmas.Result.{IfOk-weaker}
use Rattle.kc_model.specs.Next.{next}
use Rattle.kc_custody.specs.Marks.{mark_of, changed_from}
use Rattle.kc_custody.proofs.Ordered.{rising, held}
use Rattle.kc_custody.proofs.Told.{told-is}
use Rattle.kc_custody.proofs.watching.several_marks.Goals as goal

pub returns : goal.returns
returns c =
    let frames = c.sort_once.new.numbers.items in
    let new = (next c.args.core.now.state c.args.call.now).1 in
    let told = told-is c.args.line c.args.core.now.state c.args.call.now frames c.movable.ensures.lawful (rising frames c.sort_once.ensures.rising)
    (λ f has. held _ frames c.sort_once.ensures.members f (rw c.in_ok-frames.ensures.frames has)) in
    IfOk-weaker c.marks_of.result _ _ (λ marks is. ap (changed_from new) is ∙ ap (λ (fs : List ℕ). changed_from new (map (mark_of c.args.line c.args.core.now.state) fs)) c.deref.ensures.value ∙ told) c.marks_of.ensures
