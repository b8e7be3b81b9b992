use Rattle.kc_custody.specs.Endings.{no_endings, NotesChange, NotesChanges}
use Rattle.indexmap.proofs.MapLemmas.{OnOk-map}
use Rattle.kc_custody.proofs.Ended.{noted-by}
use Rattle.kc_custody.proofs.endings.Endings.note.Goals as goal

pub returns-clause-noted : goal.returns-clause-noted
returns-clause-noted c =
    let here = c.in-Some.ensures.item.3 in
    let noted : NotesChange c.args.told.now c.in-Some.frame.now c.note.new.self → NotesChanges c.args.told.now c.self.inside.frames.items _ = λ notes low. noted-by c.args.told.now c.self.inside.frames.items c.in-Some.frame.now c.note.new.self here.0 (here.1 no_endings) notes in
    rw (← c.self.view_is) (OnOk-map _ _ _ noted c.note.ensures.noted)
