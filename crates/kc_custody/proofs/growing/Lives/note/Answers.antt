use Rattle.std.proofs.Common.{◌≡◌, refl}
use Rattle.indexmap.proofs.MapLemmas.{OnOk-map}
use Rattle.kc_types.specs.declared.custody.Change.TheVariants as change
use Rattle.kc_types.specs.declared.custody.Event.TheVariants as event
use Rattle.kc_custody.proofs.Growth.{grown-frame, grown-read, grown-write}
use Rattle.kc_custody.proofs.growing.Lives.note.Goals as goal

pub returns-in_ok-ending-in-Change-Frame : goal.returns-in_ok-ending-in-Change-Frame
returns-in_ok-ending-in-Change-Frame c =
    let told = c.in-Change-Frame.change in
    let named : c.args.event ≡ event.Change (change.Frame told) = cc in
    let noted = c.in_ok-ending-in-Change-Frame.ensures in
    rw named (OnOk-map c.note_frame.result _ _ (λ gives frames before low room grown. grown-frame frames c.in_ok-ending-in-Change-Frame.ending told before c.args.self.now _ noted.noted noted.number gives low room grown) c.note_frame.ensures)

pub returns-in-Change-Phase : goal.returns-in-Change-Phase
returns-in-Change-Phase c =
    let named : c.args.event ≡ event.Change (change.Phase c.in-Change-Phase.change) = cc in
    rw named c.note_phase.ensures

pub returns-in-Read : goal.returns-in-Read
returns-in-Read c = rw c.in-Read.is (OnOk-map c.note.result _ _ (λ gives frames before within room grown. grown-read frames c.in-Read.vm before c.args.self.now _ refl gives room grown) c.note.ensures)

pub returns-in-Write : goal.returns-in-Write
returns-in-Write c = rw c.in-Write.is (OnOk-map c.note-in-Write.result _ _ (λ gives frames before within room grown. grown-write frames c.in-Write.vm before c.args.self.now _ refl gives room grown) c.note-in-Write.ensures)
