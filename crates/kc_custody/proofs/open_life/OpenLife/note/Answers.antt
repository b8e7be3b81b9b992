use Rattle.std.proofs.Common.{◌≡◌}
use Rattle.kc_types.specs.declared.custody.Change.TheVariants as change
use Rattle.kc_types.specs.declared.custody.Event.TheVariants as event
use Rattle.kc_custody.proofs.Grows.{takes-read, takes-write, takes-frame, takes-booting, takes-active, takes-dead, takes-empty}
use Rattle.kc_custody.proofs.open_life.OpenLife.note.Goals as goal

pub returns-in-Read : goal.returns-in-Read
returns-in-Read c = rw c.in-Read.is (takes-read c.in-Read.vm c.args.ending c.args.self.now c.read.new.self c.read.ensures)

pub returns-in-Write : goal.returns-in-Write
returns-in-Write c = rw c.in-Write.is (takes-write c.in-Write.vm c.args.ending c.args.self.now c.write.new.self c.write.ensures)

pub returns-in_ok-change_frame-in-Change-Frame : goal.returns-in_ok-change_frame-in-Change-Frame
returns-in_ok-change_frame-in-Change-Frame c =
    let told = c.in-Change-Frame.told in
    let named : c.args.event ≡ event.Change (change.Frame told) = cc in
    rw named (takes-frame told c.args.ending c.args.self.now c.change_frame.new.self c.in_ok-change_frame-in-Change-Frame.ensures)

pub returns-in-Booting : goal.returns-in-Booting
returns-in-Booting c =
    let told = c.in-Change-Phase.told in
    let named : c.args.event ≡ event.Change (change.Phase told) = cc in
    rw named (takes-booting told c.args.ending c.args.self.now c.end.new.self c.in-Booting.is c.end.ensures)

pub returns-in-Active : goal.returns-in-Active
returns-in-Active c =
    let told = c.in-Change-Phase.told in
    let named : c.args.event ≡ event.Change (change.Phase told) = cc in
    rw named (takes-active told c.args.ending c.args.self.now c.approve.new.self c.in-Active.is c.approve.ensures)

pub returns-in-Dead : goal.returns-in-Dead
returns-in-Dead c =
    let told = c.in-Change-Phase.told in
    let named : c.args.event ≡ event.Change (change.Phase told) = cc in
    rw named (takes-dead told c.args.ending c.args.self.now c.refuse.new.self c.in-Dead.is c.refuse.ensures)

pub returns-in-Empty : goal.returns-in-Empty
returns-in-Empty c =
    let told = c.in-Change-Phase.told in
    let named : c.args.event ≡ event.Change (change.Phase told) = cc in
    rw named (takes-empty told c.args.ending c.args.self.now c.clear.new.self c.in-Empty.is c.clear.ensures)
