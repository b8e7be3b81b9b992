use Rattle.std.proofs.Common.{◌≡◌, ◌≢◌, rules}
use Rattle.kc_custody.proofs.Gives.{gives-once, gives-twice}
use Rattle.kc_custody.proofs.register.Register.note_frame.Goals as goal

pub returns-in_ok-note_owner-2 : goal.returns-in_ok-note_owner-2
returns-in_ok-note_owner-2 c = λ apart.
    let differ : c.args.told.now.before.owner ≢ c.args.told.now.after.owner = search rules in
    gives-twice c.args.told.now c.args.ending c.args.self.now c.note_owner.new.self c.note_owner-then-ne.new.self apart differ c.in_ok-note_owner.ensures c.in_ok-note_owner-2.ensures

pub returns-else-ne : goal.returns-else-ne
returns-else-ne c = λ apart.
    let same : c.args.told.now.before.owner ≡ c.args.told.now.after.owner = search rules in
    gives-once c.args.told.now c.args.ending c.args.self.now c.note_owner.new.self same c.in_ok-note_owner.ensures
