use Rattle.std.proofs.Common.{sym, ◌∙◌, refl}
use Rattle.kc_custody.specs.Grown.{no_life}
use Rattle.kc_custody.proofs.Gives.{gives-one}
use Rattle.kc_custody.proofs.register.Register.note.Goals as goal

pub returns-in_ok-note : goal.returns-in_ok-note
returns-in_ok-note c =
    let here = c.in-Some-get_mut.ensures.item.3 in
    gives-one c.args.vm c.in-Some.place c.args.ending c.args.event c.args.self.now _ c.in-Some-get_mut.life.now c.note.new.self refl refl (sym c.place.ensures ∙ c.in-Some.is) here.0 (here.1 no_life) c.in_ok-note.ensures
