use Rattle.std.proofs.Common.{refl, inl, inr}
use Rattle.kc_custody.proofs.Growth.{grown-booting, grown-empty, grown-measured}
use Rattle.kc_custody.proofs.growing.Lives.note_phase.Goals as goal

pub returns-in_ok-begin-in-Booting : goal.returns-in_ok-begin-in-Booting
returns-in_ok-begin-in-Booting c = λ frames before low room grown.
    grown-booting frames c.args.told before c.args.self.now _ c.note.new.self c.in-Booting.is refl c.in_ok-note.ensures c.in_ok-begin-in-Booting.ensures.lives c.in_ok-begin-in-Booting.ensures.places low room grown

pub returns-in-Empty : goal.returns-in-Empty
returns-in-Empty c = λ frames before low room grown.
    grown-empty frames c.args.told before c.args.self.now _ c.note.new.self c.in-Empty.is refl c.in_ok-note.ensures c.end.ensures.lives c.end.ensures.places low room grown

pub returns-in-Active : goal.returns-in-Active
returns-in-Active c = λ frames before low room grown. elim c.in-Active.is [
  | inl active ↦ grown-measured frames c.args.told before c.args.self.now _ (rw active refl) (rw active refl) refl c.in_ok-note.ensures room grown
  | inr dead ↦ grown-measured frames c.args.told before c.args.self.now _ (rw dead refl) (rw dead refl) refl c.in_ok-note.ensures room grown
]
