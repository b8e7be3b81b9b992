use Rattle.std.proofs.Common.{◌≡◌, ◌-◌, false, length, drop}
use Rattle.std.specs.Io.KnownBytes.{Keeps, prepend_known}
use Rattle.kc_trace.specs.Spelling.{longest_call}
use Rattle.kc_texts.proofs.ahead.Ahead.fill.Given as goal

-- all bytes are left, some of them ahead
abbrev pub invariant-loop-self : goal.invariant-loop-self
invariant-loop-self g l = record {
  same : Keeps (prepend_known (drop l.fn.self.position l.fn.self.ahead.items) (g.S.Source.left l.fn.self.inner)) (prepend_known (drop l.self.position l.self.ahead.items) (g.S.Source.left l.self.inner));
  ready : g.S.Source.failed l.self.inner ≡ false;
}

abbrev pub decreases-loop-self : goal.decreases-loop-self
decreases-loop-self g l = longest_call - (length l.self.ahead.items - l.self.position)
