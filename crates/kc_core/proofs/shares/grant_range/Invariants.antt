use Rattle.std.proofs.Common.{ℕ, ◌≡◌, ◌≤◌, ◌+◌, ◌-◌}
use Rattle.std.specs.List.{range_with_len}
use Rattle.kc_model.specs.Refusals.{share_at}
use Rattle.kc_model.specs.Effects.{with_each, granted}
use Rattle.kc_parts.specs.States.{state_of, IsLinked}
use Rattle.kc_core.specs.Applying.{KeepsPlaces}
use Rattle.kc_core.proofs.shares.grant_range.Given as goal

-- doing what is left leads to the same state as doing everything
abbrev pub invariant-loop-at : goal.invariant-loop-at
invariant-loop-at l = record {
  from : l.gfn ≤ l.at;
  left : with_each (state_of l.config l.parts) l.vm (range_with_len l.at (l.gfn + l.count - l.at)) granted ≡ with_each (state_of l.config l.initial.parts) l.vm (range_with_len l.gfn l.count) granted;
  slots : (state_of l.config l.parts).slots ≡ (state_of l.config l.initial.parts).slots;
  few : (h : ℕ) → share_at (state_of l.config l.parts) l.vm h ≤ share_at (state_of l.config l.initial.parts) l.vm h + (l.at - l.gfn);
  linked : IsLinked l.config l.parts;
  places : KeepsPlaces l.initial.parts l.parts;
}
