use Rattle.std.proofs.Common.{◌≡◌, length}
use Rattle.kc_footprints.specs.Planner.{IsTop}
use Rattle.kc_footprints.proofs.planner.Planner.raise.Given as goal

abbrev pub invariant-loop-principal : goal.invariant-loop-principal
invariant-loop-principal l = record {
  reach_waves : IsTop l.principal l.free l.wave l.names l.reaches l.fn.self.reach_waves l.self-inside.reach_waves.items;
  frame_waves : l.self-inside.frame_waves.items ≡ l.fn.self.frame_waves;
  principal_waves : l.self-inside.principal_waves.items ≡ l.fn.self.principal_waves;
  len : length l.self-inside.reach_waves.items ≡ length l.fn.self.reach_waves;
}
