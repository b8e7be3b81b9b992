use Rattle.std.proofs.Common.{◌≡◌, length, map}
use Rattle.kc_replay.specs.Dealing.{AreDealt}
use Rattle.kc_replay.specs.Wave.{IsRest, HasPlaces, IsTaskAt, footprint_of, footprints_at, down_from}
use Rattle.kc_replay.proofs.wave.take_tasks.Given as goal

abbrev pub invariant-loop-place : goal.invariant-loop-place
invariant-loop-place g l = record {
  tasks : AreDealt (IsTaskAt g.start l.wave.calls.now (footprint_of l.wave.footprints.now) l.wave.members.now) l.place (map (λ list. list.items) l.lists.items);
  workers : length l.lists.items ≡ l.workers;
  store : IsRest g.start (footprints_at (footprint_of l.wave.footprints.now) l.wave.members.now) (down_from l.place) l.store;
  places : HasPlaces g.start.config l.store;
}
