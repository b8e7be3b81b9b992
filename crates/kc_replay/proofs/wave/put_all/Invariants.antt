use Rattle.std.proofs.Common.{ℕ, ◌≡◌, ◌≢◌, ◌<◌, ◌≤◌, length, map, get_or}
use Rattle.kc_replay.specs.Dealing.{AreDealt}
use Rattle.kc_model.specs.Footprints.{state_at, reply_at}
use Rattle.kc_types.specs.declared.reply.Reply.TheVariants.{Done}
use Rattle.kc_replay.specs.Wave.{IsRest, HasPlaces, IsFinishedAt, wave_calls, footprints_at, down_from}
use Rattle.kc_replay.proofs.wave.put_all.Given as goal

abbrev pub invariant-loop-left : goal.invariant-loop-left
invariant-loop-left g l = record {
  few : l.left ≤ length g.wave.members;
  done : AreDealt (IsFinishedAt g.wave.start g.wave.calls g.wave.footprints g.wave.members) l.left (map (λ list. list.items) l.lists.items);
  workers : 0 < length l.lists.items;
  store : IsRest (state_at g.wave.start (wave_calls g.wave.calls g.wave.members) (length (wave_calls g.wave.calls g.wave.members))) (footprints_at g.wave.footprints g.wave.members) (down_from (l.left)) l.store;
  places : HasPlaces g.wave.start.config l.store;
  back : (i : ℕ) → l.left ≤ i → i < length g.wave.members → get_or l.replies (get_or g.wave.members i 0) Done ≡ reply_at g.wave.start (wave_calls g.wave.calls g.wave.members) i;
  kept : (k : ℕ) → ((i : ℕ) → i < length g.wave.members → get_or g.wave.members i 0 ≢ k) → get_or l.replies k Done ≡ get_or l.initial.replies k Done;
  size : length l.replies ≡ length l.initial.replies;
}

abbrev pub decreases-loop-left : goal.decreases-loop-left
decreases-loop-left g l = l.left
