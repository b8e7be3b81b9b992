use Rattle.std.proofs.Common.{◌≡◌, ◌≤◌, take, vec_len, vec_capacity}
use Rattle.kc_live.proofs.journal.config_in.Given as goal

-- the first digests are in the room
abbrev pub invariant-loop-digest : goal.invariant-loop-digest
invariant-loop-digest l = record {
  items : l.approved.items ≡ take l.digest-index l.digest-items;
  len : vec_len l.approved ≤ l.digest-index;
  capacity : vec_capacity l.approved ≡ vec_capacity l.fn.room;
}
