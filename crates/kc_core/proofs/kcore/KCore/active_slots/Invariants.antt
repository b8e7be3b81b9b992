use Rattle.std.proofs.Common.{ℕ, ◌≡◌, ◌<◌, ◌≤◌, false, length}
use Rattle.std.specs.Prelude.{slice_index_or}
use Rattle.kc_model.specs.State.{slot_at}
use Rattle.kc_model.specs.Refusals.{is_active}
use Rattle.kc_model.specs.Lawful.{IsLawful}
use Rattle.kc_core.proofs.kcore.KCore.active_slots.Given as goal

-- the slots so far are marked if active, and the others are not marked
abbrev pub invariant-slots : goal.invariant-slots
invariant-slots l = record {
  so_far : (v : ℕ) → v < l.vm → slice_index_or l.marks v false ≡ is_active (slot_at l.self.state v).phase;
  past : (v : ℕ) → l.vm ≤ v → slice_index_or l.marks v false ≡ false;
  long : length l.marks ≡ 1024;
  lawful : 0 < l.vm → IsLawful l.self.state;
}
