use Rattle.std.proofs.Common.{ℕ, ◌≡◌, ◌||◌, true, false, length, take, get_or}
use Rattle.kc_types.specs.declared.owner.Owner.TheVariants.{Vm}
use Rattle.kc_model.specs.Lawful.{same_owner}
use Rattle.kc_dump.specs.Dump.{line_owner}
use Rattle.kc_audit.specs.Findings.{says}
use Rattle.kc_audit.specs.Marks.{has_entry}
use Rattle.kc_audit.proofs.marks.mark_slot.Given as goal

abbrev pub invariant-loop-i : goal.invariant-loop-i
invariant-loop-i l = record {
  count : length l.marks ≡ length l.initial.marks;
  mine : (f g : ℕ) → says l.lines l.vm g f ≡ true → get_or l.marks f false ≡ (get_or l.initial.marks f false || has_entry (take l.i l.entries) g f);
  others : (f : ℕ) → same_owner (line_owner l.lines f) (Vm l.vm) ≡ false → get_or l.marks f false ≡ get_or l.initial.marks f false;
}
