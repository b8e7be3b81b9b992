use Rattle.std.proofs.Common.{ℕ, sym, ◌∙◌}
use Rattle.kc_types.specs.declared.custody.Event.{Event}
use Rattle.kc_model.specs.State.{slot_at}
use Rattle.kc_model.specs.Before.{is_measured, turn_before}
use Rattle.kc_custody.proofs.Passed.{passed-more}
use Rattle.kc_custody.proofs.Pushed.{told-one, told-none}
use Rattle.kc_custody.proofs.before.tell_measured.Goals as goal
use Rattle.kc_custody.proofs.before.tell_measured.Goals.{then-is_measured+in_ok-push, else-is_measured}

pub loop-vm-preserved : goal.loop-vm-preserved
loop-vm-preserved c =
    let made : ℕ → Event = λ v. turn_before (slot_at c.args.core.now.state v).phase v in
    let next = passed-more made (is_measured c.args.core.now.state) c.loop-vm.vm in
    elim c.if-is_measured.branch [
      | then-is_measured+in_ok-push w ↦
          let pushed = rw (w.turn_before.ensures, w.phase_at.ensures, c.loop-vm.invariant) at w.in_ok-push.ensures.items in
          rw (w.told-is, next) (told-one _ _ _ (made c.loop-vm.vm) (is_measured c.args.core.now.state c.loop-vm.vm) (sym c.is_measured.ensures ∙ w.if-is_measured.true) pushed)
      | else-is_measured w ↦
          rw (w.told-is, next, c.loop-vm.invariant) (told-none _ _ (made c.loop-vm.vm) (is_measured c.args.core.now.state c.loop-vm.vm) (sym c.is_measured.ensures ∙ w.if-is_measured.false))
    ]
