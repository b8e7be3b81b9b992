use Rattle.std.proofs.Common.{sym, ◌∙◌}
use Rattle.kc_types.specs.declared.slot.Phase.TheVariants.{Booting}
use Rattle.kc_model.specs.Before.{is_taken, turn_before}
use Rattle.kc_custody.proofs.Passed.{passed-more}
use Rattle.kc_custody.proofs.Pushed.{told-one, told-none}
use Rattle.kc_custody.proofs.before.tell_taken.Goals as goal
use Rattle.kc_custody.proofs.before.tell_taken.Goals.{then-is_taken+in_ok-push, else-is_taken}

pub loop-vm-preserved : goal.loop-vm-preserved
loop-vm-preserved c =
    let next = passed-more (turn_before Booting) (is_taken c.args.core.now.state) c.loop-vm.vm in
    elim c.if-is_taken.branch [
      | then-is_taken+in_ok-push w ↦
          let pushed = rw (w.turn_before.ensures, c.loop-vm.invariant) at w.in_ok-push.ensures.items in
          rw (w.told-is, next) (told-one _ _ _ (turn_before Booting c.loop-vm.vm) (is_taken c.args.core.now.state c.loop-vm.vm) (sym c.is_taken.ensures ∙ w.if-is_taken.true) pushed)
      | else-is_taken w ↦
          rw (w.told-is, next, c.loop-vm.invariant) (told-none _ _ (turn_before Booting c.loop-vm.vm) (is_taken c.args.core.now.state c.loop-vm.vm) (sym c.is_taken.ensures ∙ w.if-is_taken.false))
    ]
