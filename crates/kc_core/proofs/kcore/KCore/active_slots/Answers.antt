use Rattle.std.proofs.Common.{false, ◌∙◌, sym, refl, arith, inl, inr, length-set}
use Rattle.std.proofs.lemmas.Bool.{cases_lt}
use Rattle.kc_model.specs.State.{slot_at}
use Rattle.kc_model.specs.Refusals.{is_active}
use Rattle.kc_model.proofs.States.Slots.{get_or-same}
use Rattle.kc_core.proofs.Marked.{marked-more, unmarked-past, inactive-past, few-slots}
use Rattle.kc_core.proofs.kcore.KCore.active_slots.Goals as goal

pub slots-init : goal.slots-init
slots-init c = record {
  so_far = λ v low. absurd (omega (arith, low));
  past = λ v high. get_or-same 1024 false v;
  long = refl;
  lawful = λ some. absurd (omega (arith, some));
}

pub slots-preserved : goal.slots-preserved
slots-preserved c =
    let before = c.slots.invariant in
    let long = before.long in
    let low = c.slots-test.true in
    record {
      so_far = marked-more c.slots.marks c.slots.vm c.is_active.result (λ v. is_active (slot_at c.args.self.now.state v).phase) (omega (arith, low, long)) before.so_far c.is_active.ensures.value;
      past = unmarked-past c.slots.marks c.slots.vm c.is_active.result before.past;
      long = rw length-set long;
      lawful = λ some. c.is_active.ensures.lawful;
    }

pub returns : goal.returns
returns c = λ v.
    (let before = c.slots.invariant in
    let all = c.slots-test.false in
    let few = few-slots c.args.self.now.state.config in
    elim (cases_lt v c.slots.vm) [
      | inl low ↦ before.so_far v low
      | inr high ↦ before.past v high ∙ sym (inactive-past c.args.self.now.state v (before.lawful (omega (arith, all))) (omega (arith, high, all, few)))
    ])
